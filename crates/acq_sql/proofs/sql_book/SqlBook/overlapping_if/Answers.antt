use Rattle.std.specs.Prelude.{option_and_then}
use Rattle.acq_book.specs.Lookups.{overlapping_at}
use Rattle.acq_sql.proofs.BookBlames.{has_past}
use Rattle.acq_sql.proofs.BookGives.{asked}
use Rattle.acq_sql.proofs.BookLooks.{apart_of}
use Rattle.acq_sql.proofs.sql_book.SqlBook.overlapping_if.Goals as goal

pub returns : goal.returns
returns g c =
    let answer = c.overlapping-answer in
    asked g.S.Store _ _ answer.new.conn c.counted.new.failures c.self.view_is c.self.invariant
    c.settled.ensures answer.result c.counted.result answer.ensures.looks c.counted.ensures
    (λ t. option_and_then (λ ends. overlapping_at t ends.0 ends.1) c.args.bounds)
    (λ clean t holds past. rw c.in-Some.is (answer.ensures.answers clean t holds (apart_of t past)))
    _ answer.ensures.fails has_past
