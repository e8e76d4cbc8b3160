use Rattle.std.specs.Prelude.{option_and_then}
use Rattle.acq_book.specs.Lookups.{request_at}
use Rattle.acq_sql.proofs.BookBlames.{has_past}
use Rattle.acq_sql.proofs.BookGives.{asked}
use Rattle.acq_sql.proofs.sql_book.SqlBook.request_if.Goals as goal

pub returns : goal.returns
returns g c =
    let answer = c.request-answer in
    asked g.S.Store _ _ answer.new.conn c.counted.new.failures c.self.view_is c.self.invariant
    c.settled.ensures answer.result c.counted.result answer.ensures.looks c.counted.ensures
    (λ t. option_and_then (request_at t) c.args.key)
    (λ clean t holds past. rw c.in-Some.is (answer.ensures.answers clean t holds past))
    _ answer.ensures.fails has_past
