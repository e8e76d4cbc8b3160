use Rattle.std.specs.Prelude.{option_and_then}
use Rattle.acq_message.specs.Elements.{or_empty}
use Rattle.acq_core.specs.Known.{number_if}
use Rattle.acq_book.specs.Lookups.{admitted_at, merchant_at}
use Rattle.acq_sql.proofs.BookBlames.{has_past}
use Rattle.acq_sql.proofs.BookGives.{asked}
use Rattle.acq_sql.proofs.sql_book.SqlBook.merchant_if.Goals as goal

pub returns : goal.returns
returns g c =
    let answer = c.merchant_and_admitted-answer in
    asked g.S.Store _ _ answer.new.conn c.counted.new.failures c.self.view_is c.self.invariant
    c.settled.ensures answer.result c.counted.result answer.ensures.looks c.counted.ensures
    (λ t. (
      option_and_then (merchant_at t) c.args.id,
      number_if c.args.admitted (admitted_at t (or_empty c.args.id)) c.args.id,
    ))
    (λ clean t holds past. rw c.in-Some.is (answer.ensures.answers clean t holds past))
    _ answer.ensures.fails has_past
