use Rattle.std.proofs.Common.{◌∙◌, ap}
use Rattle.std.specs.Prelude.{option_map}
use Rattle.acq_sql_reads.specs.Looked.{last_numbered_at}
use Rattle.acq_sql.proofs.BookBlames.{has_past}
use Rattle.acq_sql.proofs.BookGives.{asked, passed_on, put_together}
use Rattle.acq_sql.proofs.sql_book.SqlBookBook.last_reconciliation.Goals as goal

pub returns : goal.returns
returns g c =
    let answer = c.last_reconciliation-answer in
    (put_together g.S.Store c.without_number.result
    (rw c.in_ok-last.was at
    (asked g.S.Store _ _ answer.new.conn c.counted.new.failures c.self.view_is c.self.invariant
    c.settled.ensures answer.result c.counted.result answer.ensures.looks c.counted.ensures
    (λ t. last_numbered_at t c.args.merchant c.args.day) answer.ensures.answers _
    answer.ensures.fails has_past))
    (λ found. c.without_number.ensures ∙ ap (option_map (λ row. row.1)) found)).gives

pub returns-in_err-last : goal.returns-in_err-last
returns-in_err-last g c =
    let answer = c.last_reconciliation-answer in
    (passed_on g.S.Store c.in_err-last.field-0.0 c.from_residual.result c.from_residual.ensures
    (rw c.in_err-last.was at
    (asked g.S.Store _ _ answer.new.conn c.counted.new.failures c.self.view_is c.self.invariant
    c.settled.ensures answer.result c.counted.result answer.ensures.looks c.counted.ensures
    (λ t. last_numbered_at t c.args.merchant c.args.day) answer.ensures.answers _
    answer.ensures.fails has_past))).gives
