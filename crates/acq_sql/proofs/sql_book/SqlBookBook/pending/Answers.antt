use Rattle.acq_book.specs.Lookups.{pending_at}
use Rattle.acq_sql.proofs.BookBlames.{pending_told}
use Rattle.acq_sql.proofs.BookGives.{asked}
use Rattle.acq_sql.proofs.sql_book.SqlBookBook.pending.Goals as goal

pub returns : goal.returns
returns g c =
    let answer = c.pending-answer in
    (asked g.S.Store _ _ answer.new.conn c.counted.new.failures c.self.view_is c.self.invariant
    c.settled.ensures answer.result c.counted.result answer.ensures.looks c.counted.ensures
    (λ t. pending_at t c.args.day) (λ clean t holds past. answer.ensures.answers clean t holds) _ answer.ensures.fails
    (pending_told c.args.day)).gives
