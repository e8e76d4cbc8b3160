use Rattle.acq_book.specs.Lookups.{terminal_count_at}
use Rattle.acq_sql.proofs.BookBlames.{terminals_told}
use Rattle.acq_sql.proofs.BookGives.{asked}
use Rattle.acq_sql.proofs.sql_book.SqlBookBook.terminal_count.Goals as goal

pub returns : goal.returns
returns g c =
    let answer = c.terminal_count-answer in
    (asked g.S.Store _ _ answer.new.conn c.counted.new.failures c.self.view_is c.self.invariant
    c.settled.ensures answer.result c.counted.result answer.ensures.looks c.counted.ensures
    (λ t. terminal_count_at t) (λ clean t holds past. answer.ensures.answers clean t holds) _ answer.ensures.fails
    terminals_told).gives
