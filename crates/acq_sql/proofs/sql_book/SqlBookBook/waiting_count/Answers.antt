use Rattle.std.proofs.Common.{rules}
use Rattle.acq_sql.proofs.BookBlames.{blames_of, waiting_told}
use Rattle.acq_sql.proofs.sql_book.SqlBookBook.waiting_count.Goals as goal

pub returns : goal.returns
returns g c = record {
  value = search rules;
  looks = search rules;
  store = search rules;
  blames = blames_of g.S.Store _ _ c.waiting_count-answer.new.conn c.counted-told.new.failures
      c.self.view_is c.waiting_count-answer.result c.counted-told.result _ c.waiting_count-answer.ensures.fails
      c.counted-told.ensures.same c.counted-told.ensures.fault waiting_told;
  room = search rules;
}
