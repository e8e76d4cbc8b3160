use Rattle.std.proofs.Common.{rules}
use Rattle.acq_sql.proofs.BookBlames.{blames_of, used_told}
use Rattle.acq_sql.proofs.sql_book.SqlBookBook.used_on.Goals as goal

pub returns : goal.returns
returns g c = record {
  value = search rules;
  looks = search rules;
  store = search rules;
  blames = blames_of g.S.Store _ _ c.used_on-answer.new.conn c.counted-told.new.failures
      c.self.view_is c.used_on-answer.result c.counted-told.result _ c.used_on-answer.ensures.fails
      c.counted-told.ensures.same c.counted-told.ensures.fault (used_told c.args.day);
  room = search rules;
}
