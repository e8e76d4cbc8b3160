use Rattle.std.proofs.Common.{◌∙◌}
use Rattle.acq_sql.specs.Laws.{left_at}
use Rattle.acq_sql.proofs.sql_book.SqlBook.create.Goals as goal

-- it has no rows yet
pub returns-in-Ok-clause-room : goal.returns-in-Ok-clause-room
returns-in-Ok-clause-room g c clean unlimited =
    record {
      unlimited = c.make_book.ensures.crash.limit ∙ unlimited;
      numbers = c.in-Ok.ensures.room clean;
    }

-- a stop leaves the new book alone
pub returns-in-Ok-clause-left : goal.returns-in-Ok-clause-left
returns-in-Ok-clause-left g c clean =
    left_at g.S.Store g.met.S.Store.settled c.make_book.new.conn _
    (c.in-Ok.ensures.done clean)
