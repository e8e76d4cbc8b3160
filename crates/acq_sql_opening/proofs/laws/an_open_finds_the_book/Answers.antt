use Rattle.sqlite.specs.Held.{state}
use Rattle.acq_sql_opening.proofs.OpenedBooks.{opened_at}
use Rattle.acq_sql_opening.proofs.laws.an_open_finds_the_book.Goals as goal

pub returns : goal.returns
returns g c t opens live left = opened_at (state g.S.Store c.args.conn.now) t opens live left
