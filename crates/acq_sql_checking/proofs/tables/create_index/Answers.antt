use Rattle.std.proofs.Common.{Ok}
use Rattle.std.proofs.lemmas.Result.{err_from_is_err_and}
use Rattle.sqlite.specs.Held.{state}
use Rattle.acq_sql_checking.proofs.CreatesSucceed.{index_excused}
use Rattle.acq_sql_checking.proofs.TablesMade.{index_added}
use Rattle.acq_sql_checking.proofs.tables.create_index.Goals as goal

pub returns-clause-adds : goal.returns-clause-adds
returns-clause-adds g c clean inside schema at table index makes blank =
    index_added c.args.sql.now (state g.S.Store c.args.tx.now.conn.now)
    (state g.S.Store c.execute.new.self.conn.now)
    (Ok c.in_ok-execute.field-0) schema at table index makes blank
    (c.in_ok-execute.ensures.runs clean inside)

pub returns-in_err-execute-clause-fails : goal.returns-in_err-execute-clause-fails
returns-in_err-execute-clause-fails g c schema at table index takes clean inside opened free
    blank =
    let p = err_from_is_err_and c.from_residual.result c.from_residual.ensures.1 in
    rw (p.1, p.2) (index_excused c.args.sql.now (state g.S.Store c.args.tx.now.conn.now)
    (state g.S.Store c.execute.new.self.conn.now) schema at table index takes blank opened _
    (c.in_err-execute.ensures.runs clean inside))
