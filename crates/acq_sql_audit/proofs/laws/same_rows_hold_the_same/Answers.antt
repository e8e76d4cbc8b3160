use Rattle.sqlite.specs.Held.{state}
use Rattle.acq_sql_rows.proofs.TablesReadBack.{tables_of-holds}
use Rattle.acq_sql_audit.proofs.SameTables.{holds_too}
use Rattle.acq_sql_audit.proofs.laws.same_rows_hold_the_same.Goals as goal

pub returns : goal.returns
returns g c t opened has holds same =
    let file = (state g.S.Store c.args.file.now).now in
    let made = (state g.M.Store c.args.made.now).now in
    let too = holds_too made t holds file has (c.schema.ensures.live opened).0 same in
    (too, tables_of-holds file t too)
