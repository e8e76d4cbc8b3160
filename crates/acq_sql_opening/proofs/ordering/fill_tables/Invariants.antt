use Rattle.std.proofs.Common.{◌≡◌}
use Rattle.sqlite.specs.Held.{state}
use Rattle.acq_sql_writes.specs.Written.{CommitsNothing}
use Rattle.acq_sql_opening.proofs.ordering.fill_tables.Given as goal

abbrev pub invariant-loop-table : goal.invariant-loop-table
invariant-loop-table g l =
    (l.tx.conn.ghost_name ≡ l.initial.tx.conn.ghost_name)
    × CommitsNothing (state g.S.Store l.initial.tx.conn.now) (state g.S.Store l.tx.conn.now)
