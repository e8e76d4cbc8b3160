use Rattle.std.proofs.Common.{◌≡◌}
use Rattle.sqlite.specs.Held.{state}
use Rattle.acq_sql_writes.specs.Written.{CommitsNothing}
use Rattle.acq_sql_opening.proofs.ordering.fill_table.Given as goal

abbrev pub invariant-loop-row : goal.invariant-loop-row
invariant-loop-row g l =
    (l.tx.conn.ghost_name ≡ l.initial.tx.conn.ghost_name)
    × CommitsNothing (state g.S.Store l.initial.tx.conn.now) (state g.S.Store l.tx.conn.now)
