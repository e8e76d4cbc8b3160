-- both answers have given the same rows so far
use Rattle.std.proofs.Common.{◌≡◌, ◌+◌, List, length}
use Rattle.sqlite_value.specs.Order.{Row}
use Rattle.acq_sql_audit.specs.Compared.{select_of}
use Rattle.acq_sql_audit.proofs.Answering.{IsAnswering}
use Rattle.acq_sql_audit.proofs.comparing.difference_in.Given as goal

abbrev pub invariant-loop-row : goal.invariant-loop-row
invariant-loop-row g l =
    (l.theirs.conn.ghost_name ≡ l.initial.theirs.conn.ghost_name)
    × (l.ours.conn.ghost_name ≡ l.initial.ours.conn.ghost_name)
    × ((rows : List Row) × (l.row ≡ length rows + 1)
    × IsAnswering g.S.Store (select_of l.table) l.fn.file l.theirs.conn.now rows
    × IsAnswering g.M.Store (select_of l.table) l.fn.made l.ours.conn.now rows)
