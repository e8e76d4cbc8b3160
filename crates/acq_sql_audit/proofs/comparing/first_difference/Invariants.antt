-- the tables before were compared, and are the same
use Rattle.std.proofs.Common.{take}
use Rattle.acq_sql_audit.specs.Compared.{all_tables}
use Rattle.acq_sql_audit.proofs.ComparedTables.{HasCompared}
use Rattle.acq_sql_audit.proofs.comparing.first_difference.Given as goal

abbrev pub invariant-loop-table : goal.invariant-loop-table
invariant-loop-table g l =
    HasCompared g.S.Store g.M.Store l.fn.file l.fn.made l.file l.made l.table-index
    (take l.table-index all_tables)
