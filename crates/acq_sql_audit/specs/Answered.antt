-- What the answers of two queries tell of two databases.
use Rattle.std.specs.Prelude.{◌≡◌, ℕ, ◌+◌, List, [], ◌∷◌, ◌++◌, length, Option, Some, None}
use Rattle.sqlite_value.specs.Order.{Row}
use Rattle.sqlite.specs.State.{State, Shown}
use Rattle.acq_sql_reads.specs.Shown.{AreFirst}
use Rattle.acq_sql_audit.specs.Compared.{select_of}
use Rattle.acq_sql_audit.specs.Differences.{DifferSo}
use Rattle.acq_sql_audit.specs.declared.difference.Difference.{Difference}
use Rattle.acq_sql_audit.specs.declared.table.Table.{Table}

-- the answer of a query begins with these rows, and this is the next; or they are the answer
abbrev pub Follows : List ℕ → State → List Row → Option Row → Type 0
Follows sql s rows None = Shown sql [] s s rows
Follows sql s rows (Some row) = AreFirst sql [] s (rows ++ row ∷ [])

-- the answers begin with the same rows; and then both end, or they differ so
abbrev pub Tells : Table → State → State → Option Difference → Type 0
Tells table file made None =
    (rows : List Row) × Shown (select_of table) [] file file rows
    × Shown (select_of table) [] made made rows
Tells table file made (Some d) =
    (rows : List Row) × (x : Option Row) × (y : Option Row)
    × Follows (select_of table) file rows x × Follows (select_of table) made rows y
    × (d.table ≡ table) × (d.row ≡ length rows + 1) × DifferSo table d.how x y
