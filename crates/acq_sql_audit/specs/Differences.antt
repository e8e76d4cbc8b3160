-- Where two databases differ first, and what is said of it.
use Rattle.std.specs.Prelude.{◌≡◌, ◌≢◌, ℕ, ◌-◌, ◌<◌, List, [], ◌∷◌, ◌++◌, codes, take}
use Rattle.std.specs.Prelude.{slice_get, slice_index_or, Option, Some, None, ⊤}
use Rattle.std.specs.Fmt.{decimal}
use Rattle.std.specs.List.{AllByRecursion}
use Rattle.sqlite_value.specs.Order.{Row}
use Rattle.sqlite_trees.specs.Tree.{Trees}
use Rattle.acq_sql_audit.specs.Compared.{HaveSameRows, all_tables, columns_of, name_of, rows_in}
use Rattle.acq_sql_audit.specs.declared.difference.Difference.{Difference}
use Rattle.acq_sql_audit.specs.declared.how.How.{How}
use Rattle.acq_sql_audit.specs.declared.how.How.TheVariants.{Column, Missing, Surplus}
use Rattle.acq_sql_audit.specs.declared.rows.Next.{Next}
use Rattle.acq_sql_audit.specs.declared.rows.Next.TheVariants.{Same, End, Differ}
use Rattle.acq_sql_audit.specs.declared.table.Table.{Table}

-- ---- texts

abbrev pub how_text : How → List ℕ
how_text (Column name) = name.now ++ codes " differs"
how_text Missing = codes "missing"
how_text Surplus = codes "surplus"

-- the table's name, the row's number, and how it differs
abbrev pub text_of : Difference → List ℕ
text_of d = name_of d.table ++ (codes " " ++ (decimal d.row ++ (codes ": " ++ how_text d.how)))

-- ---- rows

-- the file's row, if it has one, differs so from the other: it is missing, or surplus, or this is
-- the name of the first column in which it differs
abbrev pub DifferSo : Table → How → Option Row → Option Row → Type 0
DifferSo table Missing None (Some s) = ⊤
DifferSo table Surplus (Some r) None = ⊤
DifferSo table (Column name) (Some r) (Some s) =
    (at : ℕ) × (name.now ≡ slice_index_or (columns_of table) at []) × (take at r ≡ take at s)
    × (slice_get r at ≢ slice_get s at)
DifferSo table how x y = ⊥

-- how the next rows of two answers compare, if there are any
abbrev pub Compare : Table → Option Row → Option Row → Next → Type 0
Compare table x y Same = (row : Row) × (x ≡ Some row) × (y ≡ Some row)
Compare table x y End = (x ≡ None) × (y ≡ None)
Compare table x y (Differ how) = DifferSo table how x y

-- ---- databases

-- a table has the same rows in both, in the same order
abbrev pub IsSame : Trees → Trees → Table → Type 0
IsSame file made table = rows_in table file ≡ rows_in table made

-- the table begins with the same rows in both, before this one, in which it differs so
pub record StandsAt (file made : Trees) (d : Difference) : Type 0 where
  pub counted : 0 < d.row
  pub before : take (d.row - 1) (rows_in d.table file) ≡ take (d.row - 1) (rows_in d.table made)
  pub differs : DifferSo d.table d.how (slice_get (rows_in d.table file) (d.row - 1))
      (slice_get (rows_in d.table made) (d.row - 1))

-- none, where each table has the same rows in both; or the first
abbrev pub IsFirstDifference : Trees → Trees → Option Difference → Type 0
IsFirstDifference file made None = HaveSameRows file made
IsFirstDifference file made (Some d) =
    (earlier : List Table) × (later : List Table) × (all_tables ≡ earlier ++ d.table ∷ later)
    × AllByRecursion (IsSame file made) earlier × StandsAt file made d
