-- Where a connection stands, what a stop leaves of its book, and when a call over it fails.
use Rattle.std.specs.Prelude.{◌≡◌, ℕ, false, None, Result, IfErr, IsTrue}
use Rattle.sqlite.specs.declared.error.Error.{Error}
use Rattle.sqlite.specs.State.{State, HasCleanDisk}
use Rattle.sqlite_trees.specs.Tree.{Trees}
use Rattle.row_lemmas.specs.Excused.{IsExcused}
use Rattle.acq_core.specs.Tables.{Tables}
use Rattle.acq_sql_rows.specs.declared.form.Form.{Form}
use Rattle.acq_sql_rows.specs.Schema.{book_schema}
use Rattle.acq_sql_rows.specs.Rows.{version}
use Rattle.acq_sql_rows.specs.Relation.{HoldsOf, Holds}

-- the connection is open and stands between two transactions, and its database holds these tables
-- in a book of this version
pub record IsAtOf (version : ℕ) (s : State) (t : Tables) : Type 0 where
  pub is_open : IsTrue s.is_open
  pub settled : s.in_transaction ≡ false
  pub same : s.now ≡ s.committed
  pub holds : HoldsOf version s.now t

-- the connection is open, and its database holds these tables in a book of this version
pub record IsOpenOver (version : ℕ) (s : State) (t : Tables) : Type 0 where
  pub is_open : IsTrue s.is_open
  pub holds : HoldsOf version s.now t

-- what a stop left holds these tables in a book of this version, in one of its forms
abbrev pub HoldsAfterOf : ℕ → Tables → Trees → Type 0
HoldsAfterOf version t trees =
    (form : Form) × HoldsOf version (record { schema = book_schema form; trees = trees }) t

-- the same of the version in force
abbrev pub IsAt : State → Tables → Type 0
IsAt = IsAtOf version

abbrev pub HoldsAfter : Tables → Trees → Type 0
HoldsAfter = HoldsAfterOf version

-- ---- inside a transaction

-- the connection stands in a transaction that began over the first tables, and shows the others
pub record IsIn (s : State) (began t : Tables) : Type 0 where
  pub is_open : IsTrue s.is_open
  pub inside : IsTrue s.in_transaction
  pub committed : Holds s.committed began
  pub holds : Holds s.now t

-- A transaction that began over these tables can be given up, whatever it wrote, or was rolled
-- back; unless the connection is shut.
pub record IsBased (s : State) (began : Tables) : Type 0 where
  pub committed : IsTrue s.is_open → Holds s.committed began
  pub ended : s.in_transaction ≡ false → IsTrue s.is_open → s.now ≡ s.committed

-- it stands in one that shows these tables
abbrev pub IsInside : State → Tables → Type 0
IsInside s t = (began : Tables) × IsIn s began t

-- ---- why a call fails

-- where the connection stands so over tables of which this is so, a call fails only for memory or
-- since the store failed
abbrev pub FailsExcusedAt : (State → Tables → Type 0) → {T : Type 0} →
    State → State → Result T Error → (Tables → Type 0) → Type 0
FailsExcusedAt stands old new result fits =
    HasCleanDisk new → (t : Tables) → stands old t → fits t → old.step_limit ≡ None
    → IfErr result (IsExcused old new)

-- over a book of that version of which this is so, a change fails only for memory or since the
-- store failed
abbrev pub FailsExcused : ℕ → {T : Type 0} →
    State → State → Result T Error → (Tables → Type 0) → Type 0
FailsExcused version = FailsExcusedAt (IsAtOf version)
