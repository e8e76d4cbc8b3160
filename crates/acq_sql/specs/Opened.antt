-- What a book in SQL says of its connection.
use Rattle.std.specs.Prelude.{◌≡◌, ◌⊎◌, ◌≤◌, ℕ, Bool, true, false, None, IsTrue}
use Rattle.sqlite_trees.specs.Tree.{Trees}
use Rattle.sqlite_trees.specs.declared.store.Store.{Ghosts}
use Rattle.sqlite.specs.State.{State, HasCleanDisk}
use Rattle.sqlite.specs.Held.{state}
use Rattle.acq_core.specs.Pasts.{HasPast}
use Rattle.acq_core.specs.Tables.{Tables}
use Rattle.acq_sql_rows.specs.ReadBack.{tables_in, tables_of}
use Rattle.acq_book.specs.Promise.{HasRisen}
use Rattle.acq_sql_rows.specs.Standing.{IsAt, IsBased, IsIn, HoldsAfter}
use Rattle.acq_sql_writes.specs.Refused.{HasNumbersLeft}
use Rattle.acq_sql.specs.Kept.{Kept}
use Rattle.acq_sql.specs.Memos.{Recalls}
use Rattle.acq_sql.specs.declared.memo.Memo.{Memo}

-- the tables that trees of a book stand for
abbrev pub tables_left : Trees → Tables
tables_left trees = tables_in trees

-- the disk gave back what was written, and the connection is at tables that events led to
pub record IsOpenAt (s : State) (t : Tables) : Type 0 where
  pub clean : HasCleanDisk s
  pub at : IsAt s t
  pub past : HasPast t

-- what is recalled of them is so, and no group is begun
pub record IsOpenBook (s : State) (t : Tables) (memo : Memo) (in_group : Bool) : Type 0 where
  pub opened : IsOpenAt s t
  pub recalls : Recalls memo t
  pub outside : in_group ≡ false

-- The disk gave back what was written, and the connection is in a transaction that began over the
-- first tables, when the store had met so many faults, and shows the others; events led to both,
-- and what is recalled of these is so.
pub record IsGroup (s : State) (began t : Tables) (faults : ℕ) (memo : Memo) (in_group : Bool)
    : Type 0 where
  pub clean : HasCleanDisk s
  pub inside : IsIn s began t
  pub past : HasPast t
  pub began_past : HasPast began
  pub recalls : Recalls memo t
  pub begun : in_group ≡ true
  pub since : faults ≤ s.faults

-- such a transaction can be rolled back, or was
pub record IsReturnable (s : State) (began : Tables) (faults : ℕ) : Type 0 where
  pub based : IsBased s began
  pub past : HasPast began
  pub shuts : IsTrue s.is_open ⊎ HasRisen faults s.faults
  pub since : faults ≤ s.faults

-- no limit of steps is set, and each table that rows are added to has a number left for one more
pub record IsRoomy (s : State) : Type 0 where
  pub unlimited : s.step_limit ≡ None
  pub numbers : HasNumbersLeft s.now

module _ {S : Type 0} (g : Ghosts S) where
  -- the tables
  abbrev pub tables : Kept S → Tables
  tables book = tables_of (state g book.connection).now

  -- the store gave back what was written
  abbrev pub is_honest : Kept S → Type 0
  is_honest book = HasCleanDisk (state g book.connection)

  -- its database holds tables that events led to, what it recalls of them is so, and no group is
  -- begun
  abbrev pub is_open : Kept S → Type 0
  is_open book = IsOpenBook (state g book.connection) (tables book) book.memo book.in_group

  -- so it is, but a group is begun
  abbrev pub is_within : Kept S → Tables → ℕ → Type 0
  is_within book began faults =
      IsGroup (state g book.connection) began (tables book) faults book.memo book.in_group

  -- it can be given up
  abbrev pub can_return : Kept S → Tables → ℕ → Type 0
  can_return book began faults = IsReturnable (state g book.connection) began faults

  -- the tables in what a stop may leave
  abbrev pub may_leave : Kept S → Tables → Type 0
  may_leave book t =
      (trees : Trees) × (state g book.connection).may_leave trees × (t ≡ tables_left trees)

  -- whatever a stop may leave stores the tables that it reads as, with rows, keys, running totals,
  -- version and schema
  abbrev pub leaves_books : Kept S → Type 0
  leaves_books book =
      (trees : Trees) → (state g book.connection).may_leave trees
      → HoldsAfter (tables_left trees) trees

  -- nothing but memory and a fault of the store is in the way of its calls
  abbrev pub has_room : Kept S → Type 0
  has_room book = IsRoomy (state g book.connection)

  -- how many times the disk has failed or refused
  abbrev pub store_faults : Kept S → ℕ
  store_faults book = (state g book.connection).faults
