-- What every call of a book promises of its tables, its faults, and what a stop may leave.
use Rattle.std.specs.Prelude.{◌≡◌, ◌⊎◌, ℕ, ◌+◌, ◌<◌, ◌≤◌, ◌^◌, Bool, true, false, List}
use Rattle.std.specs.Prelude.{Result, Ok, Err, IfOk, OnOk, OnErr, is_ok}
use Rattle.acq_core.specs.Tables.{Tables}
use Rattle.acq_core.specs.Pasts.{HasPast}
use Rattle.acq_book.specs.declared.book_fault.BookFault.{BookFault}
use Rattle.acq_book.specs.declared.book_fault.BookFault.TheVariants.{Memory, Store}
use Rattle.acq_book.specs.Visits.{SawAll, SawRows, SawSome}

-- more calls of the store have failed; a count that is full stays as it is
abbrev pub HasRisen : ℕ → ℕ → Type 0
HasRisen old new = (old < new) ⊎ (2 ^ 64 ≤ old + 1)

-- The count of failed calls of the store has risen where a fault of the store is told, and only
-- there: where the call succeeded, or memory ran out, the count is as it was.
abbrev pub CountsFault : {T : Type 0} → Result T BookFault → ℕ → ℕ → Type 0
CountsFault (Ok x) old new = new ≡ old
CountsFault (Err Memory) old new = new ≡ old
CountsFault (Err Store) old new = HasRisen old new

-- a fault of the store is told only where the store itself has met one more, as it counts them
abbrev pub BlamesStore : {T : Type 0} → Result T BookFault → ℕ → ℕ → Type 0
BlamesStore (Ok x) old new = Unit
BlamesStore (Err Memory) old new = Unit
BlamesStore (Err Store) old new = HasRisen old new

-- A look-up or a walk leaves the tables as they are, and adds nothing to what a stop may leave.
-- Where it succeeded, the book stays open; else only a fault of the store itself shuts it.
pub record LooksBy {S : Type 0} (tables : S → Tables) (is_honest is_open : S → Type 0)
    (may_leave : S → Tables → Type 0) (leaves_books : S → Type 0) (failures store_faults : S → ℕ)
    (old new : S) (succeeded : Bool) : Type 0 where
  pub was_honest : is_honest new → is_honest old
  pub was_open : is_open new → is_open old
  pub stays_open : succeeded ≡ true → is_honest new → is_open old → is_open new
  pub shuts : is_honest new → is_open old →
      is_open new ⊎ HasRisen (store_faults old) (store_faults new)
  pub same : is_open new → tables new ≡ tables old
  pub leaves : is_honest new → (t : Tables) → may_leave new t → may_leave old t
  pub books : is_honest new → leaves_books old → leaves_books new
  pub rise : failures old ≤ failures new
  pub counts : store_faults old ≤ store_faults new

-- What a call gives of an open book is what is said of it. It is a look-up; only a fault of the
-- store counts as its failure; and where nothing but memory and such faults is in its way, so it
-- stays.
pub record GivesBy {S T : Type 0} (tables : S → Tables) (is_honest is_open : S → Type 0)
    (may_leave : S → Tables → Type 0) (leaves_books : S → Type 0) (failures store_faults : S → ℕ)
    (has_room : S → Type 0) (old new : S) (result : Result T BookFault)
    (says : T → Type 0) : Type 0 where
  pub value : is_open new → IfOk result says
  pub looks :
      LooksBy tables is_honest is_open may_leave leaves_books failures store_faults old new
      (is_ok result)
  pub store : CountsFault result (failures old) (failures new)
  pub blames : is_honest new → is_open old → has_room old →
      BlamesStore result (store_faults old) (store_faults new)
  pub room : is_open new → has_room old → has_room new

-- A walk over an open book shows its visitor these rows, all or the first of them. So much is said
-- of any book: it shows rows, one at a time.
pub record WalksBy {S Row V : Type 0} (tables : S → Tables) (is_honest is_open : S → Type 0)
    (may_leave : S → Tables → Type 0) (leaves_books : S → Type 0) (failures store_faults : S → ℕ)
    (has_room : S → Type 0) (old new : S) (result : Result (Unit {0}) BookFault)
    (sees : V → Row → Bool → V → Type 0) (rows : List Row) (before after : V) : Type 0 where
  pub seen : is_honest new → is_open old → OnOk result (SawAll sees rows before after)
  pub begun : is_honest new → is_open old → OnErr result (SawSome sees rows before after)
  pub shown : SawRows sees before after (is_ok result)
  pub looks :
      LooksBy tables is_honest is_open may_leave leaves_books failures store_faults old new
      (is_ok result)
  pub store : CountsFault result (failures old) (failures new)
  pub blames : is_honest new → is_open old → has_room old →
      BlamesStore result (store_faults old) (store_faults new)
  pub room : is_open new → has_room old → has_room new

-- A change leads to these tables, or is not made. At any moment a stop leaves what it might before,
-- or the tables with the whole change, and each of them a book that stores them; after a change that
-- was made only these. A book that is open was so before, or its tables are such as events lead to.
-- Only a fault of the store itself shuts it.
pub record MakesBy {S : Type 0} (tables : S → Tables) (is_honest is_open : S → Type 0)
    (may_leave : S → Tables → Type 0) (leaves_books : S → Type 0) (failures store_faults : S → ℕ)
    (old new : S) (succeeded : Bool) (changed : Tables) : Type 0 where
  pub was_honest : is_honest new → is_honest old
  pub was_open : is_open new → is_open old ⊎ HasPast (tables new)
  pub stays_open : succeeded ≡ true → is_honest new → is_open old → is_open new
  pub shuts : is_honest new → is_open old →
      is_open new ⊎ HasRisen (store_faults old) (store_faults new)
  pub made : succeeded ≡ true → is_open old → is_open new → tables new ≡ changed
  pub unmade : succeeded ≡ false → is_open old → is_open new → tables new ≡ tables old
  pub leaves : is_open old → is_honest new → (t : Tables) → may_leave new t →
      may_leave old t ⊎ (t ≡ changed)
  pub settled : succeeded ≡ true → is_open old → is_honest new →
      (t : Tables) → may_leave new t → t ≡ changed
  pub books : is_open old → is_honest new → leaves_books new
  pub rise : failures old ≤ failures new
  pub counts : store_faults old ≤ store_faults new
