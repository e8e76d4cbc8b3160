-- Groups: changes that are kept together or not at all.
--
-- `is_within s began faults` says that a group is open, which began over these tables when the
-- store had met so many faults; `can_return s began faults`, that such a group can be given up,
-- also since a call in it failed.
use Rattle.std.specs.Prelude.{◌≡◌, ◌⊎◌, ℕ, ◌≤◌, Bool, true, false, Result, IfOk, is_ok}
use Rattle.acq_core.specs.Tables.{Tables}
use Rattle.acq_book.specs.declared.book_fault.BookFault.{BookFault}
use Rattle.acq_book.specs.Promise.{HasRisen}

-- it is open, outside a group or within one
abbrev pub IsLive : {S : Type 0} → (S → Type 0) → (S → Tables → ℕ → Type 0) → S → Type 0
IsLive is_open is_within s =
    is_open s ⊎ ((began : Tables) × ((faults : ℕ) × is_within s began faults))

-- A look-up within a group leaves it open over the tables as they are. One that failed may have
-- broken the group off, which is then to be given up.
pub record LooksWithinBy {S : Type 0} (tables : S → Tables) (is_honest : S → Type 0)
    (is_within can_return : S → Tables → ℕ → Type 0) (old new : S) (succeeded : Bool) : Type 0 where
  pub was_within : (began : Tables) (faults : ℕ) → succeeded ≡ true →
      is_within new began faults → ((earlier : ℕ) × is_within old began earlier)
  pub stays : (began : Tables) (faults : ℕ) → succeeded ≡ true → is_honest new →
      is_within old began faults → is_within new began faults
  pub same : (began : Tables) (faults : ℕ) → succeeded ≡ true →
      is_within new began faults → tables new ≡ tables old
  pub breaks : (began : Tables) (faults : ℕ) → succeeded ≡ false → is_honest new →
      is_within old began faults → can_return new began faults

-- and what it gives is what is said of the tables
pub record GivesWithinBy {S T : Type 0} (tables : S → Tables) (is_honest : S → Type 0)
    (is_within can_return : S → Tables → ℕ → Type 0) (old new : S) (result : Result T BookFault)
    (says : T → Type 0) : Type 0 where
  pub value : (began : Tables) (faults : ℕ) → is_within new began faults → IfOk result says
  pub looks : LooksWithinBy tables is_honest is_within can_return old new (is_ok result)

-- A change within a group leads to these tables, and a stop leaves nothing of it. One that failed
-- may have been made in part: the group is to be given up.
pub record MakesWithinBy {S : Type 0} (tables : S → Tables) (is_honest : S → Type 0)
    (is_within can_return : S → Tables → ℕ → Type 0) (may_leave : S → Tables → Type 0)
    (leaves_books : S → Type 0) (old new : S) (succeeded : Bool) (changed : Tables) : Type 0 where
  pub stays : (began : Tables) (faults : ℕ) → succeeded ≡ true → is_honest new →
      is_within old began faults → is_within new began faults
  pub made : (began : Tables) (faults : ℕ) → succeeded ≡ true → is_honest new →
      is_within old began faults → tables new ≡ changed
  pub breaks : (began : Tables) (faults : ℕ) → succeeded ≡ false → is_honest new →
      is_within old began faults → can_return new began faults
  pub leaves : (began : Tables) (faults : ℕ) → is_honest new → is_within old began faults →
      (t : Tables) → may_leave new t → may_leave old t
  pub books : (began : Tables) (faults : ℕ) → is_honest new → is_within old began faults →
      leaves_books old → leaves_books new

-- A group begins over the tables of an open book, and a stop leaves what it might before. Where
-- none was begun, the book is as it was.
pub record BeginsBy {S : Type 0} (tables : S → Tables) (is_honest is_open : S → Type 0)
    (is_within : S → Tables → ℕ → Type 0) (may_leave : S → Tables → Type 0)
    (leaves_books : S → Type 0) (failures store_faults : S → ℕ) (old new : S)
    (succeeded : Bool) : Type 0 where
  pub was_honest : is_honest new → is_honest old
  pub begins : succeeded ≡ true → is_honest new → is_open old →
      is_within new (tables old) (store_faults old)
  pub same : succeeded ≡ true → is_honest new → is_open old → tables new ≡ tables old
  pub unmade : succeeded ≡ false → is_open old → is_open new → tables new ≡ tables old
  pub shuts : succeeded ≡ false → is_honest new → is_open old →
      is_open new ⊎ HasRisen (store_faults old) (store_faults new)
  pub leaves : is_honest new → is_open old → (t : Tables) → may_leave new t → may_leave old t
  pub books : is_honest new → is_open old → leaves_books old → leaves_books new
  pub rise : failures old ≤ failures new
  pub counts : store_faults old ≤ store_faults new

-- A group is kept: the book is open at its tables. At any moment a stop leaves what it might
-- before, or the whole group. Where it isn't kept, the tables are those at which it began; then
-- only a fault of the store itself since shuts the book.
pub record KeepsBy {S : Type 0} (tables : S → Tables) (is_honest is_open : S → Type 0)
    (is_within : S → Tables → ℕ → Type 0) (may_leave : S → Tables → Type 0)
    (leaves_books : S → Type 0) (failures store_faults : S → ℕ) (old new : S)
    (succeeded : Bool) : Type 0 where
  pub was_honest : is_honest new → is_honest old
  pub kept : (began : Tables) (faults : ℕ) → succeeded ≡ true → is_honest new →
      is_within old began faults → is_open new
  pub same : (began : Tables) (faults : ℕ) → succeeded ≡ true → is_honest new →
      is_within old began faults → tables new ≡ tables old
  pub undone : (began : Tables) (faults : ℕ) → succeeded ≡ false →
      is_within old began faults → is_open new → tables new ≡ began
  pub shuts : (began : Tables) (faults : ℕ) → succeeded ≡ false → is_honest new →
      is_within old began faults → is_open new ⊎ HasRisen faults (store_faults new)
  pub leaves : (began : Tables) (faults : ℕ) → is_honest new → is_within old began faults →
      (t : Tables) → may_leave new t → may_leave old t ⊎ (t ≡ tables old)
  pub books : (began : Tables) (faults : ℕ) → is_honest new → is_within old began faults →
      leaves_books old → leaves_books new
  pub rise : failures old ≤ failures new
  pub counts : store_faults old ≤ store_faults new

-- A group is given up: the tables are those at which it began, and a stop leaves what it might
-- before. Only a fault of the store itself since shuts the book.
pub record ReturnsBy {S : Type 0} (tables : S → Tables) (is_honest is_open : S → Type 0)
    (can_return : S → Tables → ℕ → Type 0) (may_leave : S → Tables → Type 0)
    (leaves_books : S → Type 0) (failures store_faults : S → ℕ) (old new : S) : Type 0 where
  pub was_honest : is_honest new → is_honest old
  pub undone : (began : Tables) (faults : ℕ) → can_return old began faults → is_open new →
      tables new ≡ began
  pub shuts : (began : Tables) (faults : ℕ) → is_honest new → can_return old began faults →
      is_open new ⊎ HasRisen faults (store_faults new)
  pub leaves : (began : Tables) (faults : ℕ) → is_honest new → can_return old began faults →
      (t : Tables) → may_leave new t → may_leave old t
  pub books : (began : Tables) (faults : ℕ) → is_honest new → can_return old began faults →
      leaves_books old → leaves_books new
  pub uncounted : failures new ≡ failures old
  pub counts : store_faults old ≤ store_faults new
