-- When a whole change is refused.
use Rattle.std.specs.Prelude.{◌≡◌, ℕ, ◌+◌, ◌≤◌, true, map}
use Rattle.std.specs.Prelude.{Result, IfErr}
use Rattle.std.specs.List.{AllByRecursion, list_all}
use Rattle.sqlite.specs.declared.error.Error.{Error}
use Rattle.sqlite.specs.State.{State, HasCleanDisk}
use Rattle.card_no.specs.Ranges.{is_valid_range}
use Rattle.acq_message.specs.Elements.{same_key}
use Rattle.acq_soundness.specs.Keys.{are_distinct}
use Rattle.acq_core.specs.declared.change.Change.{Change}
use Rattle.acq_core.specs.declared.posting.Posting.{Posting}
use Rattle.acq_core.specs.declared.reconciliation.Reconciliation.{Reconciliation}
use Rattle.acq_core.specs.declared.request.Request.{Request}
use Rattle.acq_core.specs.Tables.{Tables, after, postings_before, reconciliations_before}
use Rattle.acq_book.specs.Fits.{Fits}
use Rattle.acq_sql_rows.specs.Rows.{version}
use Rattle.acq_sql_rows.specs.Standing.{FailsExcused, FailsExcusedAt, IsInside}
use Rattle.acq_sql_writes.specs.Refused.{IsShortText, AreShort, HasNumbersLeft}
use Rattle.acq_sql_changes.specs.Changed.{HasRoomToFollow}
use Rattle.acq_sql_writes.specs.Apart.{IsToldApart}

-- What the rows of a book are like. Tables with a past have such rows: no two requests have one
-- key, no posting has a higher number than its merchant has postings of its day, and so it is of
-- reconciliations.
pub record HasBookRows (t : Tables) : Type 0 where
  pub ranges : list_all is_valid_range t.ranges ≡ true
  pub texts : AreShort t.requests
  pub keys : are_distinct same_key (map (λ row. row.key) t.requests) ≡ true
  pub cards : AllByRecursion (λ row. IsShortText row.1.card) t.postings
  pub postings : AllByRecursion (λ row. row.0 ≤ postings_before t.postings row.1) t.postings
  pub reconciliations :
      AllByRecursion (λ row. row.0 ≤ reconciliations_before t.reconciliations row.1)
      t.reconciliations

-- it fits the tables, whose rows are those of a book, and so they are after it
pub record Takes (change : Change) (t : Tables) : Type 0 where
  pub fits : Fits t change
  pub before : HasBookRows t
  pub later : HasBookRows (after t change)

-- the posting's number is the next of its merchant and day
abbrev pub IsNextPosting : ℕ → Posting → Tables → Type 0
IsNextPosting number p t = number ≡ postings_before t.postings p + 1

-- so is the reconciliation's
abbrev pub IsNextReconciliation : ℕ → Reconciliation → Tables → Type 0
IsNextReconciliation number r t = number ≡ reconciliations_before t.reconciliations r + 1

-- over tables that take it, and of which this is so too, a change fails only for memory or since
-- the store failed
abbrev pub FailsAmong : {T : Type 0} →
    State → State → Result T Error → Change → (Tables → Type 0) → Type 0
FailsAmong old new result change fits =
    HasNumbersLeft old.now → FailsExcused version old new result (λ t. Takes change t × fits t)

-- the same inside a transaction, over what it shows
abbrev pub FailsInside : {T : Type 0} →
    State → State → Result T Error → Change → (Tables → Type 0) → Type 0
FailsInside old new result change fits =
    HasNumbersLeft old.now → FailsExcusedAt IsInside old new result (λ t. Takes change t × fits t)

-- inside a transaction, one that failed tells a refusal from a fault of the store
abbrev pub TellsApart : {T : Type 0} → State → State → Result T Error → Type 0
TellsApart old new result =
    HasCleanDisk new → (t : Tables) → IsInside old t → IfErr result (IsToldApart old new)

-- a card number that is posted is short, and the row and the posting have room
abbrev pub TakesPosted : Request → ℕ → Posting → Tables → Type 0
TakesPosted row number p t = HasRoomToFollow row number p t × IsShortText p.card
