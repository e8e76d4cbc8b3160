-- What a change leaves, in the connection and on the disk.
use Rattle.std.specs.Prelude.{◌≡◌, ◌+◌, ℕ, Option, Some, true, Result, OnOk, OnErr, IsTrue}
use Rattle.sqlite.specs.declared.error.Error.{Error}
use Rattle.sqlite.specs.State.{State, HasCleanDisk, Survives}
use Rattle.acq_core.specs.declared.request.Request.{Request}
use Rattle.acq_core.specs.declared.status.Status.{Status}
use Rattle.acq_core.specs.declared.remains.Remains.{Remains}
use Rattle.acq_core.specs.declared.posting.Posting.{Posting}
use Rattle.acq_core.specs.declared.reconciliation.Reconciliation.{Reconciliation}
use Rattle.acq_core.specs.declared.change.Change.TheVariants as change
use Rattle.acq_message.specs.declared.request_key.RequestKey.{RequestKey}
use Rattle.iso_codec.specs.Message.{IsoMessage}
use Rattle.acq_core.specs.Numbers.{is_used_count}
use Rattle.acq_core.specs.Tables.{Tables, after, postings_before, reconciliations_before}
use Rattle.acq_core.specs.Tables.{with_next_posting}
use Rattle.acq_book.specs.Lookups.{used_at}
use Rattle.acq_book.specs.Fits.{HasRoom, IsPostedBy}
use Rattle.acq_sql_rows.specs.Rows.{version}
use Rattle.acq_sql_rows.specs.Standing.{IsAtOf, IsAt, HoldsAfter}

-- of tables of which this is so, in a book of that version, a change that succeeded leads to these
-- in one of the version in force
abbrev pub LeadsTo : ℕ → {T : Type 0} →
    State → State → Result T Error → (Tables → Type 0) → (Tables → Tables) → Type 0
LeadsTo earlier old new result fits changed =
    HasCleanDisk new → (t : Tables) → IsAtOf earlier old t → fits t
    → OnOk result (IsAt new (changed t))

-- a change that failed leaves the book as it was
abbrev pub LeavesTables : ℕ → {T : Type 0} → State → State → Result T Error → Type 0
LeavesTables earlier old new result =
    HasCleanDisk new → IsTrue new.is_open → (t : Tables) → IsAtOf earlier old t
    → OnErr result (IsAtOf earlier new t)

-- of such tables, a stop leaves what it might before, or the tables with the whole change
abbrev pub StopsWithin : ℕ → State → State → (Tables → Type 0) → (Tables → Tables) → Type 0
StopsWithin earlier old new fits changed =
    Survives old new (λ trees. (t : Tables) → IsAtOf earlier old t → fits t
    → HoldsAfter (changed t) trees)

-- A change in one transaction is made whole or not at all, of tables of which this is so, in a book
-- of that version. The whole one leaves a book of the version in force.
pub record ChangesWholeOf (earlier : ℕ) {T : Type 0} (old new : State) (result : Result T Error)
    (fits : Tables → Type 0) (changed : Tables → Tables) : Type 0 where
  pub done : LeadsTo earlier old new result fits changed
  pub undone : LeavesTables earlier old new result
  pub stop : StopsWithin earlier old new fits changed

-- the same of a book of the version in force
abbrev pub ChangesWhole : {T : Type 0} →
    State → State → Result T Error → (Tables → Type 0) → (Tables → Tables) → Type 0
ChangesWhole = ChangesWholeOf version

-- ---- a request that counts against its day

-- its day has room for it, where it counts
abbrev pub HasRoomFor : Request → Tables → Type 0
HasRoomFor row t =
    row.admitted ≡ true → is_used_count (1 + used_at t row.key.merchant row.day) ≡ true

-- ---- a posting beside an answer

-- the tables after an answer, with the posting that it makes, if any
abbrev pub with_whole_answer :
    RequestKey → Status → IsoMessage → Option ℕ → Option Posting → Tables → Tables
with_whole_answer key status reply hold_end posting t =
    after t (change.Answered key status reply hold_end posting)

-- the day has room for the posting, whose number is the next of its merchant and day
abbrev pub HasRoomToPost : ℕ → Posting → Tables → Type 0
HasRoomToPost number p t =
    HasRoom t (Some p) × (number ≡ postings_before t.postings p + 1)

-- ---- a request that follows another

-- the tables after a completion or a reversal, with the posting that it makes, if any
abbrev pub with_follow :
    Request → RequestKey → Remains → Option Posting → Tables → Tables
with_follow row original remains posting t =
    after t (change.Follow row original remains posting)

-- the day has room for the row, and for a posting to the same merchant and day, which gets its next
-- number
abbrev pub HasRoomToFollow : Request → ℕ → Posting → Tables → Type 0
HasRoomToFollow row number p t = HasRoomFor row t × HasRoomToPost number p t × IsPostedBy row p

-- ---- a request that posts as it is recorded

-- the tables with a request and the posting that it makes, if any
abbrev pub with_posted : Request → Option Posting → Tables → Tables
with_posted row posting t =
    record (after t (change.AddRequest row)) {
      postings = with_next_posting t.postings posting;
    }

-- ---- a request that reconciles

abbrev pub with_reconciled : Request → Reconciliation → Tables → Tables
with_reconciled row r t = after t (change.Reconciled row r)

-- the day has room for the row, and the number is the reconciliation's next of its merchant and day
abbrev pub HasRoomToReconcile : Request → ℕ → Reconciliation → Tables → Type 0
HasRoomToReconcile row number r t =
    HasRoomFor row t × (number ≡ reconciliations_before t.reconciliations r + 1)
