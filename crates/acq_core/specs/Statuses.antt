-- Where a request with each status stands, once: its number in tables, and what it lets happen.
use Rattle.std.specs.Prelude.{ℕ, ◌==◌, Bool, true, false, List, [], ◌∷◌, Option, find}
use Rattle.iso_codec.specs.Message.{IsoMessage}
use Rattle.acq_core.specs.declared.status.Status.{Status}
use Rattle.acq_core.specs.declared.status.Status.TheVariants.{Refused, Pending, Declined, Approved}
use Rattle.acq_core.specs.declared.status.Status.TheVariants.{Completed, Reversed}
use Rattle.acq_core.specs.declared.status.Status.TheVariants.{ReversedPending, Reconciled}
use Rattle.acq_core.specs.declared.status.Status.TheVariants.{Lowered}
use Rattle.acq_core.specs.declared.reply_state.ReplyState.{ReplyState}
use Rattle.acq_core.specs.declared.reply_state.ReplyState.TheVariants.{Kept, Awaited, Late}

-- what a status says of a request
pub record Standing : Type 0 where
  -- in tables
  pub number : ℕ
  -- what a repeat of it gets, by the reply that is recorded
  pub repeat_gets : IsoMessage → ReplyState
  -- admitted, and neither answered nor reversed
  pub is_pending : Bool
  -- a reversal of it can be accepted
  pub is_reversible : Bool
  -- approved by its issuer, or accepted
  pub is_approved : Bool

-- its reply was kept, and it can't be reversed
abbrev pub closed : ℕ → Standing
closed number =
    record {
      number = number;
      repeat_gets = Kept;
      is_pending = false;
      is_reversible = false;
      is_approved = false;
    }

-- the table of all statuses
abbrev pub standing : Status → Standing
standing Refused = closed 0
standing Pending =
    record (closed 1) { repeat_gets = Awaited; is_pending = true; is_reversible = true }
standing Declined = closed 2
standing Approved = record (closed 3) { is_reversible = true; is_approved = true }
standing Completed = closed 4
standing Reversed = closed 5
standing ReversedPending = record (closed 6) { repeat_gets = λ reply. Late }
standing Reconciled = closed 7
standing Lowered = record (closed 8) { is_approved = true }

-- in the order of their numbers
abbrev pub all_statuses : List Status
all_statuses =
    Refused ∷ Pending ∷ Declined ∷ Approved ∷ Completed ∷ Reversed ∷ ReversedPending ∷ Reconciled
    ∷ Lowered ∷ []

-- a status's number in tables
abbrev pub status_number : Status → ℕ
status_number status = (standing status).number

-- the status with a number, if there is one
abbrev pub status_numbered : ℕ → Option Status
status_numbered number = find (λ status. status_number status == number) all_statuses
