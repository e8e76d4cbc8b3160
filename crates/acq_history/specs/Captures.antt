-- No more is captured than was held.
use Rattle.std.specs.Prelude.{◌≡◌, ◌≤◌, ◌*◌, ◌+◌, ℕ, false, List, Some}
use Rattle.std.specs.List.{list_any}
use Rattle.iso_codec.specs.Message.{IsoMessage}
use Rattle.acq_message.specs.declared.service.Service.TheVariants.{Authorization, Completion}
use Rattle.acq_message.specs.declared.request_key.RequestKey.{RequestKey}
use Rattle.acq_message.specs.declared.request_message.RequestMessage.{RequestMessage}
use Rattle.acq_message.specs.declared.response_code.ResponseCode.TheVariants as code
use Rattle.acq_message.specs.Elements.{amount_in, reference_in}
use Rattle.acq_core.specs.declared.event.Event.{Event}
use Rattle.acq_core.specs.declared.arrival.Arrival.TheVariants.{Requested}
use Rattle.acq_core.specs.Outcome.{Replied}
use Rattle.acq_core.specs.Tables.{Opening, count}
use Rattle.acq_history.specs.Entries.{Entry, is_completing, is_reversing}
use Rattle.acq_history.specs.History.{Found, referred, approval_of, hold_days_of, reversal_of}
use Rattle.acq_history.specs.History.{day_after}
use Rattle.acq_history.specs.PartyHistory.{history_of}
use Rattle.acq_history.specs.Acceptance.{result_on}
use Rattle.acq_history.specs.PostedRows.{PostsRow, completion_posting}

-- a hold that an amount is captured of, at a moment
pub record IsHeld (hold : Found) (reference : ℕ) (amount moment : ℕ) : Type 0 where
  -- an authorization, no more of which is captured than was authorized, nor than a reversal let
  -- remain
  pub service : hold.request.service ≡ Authorization
  pub authorized : amount ≤ amount_in hold.request.message
  pub remaining : (remains : ℕ) → reversal_of hold ≡ Some remains → amount ≤ remains
  -- no completion before has captured of it
  pub uncaptured : list_any (is_completing reference) hold.later ≡ false
  -- its issuer has approved it, and its hold days aren't over, the last second included
  pub approved : ℕ
  pub days : ℕ
  pub at : approval_of hold ≡ Some approved
  pub kept : hold_days_of hold ≡ Some days
  pub in_time : moment ≤ approved + days * 86400

-- a completion posts what it captures of the hold that it names, which is held
pub record Captures (opening : Opening) (h : List Entry) (r : RequestMessage) : Type 0 where
  pub reference : ℕ
  pub hold : Found
  pub named : reference_in r.message ≡ Some reference
  pub found : referred reference h ≡ Some hold
  pub held : IsHeld hold reference (amount_in r.message) r.moment
  pub posts :
      PostsRow opening h (Requested r)
      (completion_posting (day_after opening.first_day h) r reference hold)

-- ---- the laws

-- the histories of a merchant's own events
module _ (m : List ℕ) where
  -- an accepted completion captures no more than is held
  abbrev pub CapturesWithinHold : Type 0
  CapturesWithinHold =
      (opening : Opening) (es : List Event) (r : RequestMessage) (reply : IsoMessage) →
      r.service ≡ Completion →
      result_on m opening es r ≡ Replied code.Approved reply →
      Captures opening (history_of opening (Some m) es) r

  -- of each reference at most one completion is accepted
  abbrev pub CapturesOnce : Type 0
  CapturesOnce =
      (opening : Opening) (es : List Event) (reference : ℕ) →
      count (is_completing reference) (history_of opening (Some m) es) ≤ 1

  -- of each original at most one reversal is accepted
  abbrev pub ReversesOnce : Type 0
  ReversesOnce =
      (opening : Opening) (es : List Event) (original : RequestKey) →
      count (is_reversing original) (history_of opening (Some m) es) ≤ 1
