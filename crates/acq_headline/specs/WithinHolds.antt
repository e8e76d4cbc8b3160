-- What a run promises of holds: no more is captured than was held, and only once.
use Rattle.std.specs.Prelude.{◌≡◌, ◌≤◌, ◌↔◌, ℕ, false, List, ◌∷◌, ◌++◌, length, map, Some, slice_get}
use Rattle.iso_codec.specs.Message.{IsoMessage}
use Rattle.acq_message.specs.declared.service.Service.TheVariants.{Authorization, Completion}
use Rattle.acq_message.specs.declared.request_key.RequestKey.{RequestKey}
use Rattle.acq_message.specs.declared.request_message.RequestMessage.{RequestMessage}
use Rattle.acq_message.specs.declared.response_code.ResponseCode.TheVariants as code
use Rattle.acq_message.specs.Elements.{amount_in}
use Rattle.acq_core.specs.declared.merchant.Merchant.{Merchant}
use Rattle.acq_core.specs.declared.event.Event.{Event}
use Rattle.acq_core.specs.declared.output.Output.{Output}
use Rattle.acq_core.specs.declared.arrival.Arrival.TheVariants.{Requested}
use Rattle.acq_core.specs.Arrivals.{arrival_of, merchant_named}
use Rattle.acq_core.specs.Outcome.{Replied, output_of}
use Rattle.acq_core.specs.Pasts.{IsBook}
use Rattle.acq_core.specs.Tables.{Opening, Tables, count, prior_of, requests_of}
use Rattle.acq_history.specs.Entries.{is_completing, is_reversing}
use Rattle.acq_history.specs.History.{Found, referred, approval_of, is_completed, is_undone}
use Rattle.acq_history.specs.PartyHistory.{history_of}
use Rattle.acq_history.specs.Isolation.{open_at}
use Rattle.acq_history.specs.Told.{IsTold00}
use Rattle.acq_history.specs.Acceptance.{result_on}
use Rattle.acq_history.specs.Captures.{Captures}
use Rattle.acq_history.specs.OpenHolds.{AsksToCapture, IsListed, IsOpenUntil}

-- what a merchant's completion got behind these events is what it results in on the merchant's own
-- history, and what it captured, where it was approved, was held
pub record CapturedOfHold (opening : Opening) (m : List ℕ) (es : List Event) (r : RequestMessage)
    (said : List Output) (place : ℕ) : Type 0 where
  pub is_said : slice_get said place ≡ Some (output_of (Some m) (result_on m opening es r))
  pub captures : (reply : IsoMessage) → result_on m opening es r ≡ Replied code.Approved reply →
      Captures opening (history_of opening (Some m) es) r

-- After a past, further events gave these outputs and led to these tables. Each completion among
-- them captured what was held; of each hold at most one completion was accepted, and of each
-- original at most one reversal. The tables' open holds are what can be captured next; and an
-- approved hold is open for its hold days, unless it was completed or undone.
pub record HeldWithin (opening : Opening) (past further : List Event) (said : List Output)
    (t : Tables) (m : List ℕ) : Type 0 where
  pub captured : (before later : List Event) (e : Event) (r : RequestMessage) →
      further ≡ before ++ e ∷ later → arrival_of e ≡ Requested r →
      merchant_named (Requested r) ≡ Some m → r.service ≡ Completion →
      CapturedOfHold opening m (past ++ before) r said (length before)
  pub captured_once : (reference : ℕ) →
      count (is_completing reference) (history_of opening (Some m) (past ++ further)) ≤ 1
  pub reversed_once : (original : RequestKey) →
      count (is_reversing original) (history_of opening (Some m) (past ++ further)) ≤ 1
  pub capturable : (r : RequestMessage) (merchant : Merchant) (reference : ℕ) →
      AsksToCapture opening (history_of opening (Some m) (past ++ further)) r merchant reference →
      IsTold00 (result_on m opening (past ++ further) r)
      ↔ IsListed (open_at r.moment (map prior_of (requests_of m t.requests))) reference
      (amount_in r.message)
  pub open_until : (reference approved : ℕ) (hold : Found) →
      referred reference (history_of opening (Some m) (past ++ further)) ≡ Some hold →
      hold.request.service ≡ Authorization → approval_of hold ≡ Some approved →
      is_completed hold ≡ false → is_undone hold ≡ false →
      IsOpenUntil hold approved

-- so it is of each merchant, whatever past led to the tables from which the run began
abbrev pub CapturesWithinHolds : Tables → List Event → List Output → Tables → Type 0
CapturesWithinHolds t further said now =
    (opening : Opening) (past : IsBook opening t) (m : List ℕ) →
    HeldWithin opening past.events further said now m
