-- What a run promises of what it accepts: only what may be is asked about, completed or reversed.
use Rattle.std.specs.Prelude.{◌≡◌, ℕ, true, List, ◌∷◌, ◌++◌, length, Some, None, slice_get}
use Rattle.acq_message.specs.declared.service.Service.TheVariants.{Completion}
use Rattle.acq_message.specs.declared.request_message.RequestMessage.{RequestMessage}
use Rattle.acq_message.specs.Elements.{key_of}
use Rattle.acq_core.specs.declared.merchant.Merchant.{Merchant}
use Rattle.acq_core.specs.declared.event.Event.{Event}
use Rattle.acq_core.specs.declared.output.Output.{Output}
use Rattle.acq_core.specs.declared.output.Output.TheVariants as output
use Rattle.acq_core.specs.declared.query.Query.{Query}
use Rattle.acq_core.specs.declared.arrival.Arrival.TheVariants.{Requested}
use Rattle.acq_core.specs.Arrivals.{arrival_of, merchant_named}
use Rattle.acq_core.specs.Outcome.{output_of}
use Rattle.acq_core.specs.Pasts.{IsBook}
use Rattle.acq_core.specs.Tables.{Opening, Tables}
use Rattle.acq_soundness.specs.Requests.{is_reversal}
use Rattle.acq_history.specs.History.{Found, recorded, referred}
use Rattle.acq_history.specs.PartyHistory.{history_of}
use Rattle.acq_history.specs.Told.{IsTold00}
use Rattle.acq_history.specs.Acceptance.{MayComplete, MayReverse, result_on}
use Rattle.acq_history.specs.ExactAcceptance.{IsAdmission, WasAdmitted}

-- What a merchant's request got behind these events is what it results in on the merchant's own
-- history. An issuer was asked about it only if it may be admitted; and a completion or a reversal
-- under a new key was told 00 only if it may complete its hold or reverse its original.
pub record GetsWhatMay (opening : Opening) (m : List ℕ) (es : List Event) (r : RequestMessage)
    (said : List Output) (place : ℕ) : Type 0 where
  pub is_said : slice_get said place ≡ Some (output_of (Some m) (result_on m opening es r))
  pub asked : (query : Query) → slice_get said place ≡ Some (output.Ask query) →
      IsAdmission opening (history_of opening (Some m) es) r query
  pub completed : r.service ≡ Completion →
      recorded (key_of r.service r.message) (history_of opening (Some m) es) ≡ None →
      IsTold00 (result_on m opening es r) →
      (merchant : Merchant) × MayComplete opening (history_of opening (Some m) es) r merchant
  pub reversed : is_reversal r.service ≡ true →
      recorded (key_of r.service r.message) (history_of opening (Some m) es) ≡ None →
      IsTold00 (result_on m opening es r) →
      (merchant : Merchant) × (original : Found)
      × MayReverse opening (history_of opening (Some m) es) r merchant original

-- After a past, further events gave these outputs: so it is of each request of a merchant's among
-- them, and what an issuer was asked about, and so what its answer may approve, passed every check
-- when it came.
pub record AcceptsWhatMay (opening : Opening) (past further : List Event) (said : List Output)
    (m : List ℕ) : Type 0 where
  pub requests : (before later : List Event) (e : Event) (r : RequestMessage) →
      further ≡ before ++ e ∷ later → arrival_of e ≡ Requested r →
      merchant_named (Requested r) ≡ Some m →
      GetsWhatMay opening m (past ++ before) r said (length before)
  pub admitted : (reference : ℕ) (f : Found) →
      referred reference (history_of opening (Some m) (past ++ further)) ≡ Some f →
      WasAdmitted opening reference f

-- so it is of each merchant, whatever past led to the tables from which the run began
abbrev pub AcceptsOnlyWhatMay : Tables → List Event → List Output → Type 0
AcceptsOnlyWhatMay t further said =
    (opening : Opening) (past : IsBook opening t) (m : List ℕ) →
    AcceptsWhatMay opening past.events further said m
