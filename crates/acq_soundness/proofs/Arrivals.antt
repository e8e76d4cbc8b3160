-- What holds of each arrival of an event.
use Rattle.std.proofs.Common.{◌≡◌, ℕ, Bool, true, false, List, [], ◌∷◌, Option, Some, None, Result}
use Rattle.std.proofs.Common.{Ok, Err, refl}
use Rattle.std.specs.Prelude.{if◌then◌else◌}
use Rattle.std.proofs.lemmas.List.Elements.{All-head, All-tail}
use Rattle.iso_codec.specs.declared.decode_fault.DecodeFault.{DecodeFault}
use Rattle.iso_codec.specs.Message.{IsoMessage, IsMessage}
use Rattle.iso_codec.specs.Reading.{reading_of}
use Rattle.iso_codec.proofs.ReadingComputes.{read_as}
use Rattle.acq_message.specs.declared.service.Service.{Service}
use Rattle.acq_message.specs.declared.request_message.RequestMessage.{RequestMessage}
use Rattle.acq_message.specs.FirstCheck.{is_malformed}
use Rattle.acq_message.specs.Services.{service_of}
use Rattle.acq_core.specs.declared.event.Event.{Event}
use Rattle.acq_core.specs.declared.event.Event.TheVariants as event
use Rattle.acq_core.specs.declared.arrival.Arrival.{Arrival}
use Rattle.acq_core.specs.declared.arrival.Arrival.TheVariants.{Malformed, Requested, Answered}
use Rattle.acq_core.specs.declared.arrival.Arrival.TheVariants.{Enrolled, TerminalAdded}
use Rattle.acq_core.specs.Arrivals.{arrival_of, arrival_of_message, arrival_of_reading}
use Rattle.acq_core.specs.Tables.{Tables, step_tables, tables_after}
use Rattle.acq_message.specs.Moments.{is_moment}
use Rattle.acq_soundness.specs.Rows.{FitsMerchant, FitsTerminal}
use Rattle.acq_core.specs.Events.{IsVerdict, IsEvent, AreEvents}

-- a message that the first check passes
pub record IsWhole (r : RequestMessage) : Type 0 where
  pub message : IsMessage r.message
  pub passes : is_malformed r.service r.message ≡ false

-- requests are messages, an answer has a moment and a verdict, and what is enrolled fits its type
abbrev pub IsArrival : Arrival → Type 0
IsArrival (Malformed r) = IsMessage r.message
IsArrival (Requested r) = IsWhole r
IsArrival (Answered moment merchant reference v) = (is_moment moment ≡ true) × IsVerdict v
IsArrival (Enrolled merchant) = FitsMerchant merchant
IsArrival (TerminalAdded terminal) = FitsTerminal terminal
IsArrival other = Unit {0}

of_message : (moment : ℕ) (m : IsoMessage) (o : Option Service) → IsMessage m →
    IsArrival (arrival_of_message moment m o)
of_message moment m None whole = tt
of_message moment m (Some service) whole =
    let r : RequestMessage = record { moment = moment; service = service; message = m } in
    let step : (b : Bool) → is_malformed service m ≡ b →
    IsArrival (if b then Malformed r else Requested r) =
    elim [ true ↦ (λ e. whole) | false ↦ (λ e. record { message = whole; passes = e }) ] in
    step (is_malformed service m) refl

of_reading : (moment : ℕ) (r : Result IsoMessage DecodeFault) →
    ((m : IsoMessage) → r ≡ Ok m → IsMessage m) → IsArrival (arrival_of_reading moment r)
of_reading moment (Err fault) whole = tt
of_reading moment (Ok m) whole = of_message moment m (service_of m.kind) (whole m refl)

pub of_event : (e : Event) → IsEvent e → IsArrival (arrival_of e)
of_event (event.Frame moment text) is =
    of_reading moment (reading_of text) (λ m read. (read_as text m read).is_message)
of_event (event.Answer moment merchant reference v) is = (is.0, is.3)
of_event (event.Enrol merchant currency first) is =
    record { id = is.0; currency = is.1; first_reference = is.2 }
of_event (event.AddTerminal merchant terminal) is = record { merchant = is.0; id = is.1 }
of_event other is = tt

-- what each step keeps holds after any such events
pub kept_by_events : (P : Tables → Type 0) →
    ((t : Tables) (a : Arrival) → IsArrival a → P t → P (step_tables t a)) →
    (t : Tables) (es : List Event) → AreEvents es → P t → P (tables_after t es)
kept_by_events P step t [] are h = h
kept_by_events P step t (e ∷ es) are h =
    kept_by_events P step (step_tables t (arrival_of e)) es (All-tail IsEvent e es are)
    (step t (arrival_of e) (of_event e (All-head IsEvent e es are)) h)
