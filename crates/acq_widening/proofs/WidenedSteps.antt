-- One event by eight digits does to the widened tables what it does to the tables by six.
use Rattle.std.proofs.Common.{◌≡◌, ℕ, ◌+◌, ◌*◌, List, Option, Some, None, Bool, true, false, Ok, Err}
use Rattle.std.proofs.Common.{Result, option_map, refl, ap, ◌∙◌}
use Rattle.std.specs.Prelude.{nat_lt, if◌then◌else◌, option_and_then}
use Rattle.iso_codec.specs.Message.{IsoMessage}
use Rattle.iso_codec.specs.declared.decode_fault.DecodeFault.{DecodeFault}
use Rattle.iso_codec.specs.Reading.{reading_of}
use Rattle.day_totals.specs.Day.{last_day}
use Rattle.card_no.specs.Prefix.{six_digits, eight_digits}
use Rattle.card_no.specs.CardNumbers.{is_valid_card, prefix_of_under}
use Rattle.card_no.specs.Ranges.{range_of_prefix}
use Rattle.card_no.specs.Widening.{widened, widened_ranges}
use Rattle.card_no.proofs.WidenedRanges.{card_finds_widened}
use Rattle.acq_message.specs.declared.service.Service.{Service}
use Rattle.acq_message.specs.declared.service.Service.TheVariants.{Authorization, Financial}
use Rattle.acq_message.specs.declared.service.Service.TheVariants.{Completion, Reversal}
use Rattle.acq_message.specs.declared.service.Service.TheVariants.{ReversalAdvice, Reconciliation}
use Rattle.acq_message.specs.declared.service.Service.TheVariants.{NetworkManagement}
use Rattle.acq_message.specs.declared.verdict.Verdict.{Verdict}
use Rattle.acq_message.specs.declared.request_message.RequestMessage.{RequestMessage}
use Rattle.acq_message.specs.Elements.{or_empty}
use Rattle.acq_message.specs.Cards.{card_of}
use Rattle.acq_message.specs.FirstCheck.{is_malformed}
use Rattle.acq_message.specs.Services.{service_of}
use Rattle.acq_core.specs.declared.merchant.Merchant.{Merchant}
use Rattle.acq_core.specs.declared.terminal.Terminal.{Terminal}
use Rattle.acq_core.specs.declared.event.Event.{Event}
use Rattle.acq_core.specs.declared.event.Event.TheVariants as event
use Rattle.acq_core.specs.declared.arrival.Arrival.{Arrival}
use Rattle.acq_core.specs.declared.arrival.Arrival.TheVariants.{Undecoded, Unserved, Malformed}
use Rattle.acq_core.specs.declared.arrival.Arrival.TheVariants.{Requested, Answered, CutOver}
use Rattle.acq_core.specs.declared.arrival.Arrival.TheVariants.{Enrolled, TerminalAdded}
use Rattle.acq_core.specs.declared.output.Output.TheVariants as output
use Rattle.acq_core.specs.Arrivals.{merchant_named, arrival_of, arrival_of_message}
use Rattle.acq_core.specs.Arrivals.{arrival_of_reading}
use Rattle.acq_core.specs.Known.{prefix_in_under, wanted_for_under, known_for}
use Rattle.acq_core.specs.Decision.{decision_under, CutsOver, Reports}
use Rattle.acq_core.specs.Outcome.{outcome_of, output_of}
use Rattle.acq_core.specs.Changes.{change_of}
use Rattle.acq_core.specs.Tables.{Tables, facts_in, known_in_under, after_any}
use Rattle.acq_core.specs.Tables.{step_output_under, step_tables_under}
use Rattle.acq_core.specs.Widening.{widened_tables}
use Rattle.acq_widening.proofs.WidenedDecisions.{widened_known, widened_decision, request_widened}
use Rattle.acq_widening.proofs.WidenedDecisions.{answer_widened, enrolment_widened}
use Rattle.acq_widening.proofs.WidenedDecisions.{terminal_widened, outcome_kept, change_widened}

-- what the second arrival leads to by eight digits, over the widened tables, is what the first one
-- leads to by six, widened, and the host says the same
pub record IsWidened (t : Tables) (a b : Arrival) : Type 0 where
  pub tables :
      step_tables_under eight_digits (widened_tables t) b
      ≡ widened_tables (step_tables_under six_digits t a)
  pub said :
      step_output_under eight_digits (widened_tables t) b ≡ step_output_under six_digits t a

-- where the same is known, but for the ranges, and the same is decided
pub same_step : (t : Tables) (a b : Arrival) → merchant_named b ≡ merchant_named a →
    known_in_under eight_digits (widened_tables t) b
    ≡ widened_known (known_in_under six_digits t a) →
    decision_under eight_digits (widened_known (known_in_under six_digits t a)) b
    ≡ widened_decision (decision_under six_digits (known_in_under six_digits t a) a) →
    IsWidened t a b
same_step t a b named known decided =
    let k = known_in_under six_digits t a in
    let d = decision_under six_digits k a in
    record {
      tables =
          ap (λ k. after_any (widened_tables t) (change_of k (decision_under eight_digits k b)))
          known
          ∙ ap (λ d. after_any (widened_tables t) (change_of (widened_known k) d)) decided
          ∙ change_widened t k d;
      said =
          ap (λ k. output_of (merchant_named b) (outcome_of k (decision_under eight_digits k b)))
          known
          ∙ ap (λ d. output_of (merchant_named b) (outcome_of (widened_known k) d)) decided
          ∙ ap (output_of (merchant_named b)) (outcome_kept k d)
          ∙ ap (λ m. output_of m (outcome_of k d)) named;
    }

-- ---- what is known

module _ (t : Tables) (m : List ℕ) where
  -- the range of a message's card
  range_found : (message : IsoMessage) →
      option_and_then (range_of_prefix (widened_ranges t.ranges))
      (prefix_in_under eight_digits message)
      ≡ option_map widened
      (option_and_then (range_of_prefix t.ranges) (prefix_in_under six_digits message))
  range_found message =
      let card = or_empty (card_of message) in
      let step : (b : Bool) → is_valid_card card ≡ b →
      option_and_then (range_of_prefix (widened_ranges t.ranges))
      (if b then Some (prefix_of_under eight_digits card) else None)
      ≡ option_map widened (option_and_then (range_of_prefix t.ranges)
      (if b then Some (prefix_of_under six_digits card) else None)) =
      elim [ true ↦ (λ valid. card_finds_widened t.ranges card valid) | false ↦ (λ not. refl) ] in
      step (is_valid_card card) refl

  of_request : (s : Service) (message : IsoMessage) →
      known_for (wanted_for_under eight_digits t.day s message) (facts_in (widened_tables t) m)
      ≡ widened_known
      (known_for (wanted_for_under six_digits t.day s message) (facts_in t m))
  of_request Authorization message =
      ap (λ range. record
      (known_for (wanted_for_under six_digits t.day Authorization message) (facts_in t m))
      { range = range }) (range_found message)
  of_request Financial message =
      ap (λ range. record
      (known_for (wanted_for_under six_digits t.day Financial message) (facts_in t m))
      { range = range }) (range_found message)
  of_request Completion message = refl
  of_request Reversal message = refl
  of_request ReversalAdvice message = refl
  of_request Reconciliation message = refl
  of_request NetworkManagement message = refl

-- ---- by what came

pub cut_over_widened : (t : Tables) → IsWidened t CutOver CutOver
cut_over_widened t =
    same_step t CutOver CutOver refl refl
    (elim (nat_lt t.day last_day)
    as (λ b. (if b then CutsOver else Reports output.LastDay)
    ≡ widened_decision (if b then CutsOver else Reports output.LastDay)) [
      | true ↦ refl
      | false ↦ refl
    ])

requested : (t : Tables) (r : RequestMessage) → IsWidened t (Requested r) (Requested r)
requested t r =
    let m = or_empty (merchant_named (Requested r)) in
    same_step t (Requested r) (Requested r) refl (of_request t m r.service r.message)
    (request_widened (known_in_under six_digits t (Requested r)) r r.service)

message_widened : (t : Tables) (moment : ℕ) (m : IsoMessage) (o : Option Service) →
    let a = arrival_of_message moment m o in IsWidened t a a
message_widened t moment m None = same_step t (Unserved m) (Unserved m) refl refl refl
message_widened t moment m (Some service) =
    let r : RequestMessage = record { moment = moment; service = service; message = m } in
    elim (is_malformed service m)
    as (λ b. let a = if b then Malformed r else Requested r in IsWidened t a a) [
      | true ↦ same_step t (Malformed r) (Malformed r) refl refl refl
      | false ↦ requested t r
    ]

reading_widened : (t : Tables) (moment : ℕ) (read : Result IsoMessage DecodeFault) →
    let a = arrival_of_reading moment read in IsWidened t a a
reading_widened t moment (Err fault) =
    same_step t (Undecoded fault) (Undecoded fault) refl refl refl
reading_widened t moment (Ok m) = message_widened t moment m (service_of m.kind)

pub frame_widened : (t : Tables) (moment : ℕ) (text : List ℕ) →
    let a = arrival_of (event.Frame moment text) in IsWidened t a a
frame_widened t moment text = reading_widened t moment (reading_of text)

pub answered_widened : (t : Tables) (moment : ℕ) (merchant : List ℕ) (reference : ℕ)
    (verdict : Verdict) →
    let a = Answered moment merchant reference verdict in IsWidened t a a
answered_widened t moment merchant reference verdict =
    let a = Answered moment merchant reference verdict in
    let k = known_in_under six_digits t a in
    same_step t a a refl refl (answer_widened moment verdict (widened_known k) k.merchant)

pub enrolled_widened : (t : Tables) (merchant : Merchant) →
    IsWidened t (Enrolled merchant) (Enrolled merchant)
enrolled_widened t merchant =
    let k = known_in_under six_digits t (Enrolled merchant) in
    same_step t (Enrolled merchant) (Enrolled merchant) refl refl
    (enrolment_widened merchant k.merchant)

pub terminal_added_widened : (t : Tables) (terminal : Terminal) →
    IsWidened t (TerminalAdded terminal) (TerminalAdded terminal)
terminal_added_widened t terminal =
    let k = known_in_under six_digits t (TerminalAdded terminal) in
    same_step t (TerminalAdded terminal) (TerminalAdded terminal) refl refl
    (terminal_widened terminal k.has_terminal k.merchant)
