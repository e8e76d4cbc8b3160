-- A row that is recorded says what its entry does.
use Rattle.std.proofs.Common.{◌≡◌, ℕ, List, [], Option, Some, None, true, false, cond, refl, sym}
use Rattle.std.proofs.Common.{ap, ◌∙◌}
use Rattle.std.specs.Prelude.{find, option_map, option_and_then, ◌&&◌, ◌||◌}
use Rattle.iso_codec.specs.Message.{IsoMessage, content_of}
use Rattle.card_no.specs.declared.range.Range.{Range}
use Rattle.card_no.specs.CardNumbers.{prefix_of}
use Rattle.card_no.specs.Ranges.{range_of_prefix}
use Rattle.day_totals.specs.declared.leg.Leg.TheVariants.{Debit}
use Rattle.acq_message.specs.declared.service.Service.{Service}
use Rattle.acq_message.specs.declared.service.Service.TheVariants.{Authorization, Financial}
use Rattle.acq_message.specs.declared.service.Service.TheVariants.{Completion, Reversal}
use Rattle.acq_message.specs.declared.service.Service.TheVariants.{ReversalAdvice}
use Rattle.acq_core.specs.declared.request.Request.{Request}
use Rattle.acq_core.specs.declared.query.Query.{Query}
use Rattle.acq_core.specs.declared.status.Status.{Status}
use Rattle.acq_message.specs.declared.response_code.ResponseCode.{ResponseCode}
use Rattle.acq_message.specs.declared.response_code.ResponseCode.TheVariants as code
use Rattle.acq_message.specs.Elements.{key_of, essence_of, amount_in, reference_in, or_empty}
use Rattle.acq_message.specs.Elements.{sale_leg}
use Rattle.acq_message.specs.Cards.{card_of}
use Rattle.acq_message.specs.declared.request_message.RequestMessage.{RequestMessage}
use Rattle.acq_core.specs.Known.{Prior}
use Rattle.acq_core.specs.declared.reply_state.ReplyState.TheVariants.{Kept, Awaited}
use Rattle.acq_core.specs.Outcome.{Outcome, Replied, Asked}
use Rattle.acq_core.specs.Changes.{refused_row, admitted_row, completion_row, reversal_row}
use Rattle.acq_message.specs.Reply.{coded_reply, referring_reply, draft_reply}
use Rattle.acq_core.specs.Tables.{prior_of}
use Rattle.acq_core.specs.Tables as tables
use Rattle.acq_soundness.specs.Requests.{is_admissible, is_reversal}
use Rattle.acq_history.specs.Entries.{Entry, is_answer, is_completing}
use Rattle.acq_history.specs.History.{Found, newest, referred, next_reference, is_admitted}
use Rattle.acq_history.specs.History.{is_accepted, reference_of, reference_by, leg_by, card_by}
use Rattle.acq_history.specs.History.{hold_days_of, hold_of, any_with, prior}
use Rattle.acq_history.proofs.RecordedInHistory.{admits_first, reference_if}
use Rattle.acq_history.proofs.RequestsAfterNewEntry.{prior_is, line, shown, prior_by, open_by}
use Rattle.acq_history.proofs.RequestsAfterNewEntry.{untouched}

answer_to_none : (o : Option ℕ) → option_and_then (λ n. find (is_answer n) []) o ≡ None
answer_to_none None = refl
answer_to_none (Some n) = refl

any_with_none : (o : Option ℕ) → any_with is_completing o [] ≡ false
any_with_none None = refl
any_with_none (Some n) = refl

-- nothing came after the newest entry
prior_newest : (r : RequestMessage) (e : Entry) (h : List Entry) →
    prior (newest r e h) ≡ prior_by untouched (newest r e h)
prior_newest r e h =
    let f = newest r e h in
    prior_is f ∙ (λ i. prior_by (record {
      answer = answer_to_none (reference_of f) i;
      completed = any_with_none (reference_of f) i;
      reversal = None;
    }) f)

-- ---- what is neither admitted nor accepted

module _ (f : Found) (admitted : is_admitted f ≡ false) (accepted : is_accepted f ≡ false) where
  idle_leg : (s : Service) → leg_by s f ≡ None
  idle_leg Financial = ap (λ b. cond b (Some (sale_leg f.request.message)) None) admitted
  idle_leg Completion = ap (λ b. cond b (Some Debit) None) accepted
  idle_leg service = refl

  idle_card : (s : Service) → card_by s f ≡ card_of f.request.message
  idle_card Completion =
      ap (λ b. cond b (option_and_then (λ hold. card_of hold.request.message) (hold_of f))
      (card_of f.request.message))
      accepted
  idle_card service = refl

  idle_reference : reference_of f ≡ None
  idle_reference = ap (λ b. cond b (Some (next_reference f.before)) None) admitted

  idle_reference_by : (s : Service) → reference_by s f ≡ None
  idle_reference_by Completion = ap (λ b. cond b (reference_in f.request.message) None) accepted
  idle_reference_by service = idle_reference

  idle_days : hold_days_of f ≡ None
  idle_days =
      ap (λ b. cond b
      (option_map (λ range. range.hold_days)
      (range_of_prefix f.entry.ranges (prefix_of (or_empty (card_of f.request.message))))) None)
      admitted

-- without an answer nothing is open
idle_open : (s : Service) (days : Option ℕ) → open_by s days untouched ≡ None
idle_open Authorization days = refl
idle_open service days = refl

module _ (row : Request) (alone : row.reference ≡ None) (first : row.follows ≡ None) where
  row_leg : (s : Service) → tables.leg_by s row ≡ None
  row_leg Financial = ap (option_map (λ reference. row.leg)) alone
  row_leg Completion = ap (option_map (λ reference. row.leg)) first
  row_leg service = refl

  row_reference : (s : Service) → tables.reference_by s row ≡ None
  row_reference Completion = first
  row_reference service = alone

row_open : (row : Request) → tables.is_approved row.status ≡ false → (s : Service) →
    tables.hold_end_by s row ≡ None
row_open row off Authorization = ap (λ b. cond b row.hold_end None) off
row_open row off service = refl

-- a refused request, or a reconciliation
pub idle_line : (r : RequestMessage) (e : Entry) (h : List Entry) (given : ResponseCode)
    (reply : IsoMessage) (s : Status) → e.outcome ≡ Replied given reply →
    is_admitted (newest r e h) ≡ false → is_accepted (newest r e h) ≡ false →
    tables.reply_state_of s reply ≡ Kept reply →
    tables.is_reversible s ≡ false → tables.is_approved s ≡ false →
    line (record (refused_row e.day r given) { status = s; reply = reply }) ≡ shown (newest r e h)
idle_line r e h given reply s replied admitted accepted state reversible closed =
    let f = newest r e h in
    let row : Request = record (refused_row e.day r given) { status = s; reply = reply } in
    let whole : prior_of row ≡ prior_by untouched f = λ i. record {
      key = key_of r.service r.message;
      essence = essence_of r.service r.message;
      day = e.day;
      amount = amount_in r.message;
      leg = (row_leg row refl refl r.service ∙ sym (idle_leg f admitted accepted r.service)) i;
      card = sym (idle_card f admitted accepted r.service) i;
      acquirer = content_of r.message.elements 32;
      reference = (row_reference row refl refl r.service
          ∙ sym (idle_reference_by f admitted accepted r.service)) i;
      hold_days = sym (idle_days f admitted accepted) i;
      reply_state =
          (state ∙ (λ i.
          (prior_by untouched
          (newest r (record e { outcome = sym replied i }) h)).reply_state))
          i;
      is_reversible =
          (reversible ∙ (λ i. (sym admitted i || sym accepted i) && true && true && true)) i;
      hold_end = (row_open row closed r.service ∙ sym (idle_open r.service (hold_days_of f))) i;
    } in
    λ i. ((whole ∙ sym (prior_newest r e h)) i, sym (idle_reference f admitted accepted) i)

-- what is admitted shows its own reference and its own card
pub own_reference : (g : Found) (n : ℕ) (s : Service) → is_admissible s ≡ true →
    reference_of g ≡ Some n → reference_by s g ≡ Some n
own_reference g n Completion fits is = absurd (cc)
own_reference g n service fits is = is

pub own_card : (g : Found) (s : Service) → is_admissible s ≡ true →
    card_by s g ≡ card_of g.request.message
own_card g Completion fits = absurd (cc)
own_card g service fits = refl

row_reference_admitted : (row : Request) (s : Service) → is_admissible s ≡ true →
    tables.reference_by s row ≡ row.reference
row_reference_admitted row Completion fits = absurd (cc)
row_reference_admitted row service fits = refl

-- a sale and a return have a leg
admitted_leg_is : (moment : ℕ) (s : Service) (message : IsoMessage) (range : Range) (n : ℕ)
    (e : Entry) (h : List Entry) →
    let r : RequestMessage = record { moment = moment; service = s; message = message } in
    is_admissible s ≡ true → is_admitted (newest r e h) ≡ true →
    tables.leg_by s (admitted_row e.day r range n) ≡ leg_by s (newest r e h)
admitted_leg_is moment Authorization message range n e h fits adm = refl
admitted_leg_is moment Financial message range n e h fits adm =
    λ i. cond (sym adm i) (Some (sale_leg message)) None
admitted_leg_is moment service message range n e h fits adm = absurd (cc)

-- an authorization, a sale or a return that is admitted
pub admitted_line : (r : RequestMessage) (range : Range) (n : ℕ) (query : Query) (e : Entry)
    (h : List Entry) →
    is_admissible r.service ≡ true → e.outcome ≡ Asked query → is_admitted (newest r e h) ≡ true →
    n ≡ next_reference h →
    range_of_prefix e.ranges (prefix_of (or_empty (card_of r.message))) ≡ Some range →
    line (admitted_row e.day r range n) ≡ shown (newest r e h)
admitted_line r range n query e h fits asked adm is in_range =
    let f = newest r e h in
    let row = admitted_row e.day r range n in
    let reference : Some n ≡ reference_of f = λ i. cond (sym adm i) (Some (is i)) None in
    let whole : prior_of row ≡ prior_by untouched f = λ i. record {
      key = key_of r.service r.message;
      essence = essence_of r.service r.message;
      day = e.day;
      amount = amount_in r.message;
      leg = admitted_leg_is r.moment r.service r.message range n e h fits adm i;
      card = sym (own_card f r.service fits) i;
      acquirer = content_of r.message.elements 32;
      reference = (row_reference_admitted row r.service fits
          ∙ sym (own_reference f n r.service fits (sym reference))) i;
      hold_days = cond (sym adm i) (option_map (λ range. range.hold_days) (sym in_range i)) None;
      reply_state =
          ((λ i. Awaited (draft_reply e.day r (is i)))
          ∙ (λ i. (prior_by untouched
          (newest r (record e { outcome = sym asked i }) h)).reply_state)) i;
      is_reversible = (sym adm i || is_accepted f) && true && true && true;
      hold_end = (row_open row refl r.service ∙ sym (idle_open r.service (hold_days_of f))) i;
    } in
    λ i. ((whole ∙ sym (prior_newest r e h)) i, reference i)

-- ---- the hold that is completed

-- what has a reference is an authorization, a sale or a return
pub admissible_is : (g : Found) (n : ℕ) → reference_of g ≡ Some n →
    is_admissible g.request.service ≡ true
admissible_is g n is =
    (admits_first g.request g.entry g.before
    (reference_if (is_admitted g) (next_reference g.before) n is).0).0

-- an accepted completion, of a hold that was found
pub completed_line : (moment : ℕ) (message : IsoMessage) (hold : Prior) (n : ℕ) (g : Found)
    (e : Entry)
    (h : List Entry) →
    let r : RequestMessage = record { moment = moment; service = Completion; message = message } in
    e.outcome ≡ Replied code.Approved (coded_reply e.day r code.Approved) →
    reference_in message ≡ Some n →
    referred n h ≡ Some g → reference_of g ≡ Some n → prior g ≡ hold →
    line (completion_row e.day r hold) ≡ shown (newest r e h)
completed_line moment message hold n g e h replied asks found numbered is =
    let r : RequestMessage = record { moment = moment; service = Completion; message = message } in
    let x : Outcome → Found = λ o. newest r (record e { outcome = o }) h in
    let fits = admissible_is g n numbered in
    let reference : hold.reference ≡ Some n =
    ap (λ p. p.reference) (sym is) ∙ own_reference g n g.request.service fits numbered in
    let card : hold.card ≡ card_of g.request.message = ap (λ p. p.card) (sym is)
    ∙ own_card g g.request.service fits in
    let holding : option_and_then (λ n. referred n h) (reference_in message) ≡ Some g =
    ap (option_and_then (λ n. referred n h)) asks ∙ found in
    let row = completion_row e.day r hold in
    let reply = coded_reply e.day r code.Approved in
    let whole : prior_of row ≡ prior_by untouched (x (Replied code.Approved reply)) =
    λ i. record {
      key = key_of r.service r.message;
      essence = essence_of r.service r.message;
      day = e.day;
      amount = amount_in r.message;
      leg = option_map (λ reference. Debit) (reference i);
      card = (card ∙ sym (ap (option_and_then (λ hold. card_of hold.request.message)) holding)) i;
      acquirer = content_of r.message.elements 32;
      reference = (reference ∙ sym asks) i;
      hold_days = None;
      reply_state = Kept reply;
      is_reversible = true;
      hold_end = None;
    } in
    let both : line row ≡ shown (x (Replied code.Approved reply)) =
    λ i. (
      (whole ∙ sym (prior_newest r (record e { outcome = Replied code.Approved reply }) h)) i,
      None,
    ) in
    both ∙ (λ i. shown (x (sym replied i)))

-- an accepted reversal
pub reversed_line : (moment : ℕ) (s : Service) (message : IsoMessage) (p : Prior) (e : Entry)
    (h : List Entry) →
    let r : RequestMessage = record { moment = moment; service = s; message = message } in
    is_reversal s ≡ true →
    e.outcome ≡ Replied code.Approved (referring_reply e.day r p.reference code.Approved) →
    line (reversal_row e.day r p) ≡ shown (newest r e h)
reversed_line moment Reversal message p e h fits replied =
    let r : RequestMessage = record { moment = moment; service = Reversal; message = message } in
    λ i. shown (newest r (record e { outcome = sym replied i }) h)
reversed_line moment ReversalAdvice message p e h fits replied =
    let r : RequestMessage = record { moment = moment; service = ReversalAdvice; message = message }
    in
    λ i. shown (newest r (record e { outcome = sym replied i }) h)
reversed_line moment service message p e h fits replied = absurd (cc)
