-- A merchant's own events, and the shared ones, keep tables and history alike.
use Rattle.std.proofs.Common.{◌≡◌, ℕ, ◌+◌, List, [], ◌∷◌, ◌++◌, Option, Some, None, Bool, true}
use Rattle.std.proofs.Common.{false, cond, refl, sym, ap, ap₂, ◌∙◌, subst}
use Rattle.std.specs.Prelude.{option_map, option_and_then, ◌&&◌, ◌||◌, not, is_some, is_none}
use Rattle.std.specs.Str.{bytes_eq}
use Rattle.std.proofs.Math.Bool.{and-false}
use Rattle.iso_codec.specs.Message.{IsoMessage}
use Rattle.card_no.specs.declared.range.Range.{Range}
use Rattle.card_no.specs.CardNumbers.{is_valid_card, prefix_of}
use Rattle.card_no.specs.Ranges.{range_of_prefix}
use Rattle.acq_message.specs.declared.service.Service.{Service}
use Rattle.acq_message.specs.declared.service.Service.TheVariants.{Authorization, Financial}
use Rattle.acq_message.specs.declared.service.Service.TheVariants.{Completion, Reversal}
use Rattle.acq_message.specs.declared.service.Service.TheVariants.{ReversalAdvice, Reconciliation}
use Rattle.acq_core.specs.declared.merchant.Merchant.{Merchant}
use Rattle.acq_core.specs.declared.request.Request.{Request}
use Rattle.acq_core.specs.declared.status.Status.TheVariants as status
use Rattle.acq_message.specs.declared.response_code.ResponseCode.{ResponseCode}
use Rattle.acq_message.specs.declared.response_code.ResponseCode.TheVariants as code
use Rattle.acq_message.specs.Elements.{text_at, or_empty, key_of, reference_in, original_key}
use Rattle.acq_message.specs.Cards.{card_of}
use Rattle.acq_core.specs.declared.arrival.Arrival.{Arrival}
use Rattle.acq_message.specs.declared.request_message.RequestMessage.{RequestMessage}
use Rattle.acq_core.specs.Arrivals.{merchant_named}
use Rattle.acq_core.specs.declared.arrival.Arrival.TheVariants.{Requested}
use Rattle.acq_core.specs.Known.{Prior, wanted_by, number_if, prefix_in}
use Rattle.acq_core.specs.Decision.{Decision, Refuses, Admits, Completes, Reverses, Reconciles}
use Rattle.acq_core.specs.Outcome.{Outcome, Replied, Asked, outcome_of, is_in_balance, balance_code}
use Rattle.acq_core.specs.Outcome.{query_of}
use Rattle.acq_message.specs.Reply.{coded_reply, referring_reply, totals_reply}
use Rattle.acq_core.specs.Changes.{change_of, refused_row, reconciliation_row}
use Rattle.acq_message.specs.Elements.{remaining_in}
use Rattle.acq_core.specs.Changes.{remains_of, remains_of_hold}
use Rattle.acq_core.specs.Changes.{completion_posting, reversal_posting}
use Rattle.acq_core.specs.Tables.{Opening, Tables, postings_of, with_next_posting, after_any}
use Rattle.acq_core.specs.Tables.{followed_row}
use Rattle.acq_history.specs.Entries.{Entry, request_of, is_code, is_asked, is_approved}
use Rattle.acq_history.specs.Entries.{is_past_merchant, accepts, is_acceptable, is_acceptance}
use Rattle.acq_soundness.specs.Requests.{is_admissible, is_reversal}
use Rattle.acq_history.specs.History.{newest, recorded, referred, day_after, ranges_after, enrolled}
use Rattle.acq_history.specs.History.{admitted, admits, is_admission, first_reference}
use Rattle.acq_history.specs.History.{next_reference, prior, postings, posting_of, posting_by}
use Rattle.acq_history.specs.PartyHistory.{known_by}
use Rattle.acq_history.specs.Isolation.{recording_first}
use Rattle.acq_soundness.proofs.Lookups.{clash, map_none, map_some, then_some}
use Rattle.acq_soundness.proofs.Keys.{bytes_eq_itself}
use Rattle.acq_history.proofs.RecordedInHistory.{referred_is, reference_if}
use Rattle.acq_soundness.proofs.RecordableRequests.{recordable_is, wants_by_key}
use Rattle.acq_soundness.proofs.RecordableRequests.{wants_reference}
use Rattle.acq_history.proofs.UnrecordedRequests.{IsRefusal, IsQuiet, accepts_not}
use Rattle.acq_history.proofs.NewRows.{idle_line, admitted_line, completed_line, reversed_line}
use Rattle.acq_history.proofs.RequestsAfterNewEntry.{line, shown}
use Rattle.acq_core.proofs.DecisionCases.{CanBeReversed}
use Rattle.acq_history.proofs.RowsAgreeWithHistory.{Rows, without_newest_edited}
use Rattle.acq_history.proofs.RowsAgreeWithHistory.{without_newest_still, rows_still, rows_joined}
use Rattle.acq_history.proofs.ChangedRows.{completion_follows, reversal_follows, entry_on}
use Rattle.acq_history.proofs.TablesAgreeWithHistory.{Agrees, common_still, IsOf, postings_of_mine}
use Rattle.acq_history.proofs.TablesAgreeWithHistory.{reversal_posting_is_of}
use Rattle.acq_soundness.proofs.RowsWithChanges.{followed_kept}

-- ---- what a request asks for

-- an authorization, a sale and a return want the range of their card
wanted_prefix : (today moment : ℕ) (s : Service) (message : IsoMessage) →
    let r : RequestMessage = record { moment = moment; service = s; message = message } in
    is_admissible s ≡ true → (wanted_by today (Requested r)).prefix ≡ prefix_in message
wanted_prefix today moment Authorization message fits = refl
wanted_prefix today moment Financial message fits = refl
wanted_prefix today moment service message fits = absurd (cc)

-- a reversal wants its original
wanted_original : (today moment : ℕ) (s : Service) (message : IsoMessage) →
    let r : RequestMessage = record { moment = moment; service = s; message = message } in
    is_reversal s ≡ true → (wanted_by today (Requested r)).original ≡ original_key message
wanted_original today moment Reversal message fits = refl
wanted_original today moment ReversalAdvice message fits = refl
wanted_original today moment service message fits = absurd (cc)

-- a reversal may be accepted
pub reversal_accepted : (s : Service) → is_reversal s ≡ true → is_acceptable s ≡ true
reversal_accepted Reversal fits = refl
reversal_accepted ReversalAdvice fits = refl
reversal_accepted Completion fits = refl
reversal_accepted service fits = absurd (cc)

-- either reversal posts alike
pub reversal_by : (e : Entry) (h : List Entry) (r : RequestMessage) (s : Service) →
    is_reversal s ≡ true →
    posting_by s e h r
    ≡ option_and_then (λ f. reversal_posting e.day r (prior f))
    (option_and_then (λ key. recorded key h) (original_key r.message))
reversal_by e h r Reversal fits = refl
reversal_by e h r ReversalAdvice fits = refl
reversal_by e h r service fits = absurd (cc)

-- nothing is admitted whose issuer isn't asked
admits_not : (rq : Option RequestMessage) (e : Entry) (h : List Entry) →
    is_asked e.outcome ≡ false → admits rq e h ≡ false
admits_not None e h off = refl
admits_not (Some r) e h off =
    ap (λ b. is_admissible r.service && b && is_none (recorded (key_of r.service r.message) h)) off
    ∙ ap (λ b. b && is_none (recorded (key_of r.service r.message) h))
    (and-false (is_admissible r.service))

pub is_some_map : {X Y : Type 0} (f : X → Y) (o : Option X) → is_some (option_map f o) ≡ is_some o
is_some_map f None = refl
is_some_map f (Some x) = refl

-- a reconciliation is past the merchant check, in balance or not
pub balance_past : (b : Bool) →
    not (is_code code.FormatError (balance_code b) || is_code code.InvalidMerchant (balance_code b))
    ≡ true
balance_past true = refl
balance_past false = refl

module _ {opening : Opening} {m : List ℕ} {t : Tables} {h : List Entry}
    (g : Agrees opening m t h) where
  -- the entry of what came
  abbrev pub entry : Arrival → Outcome → Entry
  entry = entry_on (day_after opening.first_day h) (ranges_after h)

  -- what a decision has to keep
  abbrev pub Keeps : Arrival → Decision → Type 0
  Keeps a d =
      let k = known_by opening h a in Agrees opening m (after_any t (change_of k d))
      (entry a (outcome_of k d) ∷ h)

  -- ---- requests that change nothing

  -- the history knows the request under the key
  pub recorded_known : (r q : RequestMessage) → request_of (Requested r) ≡ Some q →
      (known_by opening h (Requested r)).recorded ≡ option_map prior
      (recorded (key_of q.service q.message) h)
  recorded_known r q came =
      let w = wants_by_key (day_after opening.first_day h) r.service r q r.message came in
      ap (option_and_then (λ key. option_map prior (recorded key h)))
      (w.key ∙ ap (λ x. Some (key_of x.service x.message)) (recordable_is r.service r q came))

  -- a key that is known as new isn't in the history
  new_key : (r : RequestMessage) → request_of (Requested r) ≡ Some r →
      (known_by opening h (Requested r)).recorded ≡ None →
      recorded (key_of r.service r.message) h ≡ None
  new_key r came new = map_none prior (recorded (key_of r.service r.message) h)
      (sym (recorded_known r r came) ∙ new)

  -- what is quiet records nothing
  unrecorded : (r : RequestMessage) (o : Outcome) → IsQuiet (known_by opening h (Requested r)) r o →
      (rq : Option RequestMessage) → request_of (Requested r) ≡ rq →
      recording_first (entry (Requested r) o) h rq ≡ []
  unrecorded r o quiet None came = refl
  unrecorded r o quiet (Some q) came =
      let x = newest q (entry (Requested r) o) h in
      let step : (b : Bool) → is_past_merchant o ≡ b →
      cond (b && not (is_some (recorded (key_of q.service q.message) h))) (x ∷ []) [] ≡ [] =
      elim [
        | true ↦ (λ past.
            let there : is_some (recorded (key_of q.service q.message) h) ≡ true =
            sym (is_some_map prior (recorded (key_of q.service q.message) h))
            ∙ (sym (ap is_some (recorded_known r q came)) ∙ quiet.recorded q came past) in
            ap (λ b. cond (not b) (x ∷ []) []) there)
        | false ↦ (λ past. refl)
      ] in
      step (is_past_merchant o) refl

  -- what is quiet keeps the agreement
  pub quiet_step : (r : RequestMessage) (o : Outcome) →
      IsQuiet (known_by opening h (Requested r)) r o →
      Agrees opening m t (entry (Requested r) o ∷ h)
  quiet_step r o quiet =
      let e = entry (Requested r) o in
      record {
        common = common_still (Requested r) o quiet.performed g.common;
        rows =
            rows_still quiet.accepted
            (admits_not (request_of (Requested r)) e h quiet.asked)
            (unrecorded r o quiet (request_of (Requested r)) refl)
            (without_newest_still quiet.accepted (λ n. refl) g.rows);
        posted =
            g.posted ∙ sym
            (ap (λ b. with_next_posting (postings h) (cond b (posting_by r.service e h r) None))
            quiet.accepted);
      }

  -- ---- requests that are recorded

  -- its rows have the merchant's name
  own_text : (r : RequestMessage) → merchant_named (Requested r) ≡ Some m → text_at r.message 42 ≡ m
  own_text r named = ap or_empty named

  -- and so pass the test for it
  own_row : (r : RequestMessage) → merchant_named (Requested r) ≡ Some m →
      bytes_eq (text_at r.message 42) m ≡ true
  own_row r named = ap (λ x. bytes_eq x m) (own_text r named) ∙ bytes_eq_itself m

  -- a request that is neither admitted nor accepted
  idle_rows : (r : RequestMessage) (given : ResponseCode) (reply : IsoMessage) (row : Request) →
      merchant_named (Requested r) ≡ Some m → request_of (Requested r) ≡ Some r →
      (known_by opening h (Requested r)).recorded ≡ None →
      is_past_merchant (Replied given reply) ≡ true →
      accepts is_acceptable (Some r) (Replied given reply) ≡ false →
      row.key ≡ key_of r.service r.message → row.admitted ≡ false →
      row.day ≡ day_after opening.first_day h →
      line row ≡ shown (newest r (entry (Requested r) (Replied given reply)) h) →
      Rows m (t.requests ++ row ∷ []) (entry (Requested r) (Replied given reply) ∷ h)
  idle_rows r given reply row named came new past accepted key admitted day same =
      let e = entry (Requested r) (Replied given reply) in
      let acceptance : is_acceptance e ≡ false =
      ap (λ rq. accepts is_acceptable rq (Replied given reply)) came ∙ accepted in
      let admission : is_admission e h ≡ false = admits_not (request_of (Requested r)) e h refl in
      rows_joined
      (record {
        request = r;
        came = came;
        new = new_key r came new;
        past = past;
        mine = ap (λ x. bytes_eq x.merchant m) key ∙ own_row r named;
        same = same;
        counts = admitted ∙ sym (λ i. admission i || acceptance i);
        day = day;
        enrolled = λ a. clash (is_admission e h) a admission;
      })
      (without_newest_still acceptance (λ n. refl) g.rows)

  -- it posts nothing
  idle_posted : (r : RequestMessage) (o : Outcome) → request_of (Requested r) ≡ Some r →
      accepts is_acceptable (Some r) o ≡ false →
      postings_of m t.postings ≡ postings (entry (Requested r) o ∷ h)
  idle_posted r o came accepted =
      g.posted ∙ sym
      (ap (λ b. with_next_posting (postings h)
      (cond b (posting_by r.service (entry (Requested r) o) h r) None))
      (ap (λ rq. accepts is_acceptable rq o) came ∙ accepted))

  -- a refused request
  pub refused_step : (r : RequestMessage) → merchant_named (Requested r) ≡ Some m →
      (given : ResponseCode) → request_of (Requested r) ≡ Some r →
      (known_by opening h (Requested r)).recorded ≡ None → IsRefusal given →
      Keeps (Requested r) (Refuses r given)
  refused_step r named given came new is =
      let reply = coded_reply (day_after opening.first_day h) r given in
      let o = Replied given reply in
      let e = entry (Requested r) o in
      let accepted : accepts is_acceptable (Some r) o ≡ false = accepts_not (Some r) o is.0 in
      record {
        common = common_still (Requested r) o refl g.common;
        rows =
            idle_rows r given reply
            (refused_row (day_after opening.first_day h) r given) named came new is.1 accepted refl
            refl refl
            (idle_line r e h given reply status.Refused (λ i. o)
            (admits_not (Some r) e h refl) accepted refl refl refl);
        posted = idle_posted r o came accepted;
      }

  -- a reconciliation
  pub reconciled_step : (r : RequestMessage) → merchant_named (Requested r) ≡ Some m → (day : ℕ) →
      request_of (Requested r) ≡ Some r →
      (known_by opening h (Requested r)).recorded ≡ None → r.service ≡ Reconciliation →
      Keeps (Requested r) (Reconciles r day)
  reconciled_step r named day came new fits =
      let k = known_by opening h (Requested r) in
      let given = balance_code (is_in_balance k r) in
      let reply = totals_reply day r given (is_in_balance k r) k.totals in
      let o = Replied given reply in
      let e = entry (Requested r) o in
      let accepted : accepts is_acceptable (Some r) o ≡ false =
      ap (λ s. is_acceptable s && is_approved o) fits in
      record {
        common = common_still (Requested r) o refl g.common;
        rows =
            idle_rows r given reply (reconciliation_row k r day) named came new
            (balance_past (is_in_balance k r)) accepted refl refl refl
            (idle_line r e h given reply status.Reconciled (λ i. o)
            (admits_not (Some r) e h refl) accepted refl refl refl);
        posted = idle_posted r o came accepted;
      }

  -- an admitted request
  pub admitted_step : (r : RequestMessage) → merchant_named (Requested r) ≡ Some m →
      (range : Range) (merchant : Merchant) → request_of (Requested r) ≡ Some r →
      (known_by opening h (Requested r)).recorded ≡ None → is_admissible r.service ≡ true →
      (known_by opening h (Requested r)).range ≡ Some range →
      (known_by opening h (Requested r)).merchant ≡ Some merchant → Keeps (Requested r)
      (Admits r range (merchant.first_reference + (known_by opening h (Requested r)).admitted))
  admitted_step r named range merchant came new fits in_range there =
      let k = known_by opening h (Requested r) in
      let n = merchant.first_reference + k.admitted in
      let query = query_of r range n in
      let e = entry (Requested r) (Asked query) in
      let wanted = (wants_by_key (day_after opening.first_day h) r.service r r r.message
      came).merchant in
      let enrolment : enrolled h ≡ Some merchant =
      sym (ap (option_and_then (λ id. enrolled h)) wanted) ∙ there in
      let counted : k.admitted ≡ admitted h =
      ap₂ (λ b o. number_if b (admitted h) o)
      (wants_reference (day_after opening.first_day h) r.service r.message fits) wanted in
      let next : n ≡ next_reference h = λ i. first_reference (sym enrolment i) + counted i in
      let card = then_some (range_of_prefix (ranges_after h)) (prefix_in r.message) range
      (sym (ap (option_and_then (range_of_prefix (ranges_after h)))
      (wanted_prefix (day_after opening.first_day h) r.moment r.service r.message fits)) ∙ in_range)
      in
      let prefix : prefix_of (or_empty (card_of r.message)) ≡ card.0 =
      (reference_if (is_valid_card (or_empty (card_of r.message)))
      (prefix_of (or_empty (card_of r.message))) card.0 card.1).1 in
      let first_time = new_key r came new in
      let own_admission : admits (Some r) e h ≡ true = λ i. fits i && true && is_none (first_time i)
      in
      let admission : is_admission e h ≡ true = ap (λ rq. admits rq e h) came ∙ own_admission in
      let acceptance : is_acceptance e ≡ false = accepts_not (request_of (Requested r))
      (Asked query) refl in
      record {
        common =
            common_still (Requested r)
            (Asked query) refl g.common;
        rows = rows_joined
            (record {
              request = r;
              came = came;
              new = first_time;
              past = refl;
              mine = own_row r named;
              same =
                  admitted_line r range n query e h fits
                  (λ i. Asked query) own_admission next
                  (ap (range_of_prefix (ranges_after h)) prefix ∙ card.2);
              counts = λ i. sym admission i || is_acceptance e;
              day = refl;
              enrolled = λ a. ap is_some enrolment;
            })
            (without_newest_still acceptance (λ n. refl) g.rows);
        posted =
            g.posted ∙ sym (ap (λ b. with_next_posting (postings h) (cond b
            (posting_by r.service e h r) None)) acceptance);
      }

  -- ---- requests that change earlier ones

  -- an accepted completion
  pub completed_step : (moment : ℕ) (message : IsoMessage) →
      let r : RequestMessage = record { moment = moment; service = Completion; message = message }
      in
      merchant_named (Requested r) ≡ Some m → (hold : Prior) →
      (known_by opening h (Requested r)).recorded ≡ None →
      (known_by opening h (Requested r)).referred ≡ Some hold →
      is_some hold.hold_end ≡ true → Keeps (Requested r) (Completes r hold)
  completed_step moment message named hold new there ends =
      let r : RequestMessage = record { moment = moment; service = Completion; message = message }
      in
      let day = day_after opening.first_day h in
      let reply = coded_reply day r code.Approved in
      let o = Replied code.Approved reply in
      let e = entry (Requested r) o in
      let asked = then_some (λ n. option_map prior (referred n h)) (reference_in message) hold there
      in
      let n = asked.0 in
      let found = map_some prior (referred n h) hold asked.2 in
      let f = found.0 in
      let posting : posting_of e h ≡ Some (completion_posting day r hold) =
      ap (option_map (λ x. completion_posting day r (prior x)))
      (ap (option_and_then (λ k. referred k h)) asked.1 ∙ found.1)
      ∙ ap (λ p. Some (completion_posting day r p)) found.2 in
      record {
        common = common_still (Requested r) o refl g.common;
        rows =
            rows_joined
            (record {
              request = r;
              came = refl;
              new = new_key r refl new;
              past = refl;
              mine = own_row r named;
              same =
                  completed_line moment message hold n f e h (λ i. o) asked.1 found.1
                  (referred_is n h f found.1).0 found.2;
              counts = refl;
              day = refl;
              enrolled = λ a. absurd (cc);
            })
            (without_newest_edited hold.key (followed_row (remains_of_hold hold))
            (followed_kept (remains_of_hold hold))
            (completion_follows h n f hold found.1 found.2 moment day message
            (ranges_after h) reply asked.1 ends)
            g.rows);
        posted =
            postings_of_mine m t.postings (Some (completion_posting day r hold)) (own_text r named)
            ∙ ((λ i. with_next_posting (g.posted i) (Some (completion_posting day r hold)))
            ∙ sym (ap (with_next_posting (postings h)) posting));
      }

  -- an accepted reversal
  pub reversed_step : (r : RequestMessage) → merchant_named (Requested r) ≡ Some m → (p : Prior) →
      request_of (Requested r) ≡ Some r →
      (known_by opening h (Requested r)).recorded ≡ None → is_reversal r.service ≡ true →
      (known_by opening h (Requested r)).original ≡ Some p → CanBeReversed r p →
      Keeps (Requested r) (Reverses r p)
  reversed_step r named p came new fits there can =
      let day = day_after opening.first_day h in
      let reply = referring_reply day r p.reference code.Approved in
      let o = Replied code.Approved reply in
      let e = entry (Requested r) o in
      let asked = then_some (λ key. option_map prior (recorded key h)) (original_key r.message) p
      (sym (ap (option_and_then (λ key. option_map prior (recorded key h)))
      (wanted_original day r.moment r.service r.message fits)) ∙ there) in
      let key = asked.0 in
      let found = map_some prior (recorded key h) p asked.2 in
      let f = found.0 in
      let acceptance : is_acceptance e ≡ true =
      ap (λ rq. accepts is_acceptable rq o) came ∙ ap (λ b. b && true)
      (reversal_accepted r.service fits) in
      let admission : is_admission e h ≡ false = admits_not (request_of (Requested r)) e h refl in
      let left = remains_of p (remaining_in r.message) in
      let posting : posting_of e h ≡ reversal_posting day r p =
      ap (λ b. cond b (posting_by r.service e h r) None) acceptance
      ∙ (reversal_by e h r r.service fits
      ∙ (ap (option_and_then (λ x. reversal_posting day r (prior x)))
      (ap (option_and_then (λ k. recorded k h)) asked.1 ∙ found.1)
      ∙ ap (reversal_posting day r) found.2)) in
      record {
        common = common_still (Requested r) o refl g.common;
        rows =
            rows_joined
            (record {
              request = r;
              came = came;
              new = new_key r came new;
              past = refl;
              mine = own_row r named;
              same = reversed_line r.moment r.service r.message p e h fits (λ i. o);
              counts = sym (λ i. admission i || acceptance i);
              day = refl;
              enrolled = λ a. clash (is_admission e h) a admission;
            })
            (without_newest_edited p.key (followed_row left) (followed_kept left)
            (reversal_follows h key f p found.1 found.2 r day
            (ranges_after h) reply came fits asked.1 can) g.rows);
        posted =
            postings_of_mine m t.postings (reversal_posting day r p)
            (subst (λ n. IsOf n (reversal_posting day r p)) (own_text r named)
            (reversal_posting_is_of day r p))
            ∙ ((λ i. with_next_posting (g.posted i) (reversal_posting day r p))
            ∙ sym (ap (with_next_posting (postings h)) posting));
      }
