-- A repeat gets what its request's record says, and another request under its key gets 94.
use Rattle.std.proofs.Common.{◌≡◌, ℕ, List, [], ◌∷◌, Option, Some, None, Bool, true, false, cond}
use Rattle.std.proofs.Common.{refl, sym, ap, ◌∙◌, subst}
use Rattle.std.specs.Prelude.{option_map, option_and_then, ◌&&◌, ◌||◌}
use Rattle.std.specs.Str.{bytes_eq}
use Rattle.std.specs.Option.{option_or}
use Rattle.acq_message.specs.declared.service.Service.{Service}
use Rattle.acq_message.specs.declared.service.Service.TheVariants.{NetworkManagement}
use Rattle.acq_message.specs.declared.request_key.RequestKey.{RequestKey}
use Rattle.iso_codec.specs.Message.{IsoMessage}
use Rattle.acq_message.specs.Reply.{coded_reply, draft_reply}
use Rattle.acq_core.specs.declared.merchant.Merchant.{Merchant}
use Rattle.acq_message.specs.declared.response_code.ResponseCode.TheVariants as code
use Rattle.acq_core.specs.declared.event.Event.{Event}
use Rattle.acq_message.specs.Elements.{text_at, key_of, same_key, essence_of}
use Rattle.acq_core.specs.declared.arrival.Arrival.{Arrival}
use Rattle.acq_message.specs.declared.request_message.RequestMessage.{RequestMessage}
use Rattle.acq_core.specs.declared.arrival.Arrival.TheVariants.{Requested}
use Rattle.acq_core.specs.Arrivals.{arrival_of}
use Rattle.acq_core.specs.declared.reply_state.ReplyState.{ReplyState}
use Rattle.acq_core.specs.declared.reply_state.ReplyState.TheVariants.{Kept}
use Rattle.acq_core.specs.Known.{Prior, Known, holds_if}
use Rattle.acq_core.specs.Decision.{Decision, Replies, decision_by, decision_of_key}
use Rattle.acq_core.specs.Decision.{decision_of_merchant, decision_of_request, repeat_of}
use Rattle.acq_core.specs.Outcome.{Outcome, Replied, Repeated, outcome, outcome_of}
use Rattle.acq_core.specs.Tables.{Opening}
use Rattle.acq_soundness.specs.Requests.{recordable}
use Rattle.acq_history.specs.Entries.{Entry, request_of, is_past_merchant, is_performed}
use Rattle.acq_history.specs.Entries.{enrolment_in, reply_in}
use Rattle.acq_history.specs.History.{Found, recorded, recording, newest, aged, prior, enrolled}
use Rattle.acq_history.specs.History.{has_terminal, day_after, next_reference, is_reversed}
use Rattle.acq_history.specs.History.{kept_reply, reply_state_with, reply_state_of}
use Rattle.acq_history.specs.PartyHistory.{own, known_by, entry_for, history_after, history_of}
use Rattle.acq_history.specs.Told.{told_now}
use Rattle.acq_history.specs.KeptRepeats as statement
use Rattle.acq_history.specs.KeptRepeats.{repeated, IsRepeatOf}
use Rattle.acq_history.proofs.ExactlyAccepted.{says_code}
use Rattle.acq_soundness.proofs.Keys.{same_key_is, bytes_eq_from, bytes_eq_is}
use Rattle.acq_soundness.proofs.Lookups.{map_some, some_is}
use Rattle.acq_core.proofs.DecisionCases.{by_request}
use Rattle.acq_soundness.proofs.RecordableRequests.{recordable_is, wants_by_key}
use Rattle.std.proofs.lemmas.Bool.{and_parts}

-- a merchant was enrolled, and this terminal added
record Serves (h : List Entry) (terminal : List ℕ) : Type 0 where
  merchant : Merchant
  enrols : enrolled h ≡ Some merchant
  there : has_terminal h terminal ≡ true

-- a history that grows serves it still
Serves-older : (e : Entry) (h : List Entry) (t : List ℕ) → Serves h t → Serves (e ∷ h) t
Serves-older e h t s = record {
  merchant = s.merchant;
  enrols = ap (λ o. option_or o (cond (is_performed e.outcome) (enrolment_in e.arrival) None))
      s.enrols;
  there = or_true_right _ _ s.there;
}
  where
    or_true_right : (a b : Bool) → b ≡ true → (a || b) ≡ true
    or_true_right true b e = refl
    or_true_right false b e = e

-- network management aside, the merchant check comes first
checks_merchant : (s : Service) (k : Known) (q r : RequestMessage) → recordable q s ≡ Some r →
    decision_of_request s k q ≡ decision_of_merchant k q k.merchant
checks_merchant NetworkManagement k q r e = absurd (cc)
checks_merchant service k q r e = refl

-- ---- past the merchant check

-- past the merchant check, the merchant is enrolled and the terminal there
passes : (k : Known) (q : RequestMessage) (o : Option Merchant) →
    is_past_merchant (outcome_of k (decision_of_merchant k q o)) ≡ true →
    (merchant : Merchant) × (o ≡ Some merchant) × (k.has_terminal ≡ true)
passes k q None e = absurd (cc)
passes k q (Some merchant) e = step k.has_terminal refl e
  where
    step : (b : Bool) → k.has_terminal ≡ b → is_past_merchant (outcome_of k
        (cond b (decision_of_key q k.recorded (decision_by q.service k merchant q))
        (Replies q code.InvalidMerchant)))
        ≡ true → (found : Merchant) × (Some merchant ≡ Some found) × (k.has_terminal ≡ true)
    step true h p = (merchant, refl, h)
    step false h p = absurd (cc)

-- what passed it was served
serves : (opening : Opening) (h : List Entry) (q r : RequestMessage) →
    request_of (Requested q) ≡ Some r →
    is_past_merchant (outcome (known_by opening h (Requested q)) (Requested q)) ≡ true →
    Serves h (text_at r.message 41)
serves opening h q r e past =
    let k = known_by opening h (Requested q) in
    let w = wants_by_key (day_after opening.first_day h) q.service q r q.message e in
    let found =
    passes k q k.merchant
    (subst (λ d. is_past_merchant (outcome_of k d) ≡ true) (checks_merchant q.service k q r e) past)
    in
    let mine : Serves h (text_at q.message 41) =
    record {
      merchant = found.0;
      enrols = sym (ap (λ o. option_and_then (λ id. enrolled h) o) w.merchant) ∙ found.1;
      there = sym (ap (holds_if (has_terminal h)) w.terminal) ∙ found.2;
    } in
    subst (λ x. Serves h (text_at x.message 41)) (recordable_is q.service q r e) mine

-- whatever came
serves_any : (opening : Opening) (h : List Entry) (a : Arrival) (r : RequestMessage) →
    request_of a ≡ Some r →
    is_past_merchant (outcome (known_by opening h a) a) ≡ true → Serves h (text_at r.message 41)
serves_any opening h (Requested q) r e past = serves opening h q r e past
serves_any opening h other r e past = absurd (cc)

-- ---- whatever a history records was served

-- all that it records
abbrev ServesAll : List Entry → Type 0
ServesAll h = (key : RequestKey) (f : Found) → recorded key h ≡ Some f → Serves h key.terminal

terminal_is : (a b : RequestKey) → same_key a b ≡ true → a.terminal ≡ b.terminal
terminal_is a b e = ap (λ k. k.terminal) (same_key_is a b e)

-- what an entry records is its request
records : (e : Entry) (h : List Entry) (key : RequestKey) (o : Option RequestMessage) (f : Found) →
    recording key e h o ≡ Some f → (r : RequestMessage) × (o ≡ Some r)
    × ((same_key (key_of r.service r.message) key && is_past_merchant e.outcome) ≡ true)
records e h key None f q = absurd (cc)
records e h key (Some r) f q =
    step (same_key (key_of r.service r.message) key && is_past_merchant e.outcome) refl q
  where
    step : (b : Bool) →
        (same_key (key_of r.service r.message) key && is_past_merchant e.outcome) ≡ b →
        cond b (Some (newest r e h)) None ≡ Some f → (x : RequestMessage) × (Some r ≡ Some x)
        × ((same_key (key_of x.service x.message) key && is_past_merchant e.outcome) ≡ true)
    step true t p = (r, refl, t)
    step false t p = absurd (cc)

-- with one more entry
ServesAll-step : (opening : Opening) (h : List Entry) (a : Arrival) → ServesAll h →
    ServesAll (entry_for opening h a ∷ h)
ServesAll-step opening h a all key f found =
    Serves-older e h key.terminal (step (recorded key h) refl found)
  where
    e : Entry
    e = entry_for opening h a

    step : (o : Option Found) → recorded key h ≡ o →
        option_or (option_map (aged (entry_for opening h a)) o)
        (recording key (entry_for opening h a) h (request_of a)) ≡ Some f → Serves h key.terminal
    step (Some g) q p = all key g q
    step None q p =
        let x = records (entry_for opening h a) h key (request_of a) f p in
        let parts = and_parts (same_key (key_of x.0.service x.0.message) key) _ x.2 in
        subst (Serves h) (terminal_is _ key parts.0) (serves_any opening h a x.0 x.1 parts.1)

-- over all events
serves_all : (opening : Opening) (h : List Entry) (es : List Event) → ServesAll h →
    ServesAll (history_after opening h es)
serves_all opening h [] all = all
serves_all opening h (e ∷ es) all =
    serves_all opening (entry_for opening h (arrival_of e) ∷ h) es
    (ServesAll-step opening h (arrival_of e) all)

-- ---- under a key that is recorded

-- the reply that a state keeps
abbrev kept_in : ReplyState → Option IsoMessage
kept_in (Kept reply) = Some reply
kept_in other = None

-- what the key check decides, by whether the essence is the same
abbrev decided : Bool → RequestMessage → Prior → Decision
decided same r p = cond same (repeat_of p.reply_state) (Replies r code.DuplicateTransmission)

-- behind the merchant check
decided_merchant : (k : Known) (r : RequestMessage) (merchant : Merchant) (p : Prior)
    (same : Bool) → k.merchant ≡ Some merchant → k.has_terminal ≡ true → k.recorded ≡ Some p →
    bytes_eq (essence_of r.service r.message) p.essence ≡ same →
    decision_of_merchant k r k.merchant ≡ decided same r p
decided_merchant k r merchant p same e there found is =
    ap (decision_of_merchant k r) e
    ∙ (ap (λ b. cond b (decision_of_key r k.recorded (decision_by r.service k merchant r))
    (Replies r code.InvalidMerchant)) there
    ∙ (ap (λ x. decision_of_key r x (decision_by r.service k merchant r)) found
    ∙ ap (λ b. decided b r p) is))

outcome_of_repeat : (k : Known) (s : ReplyState) → outcome_of k (repeat_of s) ≡ repeated s
outcome_of_repeat k (Kept reply) = refl
outcome_of_repeat k other = refl

-- on any history that served all that it records
module _ (opening : Opening) (h : List Entry) (all : ServesAll h) (r : RequestMessage)
    (e : request_of (Requested r) ≡ Some r) where
  abbrev k : Known
  k = known_by opening h (Requested r)

  abbrev o : Outcome
  o = outcome (known_by opening h (Requested r)) (Requested r)

  -- what is known under its key
  known_key : k.recorded ≡ option_map prior (recorded (key_of r.service r.message) h)
  known_key =
      ap (λ o. option_and_then (λ key. option_map prior (recorded key h)) o)
      (wants_by_key (day_after opening.first_day h) r.service r r r.message e).key

  decided_on : (f : Found) → recorded (key_of r.service r.message) h ≡ Some f → (same : Bool) →
      bytes_eq (essence_of r.service r.message) (prior f).essence ≡ same →
      o ≡ outcome_of k (decided same r (prior f))
  decided_on f found same is =
      let w = wants_by_key (day_after opening.first_day h) r.service r r r.message e in
      let s = all (key_of r.service r.message) f found in
      ap (outcome_of k)
      (checks_merchant r.service k r r e
      ∙ decided_merchant k r s.merchant (prior f) same
      (ap (λ o. option_and_then (λ id. enrolled h) o) w.merchant ∙ s.enrols)
      (ap (holds_if (has_terminal h)) w.terminal ∙ s.there)
      (known_key ∙ ap (option_map prior) found) is)

  repeats_on : (f : Found) → recorded (key_of r.service r.message) h ≡ Some f →
      essence_of r.service r.message ≡ (prior f).essence → o ≡ repeated (prior f).reply_state
  repeats_on f found same =
      decided_on f found true (bytes_eq_from _ _ same)
      ∙ outcome_of_repeat k (prior f).reply_state

  duplicate_on : (f : Found) → recorded (key_of r.service r.message) h ≡ Some f →
      bytes_eq (essence_of r.service r.message) (prior f).essence ≡ false →
      o ≡ Replied code.DuplicateTransmission (coded_reply k.today r code.DuplicateTransmission)
  duplicate_on f found other = decided_on f found false other

  -- a kept reply is of the request under the key
  abbrev IsKept : IsoMessage → Decision → Type 0
  IsKept reply d = outcome_of k d ≡ Repeated reply →
      (p : Prior) × (k.recorded ≡ Some p) × (p.reply_state ≡ Kept reply)

  is_kept : (reply : IsoMessage) → IsKept reply (decision_of_request r.service k r)
  is_kept reply =
      by_request k r (IsKept reply)
      (record {
        managed = λ is gives. absurd (cc);
        unknown = λ gives. absurd (cc);
        duplicate = λ p is gives. absurd (cc);
        repeated = λ p is. by_state p is p.reply_state refl;
        refused = λ merchant fresh given is gives. absurd (cc);
        admitted = λ merchant fresh service range is gives. absurd (cc);
        completed = λ merchant fresh service hold is opens gives. absurd (cc);
        reversed = λ merchant fresh service p is can gives. absurd (cc);
        reconciled = λ merchant fresh service day is gives. absurd (cc);
      })
    where
      by_state : (p : Prior) → k.recorded ≡ Some p → (s : ReplyState) → p.reply_state ≡ s →
          outcome_of k (repeat_of s) ≡ Repeated reply →
          (q : Prior) × (k.recorded ≡ Some q) × (q.reply_state ≡ Kept reply)
      by_state p found (Kept kept) is gives =
          (p, found, is ∙ ap Kept (some_is kept reply (ap reply_in gives)))
      by_state p found other is gives = absurd (cc)

  repeat_of_kept : (reply : IsoMessage) → o ≡ Repeated reply → IsRepeatOf h r reply
  repeat_of_kept reply gives =
      let known = is_kept reply gives in
      let found = map_some prior (recorded (key_of r.service r.message) h) known.0
      (sym known_key ∙ known.1) in
      by_essence found.0 found.1 (ap (λ p. p.reply_state) found.2 ∙ known.2)
      (bytes_eq (essence_of r.service r.message) (prior found.0).essence) refl
    where
      kept_by : (o : Option IsoMessage) (reversed : Bool) (draft : IsoMessage) →
          reply_state_with o reversed draft ≡ Kept reply → o ≡ Some reply
      kept_by (Some kept) reversed draft is = ap kept_in is
      kept_by None true draft is = absurd (cc)
      kept_by None false draft is = absurd (cc)

      by_essence : (f : Found) → recorded (key_of r.service r.message) h ≡ Some f →
          reply_state_of f ≡ Kept reply → (b : Bool) →
          bytes_eq (essence_of r.service r.message) (prior f).essence ≡ b → IsRepeatOf h r reply
      by_essence f found kept true same =
          record {
            original = f;
            same_key = found;
            same_essence = bytes_eq_is (essence_of r.service r.message) (prior f).essence same;
            kept =
                kept_by (kept_reply f) (is_reversed f)
                (draft_reply f.entry.day f.request (next_reference f.before)) kept;
          }
      by_essence f found kept false other =
          absurd (let two = sym (duplicate_on f found other) ∙ gives in cc)

-- ---- on any run

module _ (m : List ℕ) (opening : Opening) (es : List Event) where
  served : ServesAll (history_of opening (Some m) es)
  served = serves_all opening [] (own (Some m) es) (λ key g none. absurd (cc))

pub repeats_are_kept : (m : List ℕ) → statement.RepeatsAreKept m
repeats_are_kept m opening es r f e =
    repeats_on opening (history_of opening (Some m) es) (served m opening es) r e f

pub others_are_duplicates : (m : List ℕ) → statement.OthersAreDuplicates m
others_are_duplicates m opening es r f e found other =
    let h = history_of opening (Some m) es in
    ap told_now
    (duplicate_on opening h (served m opening es) r e f found
    (unlike (bytes_eq (essence_of r.service r.message) (prior f).essence)
    (λ same. other (bytes_eq_is (essence_of r.service r.message) (prior f).essence same))))
    ∙ says_code (known_by opening h (Requested r)).today r code.DuplicateTransmission
  where
    unlike : (b : Bool) → (b ≡ true → ⊥) → b ≡ false
    unlike true other = absurd (other refl)
    unlike false other = refl

pub only_repeats_are_kept : (m : List ℕ) → statement.OnlyRepeatsAreKept m
only_repeats_are_kept m opening es r reply = by_service r.service refl
  where
    h : List Entry
    h = history_of opening (Some m) es

    by_service : (s : Service) → r.service ≡ s →
        outcome (known_by opening h (Requested r)) (Requested r) ≡ Repeated reply →
        IsRepeatOf h r reply
    by_service NetworkManagement is gives =
        absurd (let two = sym (λ i. outcome_of (known_by opening h (Requested r))
        (decision_of_request (is i) (known_by opening h (Requested r)) r)) ∙ gives in cc)
    by_service s is gives =
        repeat_of_kept opening h (served m opening es) r (ap (recordable r) is) reply gives
