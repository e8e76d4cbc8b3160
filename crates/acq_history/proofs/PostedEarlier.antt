-- What an earlier entry has posted about a request is what the request's own entries say of it.
use Rattle.std.proofs.Common.{◌≡◌, ℕ, ◌-◌, List, [], ◌∷◌, Option, Some, None, Bool, true, false}
use Rattle.std.proofs.Common.{cond}
use Rattle.std.proofs.Common.{inl, inr, refl, sym, ap, ◌∙◌, subst}
use Rattle.std.specs.Prelude.{find, option_map, option_and_then, unwrap_or, is_some, is_none, ◌&&◌}
use Rattle.std.specs.Prelude.{◌||◌, not, ◌==◌}
use Rattle.std.specs.Option.{option_or}
use Rattle.std.proofs.lemmas.Bool.{and_parts}
use Rattle.std.proofs.Math.Bool.{and-false}
use Rattle.iso_codec.specs.Message.{IsoMessage}
use Rattle.card_no.specs.declared.range.Range.{Range}
use Rattle.day_totals.specs.declared.leg.Leg.{Leg}
use Rattle.day_totals.specs.declared.leg.Leg.TheVariants.{Debit}
use Rattle.acq_message.specs.declared.service.Service.{Service}
use Rattle.acq_message.specs.declared.service.Service.TheVariants.{Authorization, Financial}
use Rattle.acq_message.specs.declared.service.Service.TheVariants.{Completion}
use Rattle.acq_message.specs.declared.request_key.RequestKey.{RequestKey}
use Rattle.acq_message.specs.declared.request_message.RequestMessage.{RequestMessage}
use Rattle.acq_message.specs.declared.verdict.Verdict.{Verdict}
use Rattle.acq_message.specs.declared.verdict.Verdict.TheVariants as verdict
use Rattle.acq_message.specs.Elements.{key_of, same_key, amount_in, sale_leg, or_empty}
use Rattle.acq_message.specs.Elements.{reference_in, remaining_in}
use Rattle.acq_message.specs.Cards.{card_of}
use Rattle.acq_message.specs.declared.response_code.ResponseCode.TheVariants as code
use Rattle.acq_message.specs.Reply.{answered_reply, verdict_code, draft_reply}
use Rattle.acq_core.specs.declared.event.Event.{Event}
use Rattle.acq_core.specs.declared.posting.Posting.{Posting}
use Rattle.acq_core.specs.Arrivals.{arrival_of}
use Rattle.acq_core.specs.declared.arrival.Arrival.{Arrival}
use Rattle.acq_core.specs.declared.arrival.Arrival.TheVariants.{Requested, Answered}
use Rattle.acq_core.specs.declared.reply_state.ReplyState.{ReplyState}
use Rattle.acq_core.specs.declared.reply_state.ReplyState.TheVariants.{Kept, Awaited}
use Rattle.acq_core.specs.Known.{Prior}
use Rattle.acq_core.specs.Changes.{or_zero, approval_posting, answer_posting, reversal_posting}
use Rattle.acq_core.specs.Changes.{posted_leg}
use Rattle.acq_core.specs.Changes as changes
use Rattle.acq_core.specs.Outcome.{Outcome, Replied, Reported, outcome, outcome_of}
use Rattle.acq_core.specs.Tables.{Opening}
use Rattle.acq_core.proofs.Counts.{or_none}
use Rattle.acq_core.proofs.DecisionCases.{by_answer}
use Rattle.acq_history.specs.Entries.{Entry, reply_in, is_approved, is_past_merchant, is_answer}
use Rattle.acq_soundness.specs.Requests.{is_admissible}
use Rattle.acq_history.specs.Entries.{is_asked, accepts, is_acceptable, is_key}
use Rattle.acq_history.specs.Entries.{request_of, approval_by, approval_in}
use Rattle.acq_history.specs.History.{Found, newest, aged, recorded, recording, referred, prior}
use Rattle.acq_history.specs.History.{reference_of, approval_of, answer_to, is_accepted}
use Rattle.acq_history.specs.History.{is_admitted}
use Rattle.acq_history.specs.History.{posting_by, posting_of, amount_of, lowered_to, reversal_of}
use Rattle.acq_history.specs.History.{leg_by, reference_by, card_by, day_after, ranges_after}
use Rattle.acq_history.specs.History.{reply_state_of, reply_state_with, is_reversible, is_declined}
use Rattle.acq_history.specs.History.{is_completed, is_reversed, next_reference, hold_of}
use Rattle.acq_history.specs.PartyHistory.{known_by, entry_for, history_after, history_of, own}
use Rattle.acq_history.specs.PostedRows.{sale_posting, reversing_posting, posting_about}
use Rattle.acq_history.specs.PostedRows.{posted_about}
use Rattle.acq_soundness.proofs.Lookups.{clash, some_is, none_some, map_none, map_some, own_none}
use Rattle.acq_soundness.proofs.Lookups.{not_true, is_some_there}
use Rattle.acq_soundness.proofs.Keys.{same_key_is, same_key_itself, eqb_itself}
use Rattle.acq_history.proofs.RecordedInHistory.{AdmitsOnlyEnrolled, key_in, referred_is}
use Rattle.acq_history.proofs.RecordedInHistory.{recorded_is}
use Rattle.acq_history.proofs.RecordedInHistory.{reference_if}
use Rattle.acq_soundness.proofs.RecordableRequests.{recordable_is}
use Rattle.acq_history.proofs.UnrecordedRequests.{accepts_not}
use Rattle.acq_history.proofs.MerchantsRuns.{from_new}
use Rattle.acq_history.proofs.NewRows.{admissible_is, own_reference, own_card}
use Rattle.acq_history.proofs.RequestsAfterNewEntry.{answer_more, answer_here}
use Rattle.acq_history.proofs.ChangedRows.{entry_on, other_number}
use Rattle.acq_history.proofs.EntriesThatAccept.{HasHold, AcceptsBy, accepts_by, has_hold}
use Rattle.acq_history.proofs.EntriesThatAccept.{recorded_unaccepted}
use Rattle.acq_history.proofs.EntriesThatAccept.{found_again, is_unanswered, admitted_unreplied}
use Rattle.acq_history.proofs.EntriesThatAccept.{answer_replies}

-- ---- a request's own posting

-- an approved sale or return, or an accepted completion
abbrev pub own_posting : Service → Found → Option Posting
own_posting Financial f =
    option_map (λ moment. sale_posting (or_zero (reference_of f)) f) (approval_of f)
own_posting Completion f =
    cond (is_accepted f) (posting_by Completion f.entry f.before f.request) None
own_posting service f = None

-- the services that a reversal may name
abbrev pub is_original : Service → Bool
is_original Authorization = true
is_original Financial = true
is_original Completion = true
is_original service = false

-- what is known of the amount of a sale or return
amount_is : (f : Found) → f.request.service ≡ Financial → amount_of f ≡ amount_in f.request.message
amount_is f is =
    ap (λ s. unwrap_or (lowered_to s (reversal_of f)) (amount_in f.request.message)) is
    ∙ whole (reversal_of f)
  where
    whole : (o : Option ℕ) →
        unwrap_or (lowered_to Financial o) (amount_in f.request.message)
        ≡ amount_in f.request.message
    whole None = refl
    whole (Some remaining) = refl

-- a sale or return has a leg
leg_is : (f : Found) → f.request.service ≡ Financial → is_admitted f ≡ true →
    (prior f).leg ≡ Some (sale_leg f.request.message)
leg_is f is adm =
    ap (λ s. leg_by s f) is ∙ ap (λ b. cond b (Some (sale_leg f.request.message)) None) adm

reference_is : (f : Found) → f.request.service ≡ Financial → (prior f).reference ≡ reference_of f
reference_is f is = ap (λ s. reference_by s f) is

card_is : (f : Found) → f.request.service ≡ Financial → (prior f).card ≡ card_of f.request.message
card_is f is = ap (λ s. card_by s f) is

-- what its approval posts
pub approval_is : (f : Found) (n : ℕ) → f.request.service ≡ Financial → reference_of f ≡ Some n →
    approval_posting (prior f) (prior f).leg ≡ Some (sale_posting n f)
approval_is f n is numbered =
    let adm = (reference_if (is_admitted f) _ n numbered).0 in
    let amount = amount_is f is in
    let reference = reference_is f is ∙ numbered in
    let card = card_is f is in
    ap (approval_posting (prior f)) (leg_is f is adm)
    ∙ (λ i. Some (record (sale_posting n f) {
      amount = amount i;
      reference = or_zero (reference i);
      card = or_empty (card i);
    }))

-- a hold has none
pub legless : (f : Found) → f.request.service ≡ Authorization → (prior f).leg ≡ None
legless f is = ap (λ s. leg_by s f) is

pub unposted : (v : Verdict) (p : Prior) → p.leg ≡ None → answer_posting v p ≡ None
unposted (verdict.Approved id) p none = ap (approval_posting p) none
unposted other p none = refl

-- ---- one entry later

-- an entry that doesn't answer the request
own_aged : (e : Entry) (f : Found) (s : Service) →
    ((n : ℕ) → reference_of f ≡ Some n → is_answer n e ≡ false) →
    own_posting s (aged e f) ≡ own_posting s f
own_aged e f Financial off =
    ap (λ o. option_map (λ (moment : ℕ). sale_posting (or_zero (reference_of f)) f)
    (option_and_then (λ (a : Entry). approval_in a.arrival) o))
    (answer_more e f.later (reference_of f) off)
own_aged e f Completion off = refl
own_aged e f service off = refl

-- one that answers it
module _ (f : Found) (n : ℕ) (numbered : reference_of f ≡ Some n) (moment day : ℕ)
    (merchant : List ℕ) (v : Verdict) (ranges : List Range) (o : Outcome) where
  abbrev answer : Entry
  answer = entry_on day ranges (Answered moment merchant n v) o

  own_answered : is_some (reply_in o) ≡ true → (s : Service) → f.request.service ≡ s →
      answer_posting v (prior f) ≡ own_posting s (aged answer f)
  own_answered replied s is = step s is (subst (λ x. is_admissible x ≡ true) is fits)
    where
      fits : is_admissible f.request.service ≡ true
      fits = admissible_is f n numbered

      here : answer_to (aged answer f) ≡ Some answer
      here =
          answer_here answer f.later (reference_of f) n numbered
          (λ i. eqb_itself n i && replied i)

      says : (v' : Verdict) → v ≡ v' →
          own_posting Financial (aged answer f)
          ≡ option_map (λ (m : ℕ). sale_posting n f) (approval_by moment v')
      says v' same =
          ap (λ (a : Option Entry).
          option_map (λ (m : ℕ). sale_posting (or_zero (reference_of f)) f)
          (option_and_then (λ (x : Entry). approval_in x.arrival) a)) here
          ∙ (λ i. option_map (λ (m : ℕ). sale_posting (or_zero (numbered i)) f)
          (approval_by moment (same i)))

      sale : f.request.service ≡ Financial → (v' : Verdict) → v ≡ v' →
          answer_posting v (prior f) ≡ own_posting Financial (aged answer f)
      sale is (verdict.Approved id) same =
          ap (λ x. answer_posting x (prior f)) same
          ∙ (approval_is f n is numbered ∙ sym (says (verdict.Approved id) same))
      sale is (verdict.Declined text) same =
          ap (λ x. answer_posting x (prior f)) same ∙ sym (says (verdict.Declined text) same)
      sale is verdict.NoAnswer same =
          ap (λ x. answer_posting x (prior f)) same ∙ sym (says verdict.NoAnswer same)

      step : (s : Service) → f.request.service ≡ s → is_admissible s ≡ true →
          answer_posting v (prior f) ≡ own_posting s (aged answer f)
      step Authorization is fits = unposted v (prior f) (legless f is)
      step Financial is fits = sale is v refl
      step service is fits = absurd (cc)

-- a request that waits for its answer has posted nothing
own_pending : (f : Found) (s : Service) → is_admissible s ≡ true → answer_to f ≡ None →
    own_posting s f ≡ None
own_pending f Authorization fits none = refl
own_pending f Financial fits none =
    ap (λ (o : Option Entry). option_map (λ (m : ℕ). sale_posting (or_zero (reference_of f)) f)
    (option_and_then (λ (a : Entry). approval_in a.arrival) o)) none
own_pending f service fits none = absurd (cc)

-- ---- the newest entry's request

pub no_answer : (o : Option ℕ) → option_and_then (λ (n : ℕ). find (is_answer n) []) o ≡ None
no_answer None = refl
no_answer (Some n) = refl

-- it has posted what its entry posts
own_new : (moment day : ℕ) (s : Service) (message : IsoMessage) (ranges : List Range) (o : Outcome)
    (h : List Entry) →
    let r : RequestMessage = record { moment = moment; service = s; message = message } in
    let e = entry_on day ranges (Requested r) o in
    is_original s ≡ true → posting_of e h ≡ own_posting s (newest r e h)
own_new moment day Authorization message ranges o h fits = refl
own_new moment day Financial message ranges o h fits =
    let r : RequestMessage = record { moment = moment; service = Financial; message = message } in
    let f = newest r (entry_on day ranges (Requested r) o) h in
    sym (ap (λ (a : Option Entry). option_map (λ (m : ℕ). sale_posting (or_zero (reference_of f)) f)
    (option_and_then (λ (e : Entry). approval_in e.arrival) a)) (no_answer (reference_of f)))
own_new moment day Completion message ranges o h fits = refl
own_new moment day s message ranges o h fits = absurd (cc)

-- ---- in a history

-- what is approved is past the merchant check
pub approved_past : (o : Outcome) → is_past_merchant o ≡ false → is_approved o ≡ false
approved_past (Replied code.Approved reply) off = absurd (cc)
approved_past (Replied given reply) off = refl
approved_past other off = refl

-- what a history has posted about a key is what its request has posted, and an accepted completion
-- has its hold
pub record PostedAt (h : List Entry) (key : RequestKey) : Type 0 where
  pub nothing : recorded key h ≡ None → posted_about key h ≡ None
  pub own : (f : Found) → recorded key h ≡ Some f → is_original f.request.service ≡ true →
      posted_about key h ≡ own_posting f.request.service f
  pub completes : (f : Found) → recorded key h ≡ Some f → f.request.service ≡ Completion →
      is_accepted f ≡ true → HasHold f.before f.request

-- each entry is that of what came
abbrev pub IsMade : Opening → List Entry → Type 0
IsMade opening [] = Unit {0}
IsMade opening (e ∷ h) = ((a : Arrival) × (entry_for opening h a ≡ e)) × IsMade opening h

cond_none : {X : Type 0} (b : Bool) (o : Option X) → o ≡ None → cond b o None ≡ None
cond_none true o none = none
cond_none false o none = refl

none_if : {X : Type 0} (b : Bool) (x : X) → cond b (Some x) None ≡ None → b ≡ false
none_if true x e = none_some x (sym e)
none_if false x e = refl

some_if : {X : Type 0} (b : Bool) (x y : X) → cond b (Some x) None ≡ Some y →
    (b ≡ true) × (x ≡ y)
some_if true x y e = (refl, some_is x y e)
some_if false x y e = none_some y e

and_false_then : (a b : Bool) → (a && b) ≡ false → a ≡ true → b ≡ false
and_false_then true b e t = e
and_false_then false b e t = absurd (cc)

module _ (opening : Opening) (h : List Entry) (key : RequestKey) where
  abbrev at : Arrival → Entry
  at a = entry_for opening h a

  -- ---- under a new key

  -- what isn't recorded posts nothing
  new_none : (a : Arrival) → recorded key h ≡ None →
      recording key (at a) h (request_of a) ≡ None → posting_about key (at a) h ≡ None
  new_none (Requested r) none unrecorded =
      step (same_key (key_of r.service r.message) key) refl
    where
      o : Outcome
      o = outcome (known_by opening h (Requested r)) (Requested r)

      unaccepted : same_key (key_of r.service r.message) key ≡ true →
          (rq : Option RequestMessage) → request_of (Requested r) ≡ rq →
          recording key (entry_for opening h (Requested r)) h rq ≡ None →
          accepts is_acceptable rq o ≡ false
      unaccepted same None came e = refl
      unaccepted same (Some q) came e =
          let other =
          and_false_then (same_key (key_of q.service q.message) key) (is_past_merchant o)
          (none_if (same_key (key_of q.service q.message) key && is_past_merchant o)
          (newest q (entry_for opening h (Requested r)) h) e)
          (ap (λ x. same_key (key_of x.service x.message) key)
          (sym (recordable_is r.service r q came))
          ∙ same) in
          accepts_not (Some q) o (approved_past o other)

      step : (b : Bool) → same_key (key_of r.service r.message) key ≡ b →
          cond b (posting_of (entry_for opening h (Requested r)) h) None ≡ None
      step true same =
          ap (λ b. cond b (posting_by r.service (entry_for opening h (Requested r)) h r) None)
          (unaccepted same (request_of (Requested r)) refl unrecorded)
      step false same = refl
  new_none (Answered moment merchant n v) none unrecorded = step (referred n h) refl
    where
      e : Entry
      e = entry_for opening h (Answered moment merchant n v)

      keyed : (g : Found) → referred n h ≡ Some g → (b : Bool) → same_key (key_in g) key ≡ b →
          cond b (posting_of e h) None ≡ None
      keyed g is true same =
          none_some g
          (sym none
          ∙ (ap (λ k. recorded k h) (sym (same_key_is (key_in g) key same))
          ∙ (referred_is n h g is).1))
      keyed g is false same = refl

      step : (o : Option Found) → referred n h ≡ o →
          cond (is_key key (option_map (λ f. key_of f.request.service f.request.message) o))
          (posting_of e h) None
          ≡ None
      step None is = refl
      step (Some g) is = keyed g is (same_key (key_in g) key) refl
  new_none other none unrecorded = refl

  -- the newest entry's request posts by itself alone
  new_own : (a : Arrival) (f : Found) → recording key (at a) h (request_of a) ≡ Some f →
      is_original f.request.service ≡ true →
      posting_about key (at a) h ≡ own_posting f.request.service f
  new_own (Requested r) f is = step (request_of (Requested r)) refl is
    where
      e : Entry
      e = entry_for opening h (Requested r)

      step : (rq : Option RequestMessage) → request_of (Requested r) ≡ rq →
          recording key e h rq ≡ Some f → is_original f.request.service ≡ true →
          posting_about key e h ≡ own_posting f.request.service f
      step None came there = none_some f there
      step (Some q) came there =
          let both =
          some_if (same_key (key_of q.service q.message) key && is_past_merchant e.outcome)
          (newest q e h) f there in
          let own = recordable_is r.service r q came in
          let same = ap (λ x. same_key (key_of x.service x.message) key) own
          ∙ (and_parts (same_key (key_of q.service q.message) key) (is_past_merchant e.outcome)
          both.0).0 in
          subst (λ x. is_original x.request.service ≡ true →
          posting_about key e h ≡ own_posting x.request.service x)
          (ap (λ x. newest x e h) own ∙ both.1)
          (λ fits.
          ap (λ b. cond b (posting_of e h) None) same
          ∙ own_new r.moment e.day r.service r.message e.ranges e.outcome h fits)
  new_own other f is = none_some f is

  -- an accepted completion has its hold
  new_completes : (a : Arrival) (f : Found) → recording key (at a) h (request_of a) ≡ Some f →
      f.request.service ≡ Completion → is_accepted f ≡ true → HasHold f.before f.request
  new_completes (Requested r) f is service acc = step (request_of (Requested r)) refl is
    where
      e : Entry
      e = entry_for opening h (Requested r)

      by : r.service ≡ Completion → AcceptsBy (known_by opening h (Requested r)) r → HasHold h r
      by fits (inl completes) = has_hold opening h r completes
      by fits (inr (inl reverses)) = absurd (elim reverses.service [
        | inl is ↦ (let two = sym is ∙ fits in cc)
        | inr is ↦ (let two = sym is ∙ fits in cc)
      ])
      by fits (inr (inr unacceptable)) =
          clash (is_acceptable r.service) (ap is_acceptable fits) unacceptable

      step : (rq : Option RequestMessage) → request_of (Requested r) ≡ rq →
          recording key e h rq ≡ Some f → HasHold f.before f.request
      step None came there = none_some f there
      step (Some q) came there =
          let both =
          some_if (same_key (key_of q.service q.message) key && is_past_merchant e.outcome)
          (newest q e h) f there in
          let same : newest r e h ≡ f = ap (λ x. newest x e h) (recordable_is r.service r q came)
          ∙ both.1 in
          let fits = ap (λ x. x.request.service) same ∙ service in
          let accepted = ap is_accepted same ∙ acc in
          subst (λ x. HasHold x.before x.request) same
          (by fits
          (accepts_by (known_by opening h (Requested r)) r
          (and_parts (is_acceptable r.service) (is_approved e.outcome) accepted).1))
  new_completes other f is service acc = none_some f is

  -- ---- under a recorded key

  module _ (genuine : AdmitsOnlyEnrolled h) (before : PostedAt h key) (g : Found)
      (there : recorded key h ≡ Some g) (fits : is_original g.request.service ≡ true) where
    -- what has been posted is the request's own posting one entry later
    abbrev IsAged : Entry → Type 0
    IsAged e =
        option_or (posted_about key h) (posting_about key e h)
        ≡ own_posting g.request.service (aged e g)

    unposting : (e : Entry) → posting_about key e h ≡ None →
        ((n : ℕ) → reference_of g ≡ Some n → is_answer n e ≡ false) → IsAged e
    unposting e none off =
        ap (option_or (posted_about key h)) none
        ∙ (or_none (posted_about key h)
        ∙ (before.own g there fits ∙ sym (own_aged e g g.request.service off)))

    aged_request : (r : RequestMessage) → IsAged (at (Requested r))
    aged_request r =
        unposting (at (Requested r)) (step (same_key (key_of r.service r.message) key) refl)
        (λ n is. refl)
      where
        step : (b : Bool) → same_key (key_of r.service r.message) key ≡ b →
            cond b (posting_of (entry_for opening h (Requested r)) h) None ≡ None
        step true same =
            ap (λ b. cond b (posting_by r.service (entry_for opening h (Requested r)) h r) None)
            (recorded_unaccepted opening h r g
            (ap (λ k. recorded k h) (same_key_is (key_of r.service r.message) key same) ∙ there))
        step false same = refl

    module _ (moment : ℕ) (merchant : List ℕ) (n : ℕ) (v : Verdict) where
      abbrev answered : Outcome → Entry
      answered =
          entry_on (day_after opening.first_day h) (ranges_after h) (Answered moment merchant n v)

      -- the request that the answer is to
      to_own : (f : Found) (draft : IsoMessage) → referred n h ≡ Some f →
          reply_state_of f ≡ Awaited draft → key_in f ≡ key →
          (o : Outcome) → is_some (reply_in o) ≡ true → IsAged (answered o)
      to_own f draft found pending same o replied =
          let is : f ≡ g =
          some_is f g (sym (referred_is n h f found).1 ∙ (ap (λ k. recorded k h) same ∙ there)) in
          let numbered : reference_of g ≡ Some n =
          ap reference_of (sym is) ∙ (referred_is n h f found).0 in
          let fits_answer = admissible_is g n numbered in
          let unanswered = (is_unanswered g draft (ap reply_state_of (sym is) ∙ pending)).unanswered
          in
          let about : posting_about key (answered o) h ≡ answer_posting v (prior g) =
          (λ i. cond
          (is_key key (option_map (λ x. key_of x.request.service x.request.message) (found i)))
          (cond (replied i) (option_and_then (λ x. answer_posting v (prior x)) (found i)) None)
          None)
          ∙ ((λ i. cond (same_key (same i) key) (answer_posting v (prior f)) None)
          ∙ (ap (λ b. cond b (answer_posting v (prior f)) None) (same_key_itself key)
          ∙ ap (λ x. answer_posting v (prior x)) is)) in
          (λ i. option_or
          ((before.own g there fits
          ∙ own_pending g g.request.service fits_answer unanswered) i) (about i))
          ∙ own_answered g n numbered moment (day_after opening.first_day h) merchant v
          (ranges_after h) o replied g.request.service refl

      -- another one
      to_other : (f : Found) → referred n h ≡ Some f → same_key (key_in f) key ≡ false →
          (o : Outcome) → IsAged (answered o)
      to_other f found other o =
          unposting (answered o)
          ((λ i. cond
          (is_key key (option_map (λ x. key_of x.request.service x.request.message) (found i)))
          (posting_of (answered o) h) None)
          ∙ ap (λ b. cond b (posting_of (answered o) h) None) other)
          (λ k is.
          ap (λ b. b && is_some (reply_in o))
          (other_number h n f found g (found_again h key g genuine there)
          (λ same. clash (same_key (key_in f) key)
          (ap (λ x. same_key (key_in x) key) (sym same)
          ∙ (ap (λ k. same_key k key) (recorded_is key h g there) ∙ same_key_itself key)) other)
          k is))

      aged_answer : IsAged (at (Answered moment merchant n v))
      aged_answer =
          let k = known_by opening h (Answered moment merchant n v) in
          by_answer k moment v (λ d. IsAged (answered (outcome_of k d)))
          (record {
            not_taken = λ out.
                unposting (answered (Reported out)) (cond_none _ None refl)
                (λ j is. and-false (n == j));
            taken = λ p draft found pending.
                let f = map_some prior (referred n h) p found in
                let o = Replied (verdict_code v) (answered_reply draft v) in
                let awaited = ap (λ x. x.reply_state) f.2 ∙ pending in
                let step : (b : Bool) → same_key (key_in f.0) key ≡ b → IsAged (answered o) =
                elim [
                  | true ↦ (λ same.
                      to_own f.0 draft f.1 awaited (same_key_is (key_in f.0) key same) o refl)
                  | false ↦ (λ other. to_other f.0 f.1 other o)
                ] in
                step (same_key (key_in f.0) key) refl;
          })
          k.merchant

    aged_own : (a : Arrival) → IsAged (at a)
    aged_own (Requested r) = aged_request r
    aged_own (Answered moment merchant n v) = aged_answer moment merchant n v
    aged_own other = unposting (at other) refl (λ n is. refl)

  -- ---- one entry more

  rest_none : (a : Arrival) → recorded key (at a ∷ h) ≡ None → recorded key h ≡ None →
      recording key (at a) h (request_of a) ≡ None
  rest_none a is none =
      ap (λ o. option_or (option_map (aged (at a)) o) (recording key (at a) h (request_of a)))
      (sym none)
      ∙ is

  posted_more : (a : Arrival) → AdmitsOnlyEnrolled h → PostedAt h key → PostedAt (at a ∷ h) key
  posted_more a genuine before =
      record {
        nothing = λ is.
            let none = map_none (aged (at a)) (recorded key h)
            (own_none (option_map (aged (at a)) (recorded key h))
            (recording key (at a) h (request_of a)) is) in
            ap (λ o. option_or o (posting_about key (at a) h)) (before.nothing none)
            ∙ new_none a none (rest_none a is none);
        own = λ f is fits.
            let step : (o : Option Found) → recorded key h ≡ o →
            option_or (option_map (aged (at a)) o) (recording key (at a) h (request_of a))
            ≡ Some f →
            posted_about key (at a ∷ h) ≡ own_posting f.request.service f =
            elim [
              | None ↦ (λ none new.
                  ap (λ o. option_or o (posting_about key (at a) h)) (before.nothing none)
                  ∙ new_own a f new fits)
              | Some g ↦ (λ there old.
                  let same = some_is (aged (at a) g) f old in
                  aged_own genuine before g there
                  (ap (λ x. is_original x.request.service) same ∙ fits) a
                  ∙ ap (λ x. own_posting x.request.service x) same)
            ] in
            step (recorded key h) refl is;
        completes = λ f is service acc.
            let step : (o : Option Found) → recorded key h ≡ o →
            option_or (option_map (aged (at a)) o) (recording key (at a) h (request_of a))
            ≡ Some f →
            HasHold f.before f.request =
            elim [
              | None ↦ (λ none new. new_completes a f new service acc)
              | Some g ↦ (λ there old.
                  let same = some_is (aged (at a) g) f old in
                  subst (λ x. HasHold x.before x.request) same
                  (before.completes g there (ap (λ x. x.request.service) same ∙ service)
                  (ap is_accepted same ∙ acc)))
            ] in
            step (recorded key h) refl is;
      }

-- ---- whole histories

pub posted_at : (opening : Opening) (h : List Entry) → IsMade opening h → AdmitsOnlyEnrolled h →
    (key : RequestKey) → PostedAt h key
posted_at opening [] made genuine key =
    record {
      nothing = λ none. refl;
      own = λ f is fits. none_some f is;
      completes = λ f is service acc. none_some f is;
    }
posted_at opening (e ∷ h) made genuine key =
    subst (λ x. PostedAt (x ∷ h) key) made.0.1
    (posted_more opening h key made.0.0 genuine.1 (posted_at opening h made.1 genuine.1 key))

pub made_after : (opening : Opening) (h : List Entry) → IsMade opening h → (es : List Event) →
    IsMade opening (history_after opening h es)
made_after opening h made [] = made
made_after opening h made (e ∷ es) =
    made_after opening (entry_for opening h (arrival_of e) ∷ h) ((arrival_of e, refl), made) es

-- a merchant's
pub posted_in_history : (m : List ℕ) (opening : Opening) (es : List Event) (key : RequestKey) →
    PostedAt (history_of opening (Some m) es) key
posted_in_history m opening es key =
    posted_at opening (history_of opening (Some m) es)
    (made_after opening [] tt (own (Some m) es)) (from_new opening m es).rows.genuine key

-- ---- what a reversal posts

none_posted : (s : ReplyState) → posted_leg s None ≡ None
none_posted (Kept reply) = refl
none_posted (Awaited draft) = refl
none_posted other = refl

unkept_leg : (reversed : Bool) (draft : IsoMessage) (leg : Option Leg) →
    posted_leg (reply_state_with None reversed draft) leg ≡ None
unkept_leg true draft leg = refl
unkept_leg false draft leg = refl

approved_replied : (o : Outcome) → is_approved o ≡ true →
    (reply : IsoMessage) × (reply_in o ≡ Some reply)
approved_replied (Replied given reply) e = (reply, refl)
approved_replied other e = absurd (cc)

or_false_then : (a b : Bool) → (a || b) ≡ true → b ≡ false → a ≡ true
or_false_then true b e off = refl
or_false_then false b e off = clash b e off

false_or_then : (a b : Bool) → (a || b) ≡ true → a ≡ false → b ≡ true
false_or_then true b e off = absurd (cc)
false_or_then false b e off = e

there_is : {X : Type 0} (o : Option X) → is_none o ≡ false → (x : X) × (o ≡ Some x)
there_is None e = absurd (cc)
there_is (Some x) e = (x, refl)

-- of an original that can be reversed
module _ (today : ℕ) (r : RequestMessage) (f : Found) (reversible : is_reversible f ≡ true) where
  -- what a reversal of it posts is what takes back its own posting
  abbrev TakesBack : Service → Type 0
  TakesBack s =
      reversal_posting today r (prior f)
      ≡ option_map (reversing_posting today r) (own_posting s f)

  tests : ((is_admitted f || is_accepted f) ≡ true) × (is_declined f ≡ false)
  tests =
      let last = and_parts ((is_admitted f || is_accepted f) && not (is_completed f)
      && not (is_reversed f)) (not (is_declined f)) reversible in
      let both = and_parts ((is_admitted f || is_accepted f) && not (is_completed f))
      (not (is_reversed f)) last.0 in (
        (and_parts (is_admitted f || is_accepted f) (not (is_completed f)) both.0).0,
        not_true (is_declined f) last.1,
      )

  of_hold : f.request.service ≡ Authorization → TakesBack Authorization
  of_hold is =
      ap (λ leg. option_map (changes.reversing_posting today r (prior f))
      (posted_leg (reply_state_of f) leg)) (legless f is)
      ∙ ap (option_map (changes.reversing_posting today r (prior f)))
      (none_posted (reply_state_of f))

  -- a sale or return
  module _ (is : f.request.service ≡ Financial) where
    sale_admitted : is_admitted f ≡ true
    sale_admitted =
        or_false_then (is_admitted f) (is_accepted f) tests.0
        (ap (λ s. is_acceptable s && is_approved f.entry.outcome) is)

    sale_state : (o : Option Entry) → answer_to f ≡ o →
        reply_state_of f
        ≡ reply_state_with (option_and_then (λ e. reply_in e.outcome) o) (is_reversed f)
        (draft_reply f.entry.day f.request (next_reference f.before))
    sale_state o answered =
        λ i. reply_state_with
        (option_or (admitted_unreplied f sale_admitted i)
        (option_and_then (λ e. reply_in e.outcome) (answered i)))
        (is_reversed f) (draft_reply f.entry.day f.request (next_reference f.before))

    sale_unanswered : answer_to f ≡ None → TakesBack Financial
    sale_unanswered none =
        ap (λ state. option_map (changes.reversing_posting today r (prior f))
        (posted_leg state (prior f).leg)) (sale_state None none)
        ∙ (ap (option_map (changes.reversing_posting today r (prior f)))
        (unkept_leg (is_reversed f) (draft_reply f.entry.day f.request (next_reference f.before))
        (prior f).leg)
        ∙ sym (ap (option_map (reversing_posting today r)) (own_pending f Financial refl none)))

    sale_answered : (a : Entry) → answer_to f ≡ Some a → TakesBack Financial
    sale_answered a answered =
        let replied = is_some_there (reply_in a.outcome) (answer_replies f a answered) in
        let state = sale_state (Some a) answered
        ∙ ap (λ o. reply_state_with o (is_reversed f)
        (draft_reply f.entry.day f.request (next_reference f.before))) replied.1 in
        let approved = there_is (approval_of f)
        (and_false_then (is_some (answer_to f)) (is_none (approval_of f)) tests.1
        (ap is_some answered)) in
        (λ i. option_map (changes.reversing_posting today r (prior f))
        (posted_leg (state i) (leg_is f is sale_admitted i)))
        ∙ ((λ i. Some (record (reversing_posting today r
        (sale_posting (or_zero (reference_of f)) f)) {
          amount = amount_is f is i - remaining_in r.message;
          reference = or_zero (reference_is f is i);
          card = or_empty (card_is f is i);
        }))
        ∙ sym (ap (λ (o : Option ℕ). option_map (reversing_posting today r)
        (option_map (λ (m : ℕ). sale_posting (or_zero (reference_of f)) f) o)) approved.1))

    of_sale : TakesBack Financial
    of_sale =
        let step : (o : Option Entry) → answer_to f ≡ o → TakesBack Financial =
        elim [ None ↦ sale_unanswered | Some a ↦ sale_answered a ] in
        step (answer_to f) refl

  -- an accepted completion
  module _ (is : f.request.service ≡ Completion) (has : HasHold f.before f.request) where
    completion_accepted : is_accepted f ≡ true
    completion_accepted =
        false_or_then (is_admitted f) (is_accepted f) tests.0
        (ap (λ s. is_admissible s && is_asked f.entry.outcome
        && is_none (recorded (key_of f.request.service f.request.message) f.before)) is)

    completion_hold : hold_of f ≡ Some has.hold
    completion_hold = ap (option_and_then (λ n. referred n f.before)) has.named ∙ has.found

    hold_numbered : reference_of has.hold ≡ Some has.reference
    hold_numbered = (referred_is has.reference f.before has.hold has.found).0

    hold_fits : is_admissible has.hold.request.service ≡ true
    hold_fits = admissible_is has.hold has.reference hold_numbered

    completed_reference : (prior f).reference ≡ (prior has.hold).reference
    completed_reference =
        ap (λ s. reference_by s f) is
        ∙ (ap (λ b. cond b (reference_in f.request.message) None) completion_accepted
        ∙ (has.named
        ∙ sym (own_reference has.hold has.reference has.hold.request.service hold_fits
        hold_numbered)))

    completed_card : (prior f).card ≡ (prior has.hold).card
    completed_card =
        ap (λ s. card_by s f) is
        ∙ (ap (λ b. cond b (option_and_then (λ hold. card_of hold.request.message) (hold_of f))
        (card_of f.request.message)) completion_accepted
        ∙ (ap (option_and_then (λ hold. card_of hold.request.message)) completion_hold
        ∙ sym (own_card has.hold has.hold.request.service hold_fits)))

    completed_leg : (prior f).leg ≡ Some Debit
    completed_leg =
        ap (λ s. leg_by s f) is ∙ ap (λ b. cond b (Some Debit) None) completion_accepted

    completed_amount : amount_of f ≡ amount_in f.request.message
    completed_amount =
        ap (λ s. unwrap_or (lowered_to s (reversal_of f)) (amount_in f.request.message)) is
        ∙ whole (reversal_of f)
      where
        whole : (o : Option ℕ) →
            unwrap_or (lowered_to Completion o) (amount_in f.request.message)
            ≡ amount_in f.request.message
        whole None = refl
        whole (Some remaining) = refl

    of_completion : TakesBack Completion
    of_completion =
        let replied = approved_replied f.entry.outcome
        (and_parts (is_acceptable f.request.service) (is_approved f.entry.outcome)
        completion_accepted).1 in
        let state : reply_state_of f ≡ Kept replied.0 =
        ap (λ o. reply_state_with
        (option_or o (option_and_then (λ e. reply_in e.outcome) (answer_to f)))
        (is_reversed f) (draft_reply f.entry.day f.request (next_reference f.before))) replied.1 in
        let own = changes.completion_posting f.entry.day f.request (prior has.hold) in
        (λ i. option_map (changes.reversing_posting today r (prior f))
        (posted_leg (state i) (completed_leg i)))
        ∙ ((λ i. Some (record (reversing_posting today r own) {
          amount = completed_amount i - remaining_in r.message;
          reference = or_zero (completed_reference i);
          card = or_empty (completed_card i);
        }))
        ∙ sym (ap (option_map (reversing_posting today r))
        (ap (λ b. cond b (posting_by Completion f.entry f.before f.request) None)
        completion_accepted
        ∙ ap (option_map (λ hold. changes.completion_posting f.entry.day f.request (prior hold)))
        completion_hold)))

  pub takes_back : (s : Service) → f.request.service ≡ s → is_original s ≡ true →
      (f.request.service ≡ Completion → is_accepted f ≡ true → HasHold f.before f.request) →
      TakesBack s
  takes_back Authorization is fits has = of_hold is
  takes_back Financial is fits has = of_sale is
  takes_back Completion is fits has =
      let acc = false_or_then (is_admitted f) (is_accepted f) tests.0
      (ap (λ s. is_admissible s && is_asked f.entry.outcome
      && is_none (recorded (key_of f.request.service f.request.message) f.before)) is) in
      of_completion is (has is acc)
  takes_back s is fits has = absurd (cc)
