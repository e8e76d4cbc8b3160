-- What was accepted had a hold or an original in its history, and what was answered was pending.
use Rattle.std.proofs.Common.{◌≡◌, ℕ, List, [], ◌∷◌, Option, Some, None, Bool, true, false, ◌⊎◌}
use Rattle.std.proofs.Common.{inl}
use Rattle.std.proofs.Common.{inr, refl, sym, ap, ◌∙◌, subst}
use Rattle.std.specs.Prelude.{find, option_map, option_and_then, is_some, is_none, ◌&&◌}
use Rattle.std.specs.Option.{option_or}
use Rattle.std.proofs.lemmas.Bool.{and_parts}
use Rattle.iso_codec.specs.Message.{IsoMessage}
use Rattle.acq_message.specs.declared.service.Service.{Service}
use Rattle.acq_message.specs.declared.service.Service.TheVariants.{Completion, Reversal}
use Rattle.acq_message.specs.declared.service.Service.TheVariants.{ReversalAdvice}
use Rattle.acq_message.specs.declared.service.Service.TheVariants.{NetworkManagement}
use Rattle.acq_message.specs.declared.request_message.RequestMessage.{RequestMessage}
use Rattle.acq_message.specs.declared.request_key.RequestKey.{RequestKey}
use Rattle.acq_message.specs.Elements.{key_of, same_key, reference_in, original_key}
use Rattle.acq_message.specs.Reply.{draft_reply}
use Rattle.acq_core.specs.declared.arrival.Arrival.TheVariants.{Requested}
use Rattle.acq_core.specs.declared.reply_state.ReplyState.{ReplyState}
use Rattle.acq_core.specs.declared.reply_state.ReplyState.TheVariants.{Kept, Awaited}
use Rattle.acq_core.specs.Known.{Known, Prior, wanted_for}
use Rattle.acq_core.specs.Decision.{Decision, decision_of_request, repeat_of}
use Rattle.acq_core.specs.Outcome.{Outcome, Asked, outcome_of}
use Rattle.acq_core.specs.Tables.{Opening}
use Rattle.acq_core.proofs.DecisionCases.{CanBeReversed, by_request}
use Rattle.acq_history.specs.Entries.{Entry, reply_in, is_asked, is_approved}
use Rattle.acq_history.specs.Entries.{is_acceptable, is_answer, answers, accepts, request_of}
use Rattle.acq_soundness.specs.Requests.{is_admissible}
use Rattle.acq_history.specs.History.{Found, recorded, referred, prior, day_after, answer_to}
use Rattle.acq_history.specs.History.{is_admitted, reference_of, kept_reply, reply_state_with}
use Rattle.acq_history.specs.History.{reply_state_of, next_reference, is_reversed}
use Rattle.acq_history.specs.PartyHistory.{known_by}
use Rattle.acq_history.specs.Isolation.{all_recorded}
use Rattle.acq_soundness.proofs.Members.{In, In-find}
use Rattle.acq_soundness.proofs.Lookups.{clash, then_some, map_some, none_some, Each}
use Rattle.acq_history.proofs.RecordedInHistory.{IsFoundAgain, AdmitsOnlyEnrolled}
use Rattle.acq_history.proofs.RecordedInHistory.{each_found_again, find_recorded, key_in}
use Rattle.acq_soundness.proofs.RecordableRequests.{recordable_some, wants_by_key}
use Rattle.acq_history.proofs.UnrecordedRequests.{refusal_is, quiet_managed, quiet_unknown}
use Rattle.acq_history.proofs.UnrecordedRequests.{quiet_duplicate, quiet_repeated}

-- ---- requests that the host accepts

-- a completion, by the hold that is found for it
pub record CompletesBy (k : Known) (r : RequestMessage) : Type 0 where
  pub service : r.service ≡ Completion
  pub hold : Prior
  pub found : k.referred ≡ Some hold

-- a reversal, by its original
pub record ReversesBy (k : Known) (r : RequestMessage) : Type 0 where
  pub service : (r.service ≡ Reversal) ⊎ (r.service ≡ ReversalAdvice)
  pub original : Prior
  pub found : k.original ≡ Some original
  pub can : CanBeReversed r original

-- what the host approves is one of these, or isn't a request that it accepts
abbrev pub AcceptsBy : Known → RequestMessage → Type 0
AcceptsBy k r = CompletesBy k r ⊎ (ReversesBy k r ⊎ (is_acceptable r.service ≡ false))

not_approved : {X : Type 0} (o : Outcome) → is_approved o ≡ false → is_approved o ≡ true → X
not_approved o off on = clash (is_approved o) on off

repeats_not : (k : Known) (s : ReplyState) → is_approved (outcome_of k (repeat_of s)) ≡ false
repeats_not k (Kept reply) = refl
repeats_not k other = refl

pub accepts_by : (k : Known) (r : RequestMessage) →
    is_approved (outcome_of k (decision_of_request r.service k r)) ≡ true → AcceptsBy k r
accepts_by k r =
    by_request k r (λ d. is_approved (outcome_of k d) ≡ true → AcceptsBy k r)
    (record {
      managed = λ is yes. inr (inr (ap is_acceptable is));
      unknown = λ yes. absurd (cc);
      duplicate = λ p is yes. absurd (cc);
      repeated = λ p is yes. not_approved _ (repeats_not k p.reply_state) yes;
      refused = λ merchant fresh given is yes. absurd (let no = (refusal_is given is).0 in cc);
      admitted = λ merchant fresh service range in_range yes. absurd (cc);
      completed = λ merchant fresh service hold found opens yes.
          inl (record { service = service; hold = hold; found = found });
      reversed = λ merchant fresh service p found can yes.
          inr (inl (record { service = service; original = p; found = found; can = can }));
      reconciled = λ merchant fresh service day resolved yes. inr (inr (ap is_acceptable service));
    })

-- ---- in a history

-- the hold of a completion
pub record HasHold (h : List Entry) (r : RequestMessage) : Type 0 where
  pub reference : ℕ
  pub hold : Found
  pub named : reference_in r.message ≡ Some reference
  pub found : referred reference h ≡ Some hold

-- the original of a reversal
pub record HasOriginal (h : List Entry) (r : RequestMessage) : Type 0 where
  pub key : RequestKey
  pub original : Found
  pub named : original_key r.message ≡ Some key
  pub found : recorded key h ≡ Some original
  pub can : CanBeReversed r (prior original)

wanted_reference : (today : ℕ) (s : Service) (m : IsoMessage) → s ≡ Completion →
    (wanted_for today s m).reference ≡ reference_in m
wanted_reference today s m is = ap (λ x. (wanted_for today x m).reference) is

wanted_original : (today : ℕ) (s : Service) (m : IsoMessage) →
    (s ≡ Reversal) ⊎ (s ≡ ReversalAdvice) →
    (wanted_for today s m).original ≡ original_key m
wanted_original today s m (inl is) = ap (λ x. (wanted_for today x m).original) is
wanted_original today s m (inr is) = ap (λ x. (wanted_for today x m).original) is

module _ (opening : Opening) (h : List Entry) (r : RequestMessage) where
  abbrev known : Known
  known = known_by opening h (Requested r)

  pub has_hold : CompletesBy known r → HasHold h r
  has_hold by =
      let wanted = wanted_reference (day_after opening.first_day h) r.service r.message by.service
      in
      let asked = then_some (λ n. option_map prior (referred n h)) (reference_in r.message) by.hold
      (sym (ap (option_and_then (λ n. option_map prior (referred n h))) wanted) ∙ by.found) in
      let there = map_some prior (referred asked.0 h) by.hold asked.2 in
      record { reference = asked.0; hold = there.0; named = asked.1; found = there.1 }

  pub has_original : ReversesBy known r → HasOriginal h r
  has_original by =
      let wanted = wanted_original (day_after opening.first_day h) r.service r.message by.service in
      let asked = then_some (λ key. option_map prior (recorded key h)) (original_key r.message)
      by.original
      (sym (ap (option_and_then (λ key. option_map prior (recorded key h))) wanted) ∙ by.found) in
      let there = map_some prior (recorded asked.0 h) by.original asked.2 in
      record {
        key = asked.0;
        original = there.0;
        named = asked.1;
        found = there.1;
        can = subst (CanBeReversed r) (sym there.2) by.can;
      }

  -- a request whose key is recorded isn't accepted
  pub recorded_unaccepted : (f : Found) → recorded (key_of r.service r.message) h ≡ Some f →
      accepts is_acceptable (request_of (Requested r))
      (outcome_of known (decision_of_request r.service known r)) ≡ false
  recorded_unaccepted f there =
      let known_key : (r.service ≡ NetworkManagement → ⊥) → known.recorded ≡ Some (prior f) =
      λ other.
      ap (option_and_then (λ key. option_map prior (recorded key h)))
      (wants_by_key (day_after opening.first_day h) r.service r r r.message
      (recordable_some r.service r other)).key
      ∙ ap (option_map prior) there in
      let Unaccepted : Decision → Type 0 =
      λ d. accepts is_acceptable (request_of (Requested r)) (outcome_of known d) ≡ false in
      let twice : (r.service ≡ NetworkManagement → ⊥) → known.recorded ≡ None → ⊥ =
      λ other new. none_some (prior f) (sym new ∙ known_key other) in
      by_request known r Unaccepted
      (record {
        managed = λ is. (quiet_managed known r is).accepted;
        unknown = (quiet_unknown known r).accepted;
        duplicate = λ p is. (quiet_duplicate known r p is).accepted;
        repeated = λ p is. (quiet_repeated known r p is p.reply_state).accepted;
        refused = λ merchant fresh given is. absurd (twice fresh.recordable fresh.new);
        admitted = λ merchant fresh service range in_range.
            absurd (twice fresh.recordable fresh.new);
        completed = λ merchant fresh service hold found opens.
            absurd (twice fresh.recordable fresh.new);
        reversed = λ merchant fresh service p found can. absurd (twice fresh.recordable fresh.new);
        reconciled = λ merchant fresh service day resolved.
            absurd (twice fresh.recordable fresh.new);
      })

-- ---- what is found

pub each_in : {X : Type 0} (P : X → Type 0) (xs : List X) (x : X) → Each P xs → In x xs → P x
each_in P [] x each within = absurd within
each_in P (y ∷ ys) x each (inl is) = subst P is each.0
each_in P (y ∷ ys) x each (inr later) = each_in P ys x each.1 later

-- what is found under a key is found again by its reference
pub found_again : (h : List Entry) (key : RequestKey) (f : Found) → AdmitsOnlyEnrolled h →
    recorded key h ≡ Some f → IsFoundAgain h f
found_again h key f genuine there =
    each_in (IsFoundAgain h) (all_recorded h) f (each_found_again h genuine)
    (In-find (λ g. same_key (key_in g) key) (all_recorded h) f (find_recorded key h ∙ there)).0

-- ---- what is answered was pending

asked_unreplied : (o : Outcome) → is_asked o ≡ true → reply_in o ≡ None
asked_unreplied (Asked query) e = refl
asked_unreplied other e = absurd (cc)

-- an admitted request has no reply of its own
pub admitted_unreplied : (f : Found) → is_admitted f ≡ true → reply_in f.entry.outcome ≡ None
admitted_unreplied f adm =
    let last = and_parts (is_admissible f.request.service && is_asked f.entry.outcome)
    (is_none (recorded (key_of f.request.service f.request.message) f.before)) adm in
    asked_unreplied f.entry.outcome
    (and_parts (is_admissible f.request.service) (is_asked f.entry.outcome) last.0).1

-- an answer has a reply
pub answer_replies : (f : Found) (a : Entry) → answer_to f ≡ Some a →
    is_some (reply_in a.outcome) ≡ true
answer_replies f a is =
    let asked = then_some (λ n. find (is_answer n) f.later) (reference_of f) a is in
    (and_parts (answers asked.0 a.arrival) (is_some (reply_in a.outcome))
    (In-find (is_answer asked.0) f.later a asked.2).1).1

-- what waits for its answer has no reply, and isn't reversed
awaits : (o : Option IsoMessage) (reversed : Bool) (fixed draft : IsoMessage) →
    reply_state_with o reversed fixed ≡ Awaited draft → (o ≡ None) × (reversed ≡ false)
awaits (Some reply) reversed fixed draft e = absurd (cc)
awaits None true fixed draft e = absurd (cc)
awaits None false fixed draft e = (refl, refl)

pub record IsUnanswered (f : Found) : Type 0 where
  pub unanswered : answer_to f ≡ None
  pub unreversed : is_reversed f ≡ false

silent : (f : Found) (o : Option Entry) → answer_to f ≡ o →
    option_and_then (λ e. reply_in e.outcome) o ≡ None → o ≡ None
silent f None is none = refl
silent f (Some a) is none =
    clash (is_some (reply_in a.outcome)) (answer_replies f a is) (ap is_some none)

second_none : {X : Type 0} (o p : Option X) → option_or o p ≡ None → p ≡ None
second_none None p e = e
second_none (Some x) p e = absurd (cc)

pub is_unanswered : (f : Found) (draft : IsoMessage) → reply_state_of f ≡ Awaited draft →
    IsUnanswered f
is_unanswered f draft pending =
    let both = awaits (kept_reply f) (is_reversed f) _ draft pending in
    record {
      unanswered = silent f (answer_to f) refl
          (second_none (reply_in f.entry.outcome)
          (option_and_then (λ e. reply_in e.outcome) (answer_to f)) both.0);
      unreversed = both.1;
    }

-- and what has neither waits for it
pub is_awaited : (f : Found) → is_admitted f ≡ true → answer_to f ≡ None → is_reversed f ≡ false →
    reply_state_of f
    ≡ Awaited (draft_reply f.entry.day f.request (next_reference f.before))
is_awaited f adm unanswered unreversed =
    let fixed = draft_reply f.entry.day f.request (next_reference f.before) in
    λ i. reply_state_with
    (option_or (admitted_unreplied f adm i)
    (option_and_then (λ e. reply_in e.outcome) (unanswered i)))
    (unreversed i) fixed
