-- 00 is told exactly where something is done.
use Rattle.std.proofs.Common.{◌≡◌, ℕ, List, ◌∷◌, Some, None, Bool, true, false, cond}
use Rattle.std.proofs.Common.{refl, sym, ap, ◌∙◌, subst}
use Rattle.std.specs.Prelude.{find, option_map, option_and_then, is_some, ◌&&◌, ◌||◌, codes}
use Rattle.std.specs.List.{list_any}
use Rattle.std.proofs.lemmas.Bool.{and_parts}
use Rattle.iso_codec.specs.Message.{IsoMessage}
use Rattle.acq_message.specs.declared.service.Service.{Service}
use Rattle.acq_message.specs.declared.service.Service.TheVariants.{Authorization, Financial}
use Rattle.acq_message.specs.declared.service.Service.TheVariants.{Completion, Reversal}
use Rattle.acq_message.specs.declared.service.Service.TheVariants.{ReversalAdvice}
use Rattle.acq_message.specs.declared.service.Service.TheVariants.{NetworkManagement}
use Rattle.acq_message.specs.declared.request_message.RequestMessage.{RequestMessage}
use Rattle.acq_message.specs.declared.response_code.ResponseCode.TheVariants as code
use Rattle.acq_message.specs.declared.verdict.Verdict.{Verdict}
use Rattle.acq_message.specs.declared.verdict.Verdict.TheVariants as verdict
use Rattle.acq_message.specs.Responses.{code_text}
use Rattle.std.specs.Str.{bytes_eq}
use Rattle.acq_message.specs.Numbers.{is_number}
use Rattle.acq_message.specs.Reply.{answered_reply, verdict_code}
use Rattle.acq_core.specs.declared.arrival.Arrival.{Arrival}
use Rattle.acq_core.specs.declared.arrival.Arrival.TheVariants.{Requested, Answered}
use Rattle.acq_core.specs.declared.reply_state.ReplyState.TheVariants.{Awaited}
use Rattle.acq_core.specs.Arrivals.{arrival_of}
use Rattle.acq_core.specs.Events.{IsVerdict}
use Rattle.acq_core.specs.Outcome.{Outcome, Replied, outcome_of}
use Rattle.acq_core.specs.Tables.{Opening}
use Rattle.acq_core.proofs.DecisionCases.{by_answer}
use Rattle.acq_soundness.specs.Requests.{recordable, is_admissible, is_reversal}
use Rattle.acq_soundness.proofs.Keys.{eqb_itself, same_key_itself}
use Rattle.acq_soundness.proofs.Lookups.{clash, map_some}
use Rattle.acq_soundness.proofs.RecordableRequests.{recordable_some}
use Rattle.acq_history.specs.Entries.{Entry, reply_in, is_approved, is_acceptable, is_completion}
use Rattle.acq_history.specs.Entries.{is_key, request_of, completes, is_completing, reverses}
use Rattle.acq_history.specs.Entries.{is_reversing, remaining_by, answers, is_answer, approval_by}
use Rattle.acq_history.specs.Entries.{approval_in}
use Rattle.acq_history.specs.History.{Found, aged, is_text, referred, prior, day_after}
use Rattle.acq_history.specs.History.{ranges_after, reference_of, approval_of}
use Rattle.acq_history.specs.History.{is_completed, is_reversed, any_with, reply_state_of}
use Rattle.acq_history.specs.PartyHistory.{known_by, entry_for, history_of}
use Rattle.acq_history.specs.Told.{is_told_00}
use Rattle.acq_history.specs.ToldEffects as statement
use Rattle.acq_history.specs.ToldEffects.{Does, Approves, Completes, Reverses, is_about_card}
use Rattle.acq_history.proofs.RecordedInHistory.{key_in, referred_is, recorded_is}
use Rattle.acq_history.proofs.RequestsAfterNewEntry.{answer_here, completed_here}
use Rattle.acq_history.proofs.ChangedRows.{entry_on}
use Rattle.acq_history.proofs.EntriesThatAccept.{is_unanswered}
use Rattle.acq_history.proofs.AcceptedRequests.{completion_accepted, reversal_accepted}
use Rattle.acq_history.proofs.EntriesThatPost.{given}
use Rattle.acq_history.proofs.ExactlyAccepted.{known, Results, says_code, completes_by, reverses_by}
use Rattle.acq_history.proofs.AtMostOnce.{is_open, unreversed, completes_in, reverses_in}
use Rattle.acq_history.proofs.ToldOnEvents.{IsSaid, said_by, says_referring, says_verdict, declines}
use Rattle.acq_history.proofs.ToldOnEvents.{untold, told_later}

-- ---- what is told is done

module _ (opening : Opening) (h : List Entry) (r : RequestMessage) where
  abbrev o : Outcome
  o = given opening h r

  abbrev e : Entry
  e = entry_for opening h (Requested r)

  completes_told : r.service ≡ Completion → is_told_00 o ≡ true → Does e h
  completes_told is on =
      let w = completes_by opening h r is_told_00 is (untold (known opening h r Completion) r)
      (subst (Results opening h r is_told_00) is on) in
      let may = w.1 in
      let n = may.reference in
      let f = may.hold in
      let approved = ap is_approved (completion_accepted opening h r w.0 may) in
      let here : is_completing n e ≡ true =
      (λ i. completes n (recordable r (is i)) o)
      ∙ (λ i. is_completion (is i) && approved i && is_number n (may.named i))
      ∙ eqb_itself n in
      Completes n f may.found (is_open f r.moment may.opens).uncompleted
      (completed_here e f.later (reference_of f) n (referred_is n h f may.found).0 here)

  not_managed : (s : Service) → is_reversal s ≡ true → s ≡ NetworkManagement → ⊥
  not_managed s fits same = absurd (let two = sym (ap is_reversal same) ∙ fits in cc)

  reverses_told : is_reversal r.service ≡ true → is_told_00 o ≡ true → Does e h
  reverses_told fits on =
      let w = reverses_by opening h r is_told_00 r.service refl fits
      (untold (known opening h r r.service) r) on in
      let f = w.1 in
      let may = w.2 in
      let approved = ap is_approved (reversal_accepted opening h r w.0 f may) in
      let key = recorded_is may.key h f may.found in
      let here : is_reversing (key_in f) e ≡ true =
      (λ i. reverses (key i) (recordable_some r.service r (not_managed r.service fits) i) o)
      ∙ (λ i. fits i && approved i && is_key may.key (may.named i))
      ∙ same_key_itself may.key in
      Reverses may.key f may.found (unreversed f may.reversible)
      (ap (λ b. is_some (option_map (λ x. remaining_by (request_of x.arrival))
      (cond b (Some e) (find (is_reversing (key_in f)) f.later)))) here)

  request_does : (is_admissible r.service || is_acceptable r.service) ≡ true →
      is_told_00 o ≡ true → Does e h
  request_does about on = step r.service refl about
    where
      step : (s : Service) → r.service ≡ s → (is_admissible s || is_acceptable s) ≡ true →
          Does (entry_for opening h (Requested r)) h
      step Authorization is about =
          clash (is_told_00 o) on (told_later opening h r (ap is_admissible is))
      step Financial is about =
          clash (is_told_00 o) on (told_later opening h r (ap is_admissible is))
      step Completion is about = completes_told is on
      step Reversal is about = reverses_told (ap is_reversal is) on
      step ReversalAdvice is about = reverses_told (ap is_reversal is) on
      step s is about = absurd (cc)

module _ (opening : Opening) (h : List Entry) (moment : ℕ) (merchant : List ℕ) (n : ℕ)
    (v : Verdict) where
  abbrev answer : Arrival
  answer = Answered moment merchant n v

  abbrev at : Outcome → Entry
  at o = entry_on (day_after opening.first_day h) (ranges_after h) answer o

  approves : (draft : IsoMessage) (f : Found) → referred n h ≡ Some f →
      reply_state_of f ≡ Awaited draft → is_some (approval_by moment v) ≡ true →
      Does (at (Replied (verdict_code v) (answered_reply draft v))) h
  approves draft f found pending some =
      let e = at (Replied (verdict_code v) (answered_reply draft v)) in
      let here : is_answer n e ≡ true = ap (λ b. b && true) (eqb_itself n) in
      let free = is_unanswered f draft pending in
      Approves n f found (ap (option_and_then (λ x. approval_in x.arrival)) free.unanswered)
      (ap (λ x. is_some (option_and_then (λ y. approval_in y.arrival) x))
      (answer_here e f.later (reference_of f) n (referred_is n h f found).0 here)
      ∙ some)

  -- a verdict that is told as 00 is an approval
  said_00 : IsVerdict v → (draft : IsoMessage) →
      is_told_00 (Replied (verdict_code v) (answered_reply draft v)) ≡ true →
      is_some (approval_by moment v) ≡ true
  said_00 is draft on =
      step v is (sym (ap (is_text (codes "00")) (says_verdict draft v)) ∙ on)
    where
      step : (w : Verdict) → IsVerdict w →
          is_text (codes "00") (Some (code_text (verdict_code w))) ≡ true →
          is_some (approval_by moment w) ≡ true
      step (verdict.Approved id) is on = refl
      step (verdict.Declined text) is on = clash (bytes_eq text (codes "00")) on (declines text is)
      step verdict.NoAnswer is on = absurd (cc)

  answer_does : IsVerdict v → is_told_00 (entry_for opening h answer).outcome ≡ true →
      Does (entry_for opening h answer) h
  answer_does is =
      by_answer (known_by opening h answer) moment v
      (λ d. is_told_00 (outcome_of (known_by opening h answer) d) ≡ true →
      Does (at (outcome_of (known_by opening h answer) d)) h)
      (record {
        not_taken = λ o on. absurd (cc);
        taken = λ x draft found pending on.
            let f = map_some prior (referred n h) x found in
            approves draft f.0 f.1 (ap (λ y. y.reply_state) f.2 ∙ pending) (said_00 is draft on);
      })
      (known_by opening h answer).merchant

  -- an approval that is taken is told as 00
  approval_told : is_some (approval_by moment v) ≡ true →
      is_some (reply_in (entry_for opening h answer).outcome) ≡ true →
      is_told_00 (entry_for opening h answer).outcome ≡ true
  approval_told some =
      by_answer (known_by opening h answer) moment v
      (λ d. is_some (reply_in (outcome_of (known_by opening h answer) d)) ≡ true →
      is_told_00 (outcome_of (known_by opening h answer) d) ≡ true)
      (record {
        not_taken = λ o replied. absurd (cc);
        taken = λ x draft found pending replied.
            ap (is_text (codes "00")) (says_verdict draft v) ∙ approved v some;
      })
      (known_by opening h answer).merchant
    where
      approved : (w : Verdict) → is_some (approval_by moment w) ≡ true →
          is_text (codes "00") (Some (code_text (verdict_code w))) ≡ true
      approved (verdict.Approved id) some = refl
      approved other some = absurd (cc)

-- ---- what is done is told

or_first : (a b : Bool) → (a || b) ≡ true → b ≡ false → a ≡ true
or_first true b either off = refl
or_first false b either off = clash b either off

module _ (opening : Opening) (h : List Entry) (a : Arrival) where
  abbrev made : Entry
  made = entry_for opening h a

  completed_told : (n : ℕ) (f : Found) → referred n h ≡ Some f → is_completed f ≡ false →
      is_completed (aged made f) ≡ true → is_told_00 made.outcome ≡ true
  completed_told n f found before after =
      let numbered = (referred_is n h f found).0 in
      let here = or_first (is_completing n made) (list_any (is_completing n) f.later)
      (sym (ap (λ x. any_with is_completing x (made ∷ f.later)) numbered) ∙ after)
      (sym (ap (λ x. any_with is_completing x f.later) numbered) ∙ before) in
      let w = completes_in opening h a n here in
      subst (λ x. is_told_00 (entry_for opening h x).outcome ≡ true) (sym w.came)
      (ap is_told_00 (completion_accepted opening h w.request w.merchant w.may)
      ∙ ap (is_text (codes "00"))
      (says_code (day_after opening.first_day h) w.request code.Approved))

  reversed_told : (f : Found) → is_reversed f ≡ false → is_reversed (aged made f) ≡ true →
      is_told_00 made.outcome ≡ true
  reversed_told f before after = step (is_reversing (key_in f) made) refl after
    where
      step : (b : Bool) → is_reversing (key_in f) (entry_for opening h a) ≡ b →
          is_some (option_map (λ x. remaining_by (request_of x.arrival))
          (cond b (Some (entry_for opening h a)) (find (is_reversing (key_in f)) f.later))) ≡ true →
          is_told_00 (entry_for opening h a).outcome ≡ true
      step false off some = clash (is_reversed f) some before
      step true on some =
          let w = reverses_in opening h a (key_in f) on in
          subst (λ x. is_told_00 (entry_for opening h x).outcome ≡ true) (sym w.came)
          (ap is_told_00 (reversal_accepted opening h w.request w.merchant w.original w.may)
          ∙ ap (is_text (codes "00"))
          (says_referring (day_after opening.first_day h) w.request (prior w.original).reference
          code.Approved))

  approved_told : (n : ℕ) (f : Found) → referred n h ≡ Some f → approval_of f ≡ None →
      is_some (approval_of (aged made f)) ≡ true → is_told_00 made.outcome ≡ true
  approved_told n f found before after =
      let numbered = (referred_is n h f found).0 in
      let shown = ap (λ x. is_some (option_and_then (λ y. approval_in y.arrival)
      (option_and_then (λ k. find (is_answer k) (made ∷ f.later)) x))) numbered in
      step (is_answer n made) refl (sym shown ∙ after)
    where
      told : (b : Arrival) → answers n b ≡ true → is_some (approval_in b) ≡ true →
          is_some (reply_in (entry_for opening h b).outcome) ≡ true →
          is_told_00 (entry_for opening h b).outcome ≡ true
      told (Answered moment merchant k v) answers some replied =
          approval_told opening h moment merchant k v some replied
      told other answers some replied = absurd (cc)

      step : (b : Bool) → is_answer n (entry_for opening h a) ≡ b →
          is_some (option_and_then (λ y. approval_in y.arrival)
          (cond b (Some (entry_for opening h a)) (find (is_answer n) f.later))) ≡ true →
          is_told_00 (entry_for opening h a).outcome ≡ true
      step false off some =
          let same = ap (λ x. option_and_then (λ y. approval_in y.arrival)
          (option_and_then (λ k. find (is_answer k) f.later) x)) (referred_is n h f found).0 in
          clash (is_some (approval_of f)) (ap is_some same ∙ some) (ap is_some before)
      step true on some =
          let parts = and_parts (answers n a) (is_some (reply_in (entry_for opening h a).outcome)) on
          in
          told a parts.0 some parts.1

  done_told : Does made h → is_told_00 made.outcome ≡ true
  done_told (Approves n f found before after) = approved_told n f found before after
  done_told (Completes n f found before after) = completed_told n f found before after
  done_told (Reverses key f found before after) = reversed_told f before after

-- ---- the law

pub does_as_told : (m : List ℕ) → statement.DoesAsTold m
does_as_told m opening es next is about = (
  step (arrival_of next) (said_by next is) about,
  done_told opening (history_of opening (Some m) es) (arrival_of next),
)
  where
    step : (a : Arrival) → IsSaid a → is_about_card a ≡ true →
        is_told_00 (entry_for opening (history_of opening (Some m) es) a).outcome ≡ true →
        Does (entry_for opening (history_of opening (Some m) es) a) (history_of opening (Some m) es)
    step (Requested r) said about on =
        request_does opening (history_of opening (Some m) es) r about on
    step (Answered moment merchant n v) said about on =
        answer_does opening (history_of opening (Some m) es) moment merchant n v said on
    step other said about on = absurd (cc)
