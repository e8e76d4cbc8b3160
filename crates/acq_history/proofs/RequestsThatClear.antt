-- Of each recorded request one posting, where its reply says 00 and it moves money.
use Rattle.std.proofs.Common.{◌≡◌, ◌+◌, ◌≤◌, ℕ, List, [], ◌∷◌, ◌++◌, Option, Some, None, Bool, true}
use Rattle.std.proofs.Common.{false, cond, refl, sym, ap, ◌∙◌, subst, arith, append_assoc}
use Rattle.std.specs.Prelude.{map, find, option_map, option_and_then, is_some, not, ◌&&◌}
use Rattle.std.specs.Prelude.{◌==◌, IsPermutation, codes}
use Rattle.std.specs.List.{filter_map, cons_option}
use Rattle.std.specs.Option.{option_or}
use Rattle.std.proofs.Math.Bool.{and-false}
use Rattle.std.proofs.lemmas.Bool.Decides.{nat_tests}
use Rattle.std.proofs.lemmas.List.{append-nil}
use Rattle.std.proofs.lemmas.List.Elements.{filter_map-append}
use Rattle.std.proofs.lemmas.List.Sorted.{IsPermutation-refl, IsPermutation-append_comm}
use Rattle.std.proofs.lemmas.List.Sorted.{IsPermutation-append_left, IsPermutation-append_right}
use Rattle.std.proofs.lemmas.List.Sorted.{IsPermutation-trans}
use Rattle.iso_codec.specs.Message.{IsoMessage}
use Rattle.acq_message.specs.declared.service.Service.{Service}
use Rattle.acq_message.specs.declared.service.Service.TheVariants.{Authorization, Financial}
use Rattle.acq_message.specs.declared.request_message.RequestMessage.{RequestMessage}
use Rattle.acq_message.specs.declared.verdict.Verdict.{Verdict}
use Rattle.acq_message.specs.Elements.{key_of}
use Rattle.acq_message.specs.Numbers.{is_number}
use Rattle.acq_message.specs.Reply.{answered_reply, verdict_code}
use Rattle.acq_core.specs.declared.posting.Posting.{Posting}
use Rattle.acq_core.specs.declared.arrival.Arrival.{Arrival}
use Rattle.acq_core.specs.declared.arrival.Arrival.TheVariants.{Requested, Answered}
use Rattle.acq_core.specs.declared.reply_state.ReplyState.TheVariants.{Awaited}
use Rattle.acq_core.specs.Known.{Known}
use Rattle.acq_core.specs.Decision.{decision_of_request}
use Rattle.acq_core.specs.Events.{IsVerdict}
use Rattle.acq_core.specs.Outcome.{Outcome, Replied, Reported, outcome_of}
use Rattle.acq_core.specs.Tables.{Opening, count, with_next_posting, postings_before}
use Rattle.acq_core.proofs.DecisionCases.{by_request, by_answer}
use Rattle.acq_soundness.specs.Requests.{is_admissible}
use Rattle.acq_core.proofs.Counts.{or_none}
use Rattle.acq_soundness.proofs.Keys.{eqb_is, eqb_itself}
use Rattle.acq_soundness.proofs.Lookups.{none_some, some_is, map_some, map-push, count-view}
use Rattle.acq_soundness.proofs.RecordableRequests.{recordable_is, wants_by_key}
use Rattle.acq_history.specs.Entries.{Entry, reply_in, answers, is_answer, request_of}
use Rattle.acq_history.specs.Entries.{is_past_merchant, is_acceptable, accepts}
use Rattle.acq_history.specs.History.{Found, newest, aged, is_text, recorded, referred, prior}
use Rattle.acq_history.specs.PostedRows.{sale_posting}
use Rattle.acq_history.specs.History.{posting_by}
use Rattle.acq_history.specs.History.{day_after, ranges_after, reference_of, kept_reply}
use Rattle.acq_history.specs.History.{admits, is_admitted, next_reference, posting_of, postings}
use Rattle.acq_history.specs.History.{reply_state_of}
use Rattle.acq_history.specs.PartyHistory.{own, known_by, entry_for, history_of}
use Rattle.acq_history.specs.Isolation.{recording_first, all_recorded}
use Rattle.acq_history.specs.Told.{code_in, reply_now, is_told_00}
use Rattle.acq_history.specs.Cleared.{sale_moved, request_moved}
use Rattle.acq_history.specs.ClearedRequests as statement
use Rattle.acq_history.specs.ClearedRequests.{moved_by, cleared, on_day}
use Rattle.acq_history.specs.DaySums.{postings_on}
use Rattle.std.proofs.lemmas.List.Elements.{filter-append}
use Rattle.acq_history.proofs.RecordedInHistory.{AdmitsOnlyEnrolled, referred_is, reference_if}
use Rattle.acq_history.proofs.RecordedInHistory.{find_referred, fresh}
use Rattle.acq_history.proofs.RequestsAfterNewEntry.{answer_more, answer_here}
use Rattle.acq_history.proofs.ChangedRows.{entry_on}
use Rattle.acq_history.proofs.MerchantsRuns.{from_new, posts_alone}
use Rattle.acq_history.proofs.UnrecordedRequests.{accepts_not}
use Rattle.acq_history.proofs.NewRows.{admissible_is}
use Rattle.acq_history.proofs.EntriesThatAccept.{is_unanswered, admitted_unreplied}
use Rattle.acq_history.proofs.EntriesThatAccept.{recorded_unaccepted}
use Rattle.acq_history.proofs.PostedEarlier.{IsMade, made_after, no_answer, approved_past}
use Rattle.acq_history.proofs.ToldOnEvents.{IsSaid, AreSaid, is_as_told, said_after, told_later}
use Rattle.acq_history.proofs.ToldOnEvents.{taken_as_told}

-- ---- lists

-- a list of one, or none
abbrev listed : {X : Type 0} → Option X → List X
listed None = []
listed (Some x) = x ∷ []

cons_is : {X : Type 0} (o : Option X) (xs : List X) → cons_option o xs ≡ listed o ++ xs
cons_is None xs = refl
cons_is (Some x) xs = refl

-- with one row more
rows_more : (day : ℕ) (rows : List (ℕ × Posting)) (o : Option Posting) →
    map (λ row. row.1) (postings_on day (with_next_posting rows o))
    ≡ map (λ row. row.1) (postings_on day rows) ++ listed (on_day day o)
rows_more day rows None = sym (append-nil (map (λ row. row.1) (postings_on day rows)))
rows_more day rows (Some p) =
    let row : ℕ × Posting = (postings_before rows p + 1, p) in
    ap (map (λ (x : ℕ × Posting). x.1))
    (filter-append (λ (x : ℕ × Posting). x.1.day == day) rows (row ∷ []))
    ∙ (map-push (λ (x : ℕ × Posting). x.1) (postings_on day rows) (postings_on day (row ∷ []))
    ∙ ap (λ l. map (λ (x : ℕ × Posting). x.1) (postings_on day rows) ++ l)
    (one row.0 (p.day == day)))
  where
    one : (k : ℕ) (b : Bool) →
        map (λ (x : ℕ × Posting). x.1) (cond b ((k, p) ∷ []) []) ≡ listed (cond b (Some p) None)
    one k true = refl
    one k false = refl

filter_map-map : {X Y : Type 0} (g : X → Option Y) (v : X → X) (xs : List X) →
    filter_map g (map v xs) ≡ filter_map (λ x. g (v x)) xs
filter_map-map g v [] = refl
filter_map-map g v (x ∷ xs) = ap (cons_option (g (v x))) (filter_map-map g v xs)

filter_map-same : {X Y : Type 0} (g k : X → Option Y) → ((x : X) → g x ≡ k x) → (xs : List X) →
    filter_map g xs ≡ filter_map k xs
filter_map-same g k same [] = refl
filter_map-same g k same (x ∷ xs) =
    λ i. cons_option (same x i) (filter_map-same g k same xs i)

-- of the one that passes a test another thing is given, and of the others the same
module _ {X Y : Type 0} (g k : X → Option Y) (q : X → Bool)
    (others : (x : X) → q x ≡ false → k x ≡ g x) where
  none-same : (xs : List X) → count q xs ≡ 0 → filter_map k xs ≡ filter_map g xs
  none-same [] none = refl
  none-same (x ∷ xs) none = step (q x) refl none (λ later. none-same xs later)
    where
      step : (b : Bool) → q x ≡ b → cond b (1 + count q xs) (count q xs) ≡ 0 →
          (count q xs ≡ 0 → filter_map k xs ≡ filter_map g xs) →
          filter_map k (x ∷ xs) ≡ filter_map g (x ∷ xs)
      step true is none later = absurd (omega arith)
      step false is none later = λ i. cons_option (others x is i) (later none i)

  one_more : (xs : List X) (f : X) → find q xs ≡ Some f → count q xs ≤ 1 → g f ≡ None →
      IsPermutation (filter_map k xs) (filter_map g xs ++ listed (k f))
  one_more [] f found once none = none_some f found
  one_more (x ∷ xs) f found once none =
      step (q x) refl found once (λ later few. one_more xs f later few none)
    where
      ys : List Y
      ys = filter_map g xs

      front : (same : x ≡ f) → count q xs ≡ 0 →
          IsPermutation (filter_map k (x ∷ xs)) (filter_map g (x ∷ xs) ++ listed (k f))
      front same left =
          let left_side : filter_map k (x ∷ xs) ≡ listed (k f) ++ filter_map g xs =
          cons_is (k x) (filter_map k xs)
          ∙ (λ i. listed (k (same i)) ++ none-same xs left i) in
          let right_side : filter_map g (x ∷ xs) ≡ filter_map g xs =
          ap (λ o. cons_option o (filter_map g xs)) (ap g same ∙ none) in
          subst (λ l. IsPermutation l (filter_map g (x ∷ xs) ++ listed (k f))) (sym left_side)
          (subst (λ l. IsPermutation (listed (k f) ++ filter_map g xs) (l ++ listed (k f)))
          (sym right_side)
          (IsPermutation-append_comm (listed (k f)) (filter_map g xs)))

      back : q x ≡ false →
          IsPermutation (filter_map k xs) (filter_map g xs ++ listed (k f)) →
          IsPermutation (filter_map k (x ∷ xs)) (filter_map g (x ∷ xs) ++ listed (k f))
      back is rest =
          let left_side : filter_map k (x ∷ xs) ≡ listed (g x) ++ filter_map k xs =
          cons_is (k x) (filter_map k xs) ∙ ap (λ o. listed o ++ filter_map k xs) (others x is) in
          let right_side : filter_map g (x ∷ xs) ++ listed (k f)
          ≡ listed (g x) ++ (filter_map g xs ++ listed (k f)) =
          ap (λ l. l ++ listed (k f)) (cons_is (g x) (filter_map g xs))
          ∙ append_assoc (listed (g x)) (filter_map g xs) (listed (k f)) in
          subst (λ l. IsPermutation l (filter_map g (x ∷ xs) ++ listed (k f))) (sym left_side)
          (subst (λ l. IsPermutation (listed (g x) ++ filter_map k xs) l) (sym right_side)
          (IsPermutation-append_right (listed (g x)) (filter_map k xs)
          (filter_map g xs ++ listed (k f)) rest))

      step : (b : Bool) → q x ≡ b → cond b (Some x) (find q xs) ≡ Some f →
          cond b (1 + count q xs) (count q xs) ≤ 1 →
          (find q xs ≡ Some f → count q xs ≤ 1 →
          IsPermutation (filter_map k xs) (filter_map g xs ++ listed (k f))) →
          IsPermutation (filter_map k (x ∷ xs)) (filter_map g (x ∷ xs) ++ listed (k f))
      step true is found once later = front (some_is x f found) (omega arith)
      step false is found once later = back is (later found once)

-- ---- a reference is given once

abbrev has_number : ℕ → Found → Bool
has_number n f = is_number n (reference_of f)

count-push : {X : Type 0} (q : X → Bool) (xs ys : List X) →
    count q (xs ++ ys) ≡ count q xs + count q ys
count-push q [] ys = omega arith
count-push q (x ∷ xs) ys = step (q x) (count-push q xs ys)
  where
    step : (b : Bool) → count q (xs ++ ys) ≡ count q xs + count q ys →
        cond b (1 + count q (xs ++ ys)) (count q (xs ++ ys))
        ≡ cond b (1 + count q xs) (count q xs) + count q ys
    step true rest = omega arith
    step false rest = rest

count-unfound : {X : Type 0} (q : X → Bool) (xs : List X) → find q xs ≡ None → count q xs ≡ 0
count-unfound q [] none = refl
count-unfound q (x ∷ xs) none = step (q x) none (λ later. count-unfound q xs later)
  where
    step : (b : Bool) → cond b (Some x) (find q xs) ≡ None →
        (find q xs ≡ None → count q xs ≡ 0) →
        cond b (1 + count q xs) (count q xs) ≡ 0
    step true none later = none_some x (sym none)
    step false none later = later none

-- what the newest entry adds, where the others have it at most once
newest_once : (e : Entry) (h : List Entry) (n : ℕ) → AdmitsOnlyEnrolled (e ∷ h) →
    (rq : Option RequestMessage) → request_of e.arrival ≡ rq →
    count (has_number n) (all_recorded h) ≤ 1 →
    count (has_number n) (all_recorded h) + count (has_number n) (recording_first e h rq) ≤ 1
newest_once e h n genuine None came before = omega arith
newest_once e h n genuine (Some r) came before =
    step (is_past_merchant e.outcome && not (is_some (recorded (key_of r.service r.message) h)))
    (admits (Some r) e h) refl (next_reference h == n) refl
  where
    had : ℕ
    had = count (has_number n) (all_recorded h)

    step : (b c : Bool) → admits (Some r) e h ≡ c → (d : Bool) → (next_reference h == n) ≡ d →
        had + count (has_number n) (cond b (newest r e h ∷ []) []) ≤ 1
    step false c adm d same = omega arith
    step true false adm d same =
        let none : count (has_number n) (newest r e h ∷ []) ≡ 0 =
        ap (λ x. cond (is_number n (cond x (Some (next_reference h)) None)) 1 0) adm in
        omega arith
    step true true adm false same =
        let none : count (has_number n) (newest r e h ∷ []) ≡ 0 =
        (λ i. cond (is_number n (cond (adm i) (Some (next_reference h)) None)) 1 0)
        ∙ ap (λ x. cond x 1 0) same in
        omega arith
    step true true adm true same =
        let there = genuine.0 (ap (λ rq. admits rq e h) came ∙ adm) in
        let free : referred n h ≡ None =
        ap (λ k. referred k h) (sym (eqb_is (next_reference h) n same)) ∙ fresh h genuine.1 there in
        let none : had ≡ 0 =
        count-unfound (has_number n) (all_recorded h) (find_referred n h ∙ free) in
        let one : count (has_number n) (newest r e h ∷ []) ≡ 1 =
        (λ i. cond (is_number n (cond (adm i) (Some (next_reference h)) None)) 1 0)
        ∙ ap (λ x. cond x 1 0) same in
        omega arith

numbered_once : (h : List Entry) → AdmitsOnlyEnrolled h → (n : ℕ) →
    count (has_number n) (all_recorded h) ≤ 1
numbered_once [] genuine n = omega arith
numbered_once (e ∷ h) genuine n =
    subst (λ k. k ≤ 1)
    (sym (count-push (has_number n) (map (aged e) (all_recorded h))
    (recording_first e h (request_of e.arrival))
    ∙ ap (λ k. k + count (has_number n) (recording_first e h (request_of e.arrival)))
    (count-view (aged e) (has_number n) (all_recorded h))))
    (newest_once e h n genuine (request_of e.arrival) refl (numbered_once h genuine.1 n))

-- ---- one entry more

-- an entry that doesn't answer it
cleared_aged : (e : Entry) (f : Found) →
    ((n : ℕ) → reference_of f ≡ Some n → is_answer n e ≡ false) → cleared (aged e f) ≡ cleared f
cleared_aged e f off =
    λ i. cond (is_text (codes "00") (code_in (option_or (reply_in f.entry.outcome)
    (option_and_then (λ x. reply_in x.outcome) (answer_more e f.later (reference_of f) off i)))))
    (moved_same f.request.service i) None
  where
    moved_same : (s : Service) → moved_by s (aged e f) ≡ moved_by s f
    moved_same Financial = refl
    moved_same s = refl

-- a request under a new key gets no kept reply
made_now : (k : Known) (r : RequestMessage) → k.recorded ≡ None →
    reply_in (outcome_of k (decision_of_request r.service k r))
    ≡ reply_now (outcome_of k (decision_of_request r.service k r))
made_now k r new =
    by_request k r (λ d. reply_in (outcome_of k d) ≡ reply_now (outcome_of k d))
    (record {
      managed = λ is. refl;
      unknown = refl;
      duplicate = λ p is. refl;
      repeated = λ p is. none_some p (sym new ∙ is);
      refused = λ merchant fresh given is. refl;
      admitted = λ merchant fresh service range in_range. refl;
      completed = λ merchant fresh service hold found opens. refl;
      reversed = λ merchant fresh service p found can. refl;
      reconciled = λ merchant fresh service day resolved. refl;
    })

-- what clears of it on a day
abbrev on : ℕ → Found → Option Posting
on day f = on_day day (cleared f)

module _ (opening : Opening) (h : List Entry) (made : IsMade opening h)
    (genuine : AdmitsOnlyEnrolled h) (r : RequestMessage) where
  abbrev e : Entry
  e = entry_for opening h (Requested r)

  abbrev f : Found
  f = newest r e h

  -- what is told of it is what was told now
  told_new : reply_in e.outcome ≡ reply_now e.outcome →
      is_text (codes "00") (code_in (kept_reply f)) ≡ is_told_00 e.outcome
  told_new now =
      ap (λ x. is_text (codes "00") (code_in x))
      (ap (λ a. option_or (reply_in e.outcome) (option_and_then (λ x. reply_in x.outcome) a))
      (no_answer (reference_of f))
      ∙ (or_none (reply_in e.outcome) ∙ now))

  clears_new : reply_in e.outcome ≡ reply_now e.outcome → cleared f ≡ posting_of e h
  clears_new now =
      ap (λ b. cond b (moved_by r.service f) None) (told_new now)
      ∙ (step r.service refl ∙ sym (is_as_told opening h made genuine (Requested r) tt))
    where
      step : (s : Service) → r.service ≡ s →
          cond (is_told_00 (entry_for opening h (Requested r)).outcome)
          (moved_by s (newest r (entry_for opening h (Requested r)) h)) None
          ≡ cond (is_told_00 (entry_for opening h (Requested r)).outcome)
          (request_moved s (entry_for opening h (Requested r)) h r) None
      step Financial is =
          let off = told_later opening h r (ap is_admissible is) in
          ap (λ b. cond b (moved_by Financial (newest r (entry_for opening h (Requested r)) h)) None)
          off
          ∙ sym (ap (λ b. cond b
          (request_moved Financial (entry_for opening h (Requested r)) h r) None) off)
      step s is = refl

  -- what isn't accepted posts nothing
  unaccepted : accepts is_acceptable (request_of (Requested r)) e.outcome ≡ false →
      posting_of e h ≡ None
  unaccepted off = ap (λ b. cond b (posting_by r.service e h r) None) off

  new_cleared : (day : ℕ) (rq : Option RequestMessage) → request_of (Requested r) ≡ rq →
      filter_map (on day) (recording_first e h rq) ≡ listed (on_day day (posting_of e h))
  new_cleared day None came =
      sym (ap (λ o. listed (on_day day o)) (unaccepted (ap (λ x. accepts is_acceptable x e.outcome) came)))
  new_cleared day (Some q) came =
      step (is_past_merchant (entry_for opening h (Requested r)).outcome) refl
      (recorded (key_of q.service q.message) h) refl
    where
      own_request : r ≡ q
      own_request = recordable_is r.service r q came

      nothing : accepts is_acceptable (request_of (Requested r))
          (entry_for opening h (Requested r)).outcome ≡ false →
          [] ≡ listed (on_day day (posting_of (entry_for opening h (Requested r)) h))
      nothing off = sym (ap (λ o. listed (on_day day o)) (unaccepted off))

      step : (b : Bool) → is_past_merchant (entry_for opening h (Requested r)).outcome ≡ b →
          (o : Option Found) → recorded (key_of q.service q.message) h ≡ o →
          filter_map (on day)
          (cond (b && not (is_some o)) (newest q (entry_for opening h (Requested r)) h ∷ []) [])
          ≡ listed (on_day day (posting_of (entry_for opening h (Requested r)) h))
      step false past o there =
          nothing (accepts_not (request_of (Requested r))
          (entry_for opening h (Requested r)).outcome
          (approved_past (entry_for opening h (Requested r)).outcome past))
      step true past (Some g) there =
          nothing (recorded_unaccepted opening h r g
          (ap (λ x. recorded (key_of x.service x.message) h) own_request ∙ there))
      step true past None new =
          let key = (wants_by_key (day_after opening.first_day h) r.service r q r.message came).key in
          let unknown : (known_by opening h (Requested r)).recorded ≡ None =
          ap (option_and_then (λ k. option_map prior (recorded k h))) key
          ∙ ap (option_map prior)
          (ap (λ x. recorded (key_of x.service x.message) h) own_request ∙ new) in
          let now = made_now (known_by opening h (Requested r)) r unknown in
          ap (λ x. filter_map (on day) (newest x (entry_for opening h (Requested r)) h ∷ []))
          (sym own_request)
          ∙ (cons_is (on day (newest r (entry_for opening h (Requested r)) h)) []
          ∙ (append-nil (listed (on day (newest r (entry_for opening h (Requested r)) h)))
          ∙ ap (λ o. listed (on_day day o)) (clears_new now)))

-- ---- an answer

module _ (opening : Opening) (h : List Entry) (genuine : AdmitsOnlyEnrolled h) (moment : ℕ)
    (merchant : List ℕ) (n : ℕ) (v : Verdict) where
  abbrev answer : Arrival
  answer = Answered moment merchant n v

  abbrev at : Outcome → Entry
  at o = entry_on (day_after opening.first_day h) (ranges_after h) answer o

  -- what clears after it
  abbrev Adds : ℕ → Entry → Type 0
  Adds day e =
      IsPermutation (filter_map (λ f. on day (aged e f)) (all_recorded h))
      (filter_map (on day) (all_recorded h) ++ listed (on_day day (posting_of e h)))

  adds_nothing : (day : ℕ) (e : Entry) → ((f : Found) (k : ℕ) → reference_of f ≡ Some k →
      is_answer k e ≡ false) → posting_of e h ≡ None → Adds day e
  adds_nothing day e off none =
      let before = filter_map (on day) (all_recorded h) in
      let same : before ≡ filter_map (λ f. on day (aged e f)) (all_recorded h) =
      sym (filter_map-same (λ f. on day (aged e f)) (on day)
      (λ f. ap (on_day day) (cleared_aged e f (off f))) (all_recorded h)) in
      let whole : before ≡ before ++ listed (on_day day (posting_of e h)) =
      sym (ap (λ o. before ++ listed (on_day day o)) none ∙ append-nil before) in
      subst (λ l. IsPermutation l (before ++ listed (on_day day (posting_of e h)))) same
      (subst (λ l. IsPermutation before l) whole (IsPermutation-refl before))

  other_reference : (j : ℕ) → (j == n) ≡ false → (n == j) ≡ false
  other_reference j off = grind (arith, nat_tests)

  -- it answers the one that has its reference
  adds_its : (day : ℕ) (draft : IsoMessage) (f : Found) → referred n h ≡ Some f →
      reply_state_of f ≡ Awaited draft → IsVerdict v →
      Adds day (at (Replied (verdict_code v) (answered_reply draft v)))
  adds_its day draft f found pending is =
      let o : Outcome = Replied (verdict_code v) (answered_reply draft v) in
      let e = at o in
      let numbered = (referred_is n h f found).0 in
      let adm = (reference_if (is_admitted f) (next_reference f.before) n numbered).0 in
      let free = is_unanswered f draft pending in
      let here : is_answer n e ≡ true = ap (λ b. b && true) (eqb_itself n) in
      let others : (x : Found) → has_number n x ≡ false → on day (aged e x) ≡ on day x =
      λ x off. ap (on_day day) (cleared_aged e x (λ j same.
      ap (λ b. b && true) (other_reference j (sym (ap (is_number n) same) ∙ off)))) in
      let silent : cleared f ≡ None =
      λ i. cond (is_text (codes "00") (code_in (option_or (admitted_unreplied f adm i)
      (option_and_then (λ x. reply_in x.outcome) (free.unanswered i)))))
      (moved_by f.request.service f) None in
      let told : cleared (aged e f)
      ≡ cond (is_told_00 o) (moved_by f.request.service (aged e f)) None =
      λ i. cond (is_text (codes "00") (code_in (option_or (admitted_unreplied f adm i)
      (option_and_then (λ x. reply_in x.outcome)
      (answer_here e f.later (reference_of f) n numbered here i)))))
      (moved_by f.request.service (aged e f)) None in
      let posts : cleared (aged e f) ≡ posting_of e h =
      told
      ∙ (ap (λ m. cond (is_told_00 o) m None) (moves e f numbered)
      ∙ (sym (ap (λ m. cond (is_told_00 o) (option_and_then
      (λ x. sale_moved x.request.service n x) m) None) found)
      ∙ sym (taken_as_told (day_after opening.first_day h) (ranges_after h) h moment merchant n v is
      draft f found))) in
      subst (λ p. IsPermutation (filter_map (λ x. on day (aged e x)) (all_recorded h))
      (filter_map (on day) (all_recorded h) ++ listed p)) (ap (on_day day) posts)
      (one_more (on day) (λ x. on day (aged e x)) (has_number n) others (all_recorded h) f
      (find_referred n h ∙ found) (numbered_once h genuine n)
      (ap (on_day day) silent))
    where
      moves : (e : Entry) (f : Found) → reference_of f ≡ Some n →
          moved_by f.request.service (aged e f) ≡ sale_moved f.request.service n f
      moves e f numbered = step f.request.service (admissible_is f n numbered)
        where
          step : (s : Service) → is_admissible s ≡ true →
              moved_by s (aged e f) ≡ sale_moved s n f
          step Authorization fits = refl
          step Financial fits = ap (option_map (λ k. sale_posting k f)) numbered
          step s fits = absurd (cc)

  adds : (day : ℕ) → IsVerdict v → Adds day (entry_for opening h answer)
  adds day is =
      by_answer (known_by opening h answer) moment v
      (λ d. Adds day (at (outcome_of (known_by opening h answer) d)))
      (record {
        not_taken = λ o. adds_nothing day (at (Reported o))
            (λ f k same. and-false (answers k answer)) refl;
        taken = λ p draft found pending.
            let f = map_some prior (referred n h) p found in
            adds_its day draft f.0 f.1 (ap (λ x. x.reply_state) f.2 ∙ pending) is;
      })
      (known_by opening h answer).merchant

-- ---- whole histories

abbrev Clears : ℕ → List Entry → Type 0
Clears day h =
    IsPermutation (filter_map (on day) (all_recorded h))
    (map (λ row. row.1) (postings_on day (postings h)))

-- where the newest entry adds just what it posts
clears_more : (day : ℕ) (e : Entry) (h : List Entry) →
    IsPermutation (filter_map (on day) (all_recorded (e ∷ h)))
    (filter_map (on day) (all_recorded h) ++ listed (on_day day (posting_of e h))) →
    Clears day h → Clears day (e ∷ h)
clears_more day e h more before =
    let cleared_before = filter_map (on day) (all_recorded h) in
    let rows = map (λ (row : ℕ × Posting). row.1) (postings_on day (postings h)) in
    let p = listed (on_day day (posting_of e h)) in
    subst (λ l. IsPermutation (filter_map (on day) (all_recorded (e ∷ h))) l)
    (sym (rows_more day (postings h) (posting_of e h)))
    (IsPermutation-trans (filter_map (on day) (all_recorded (e ∷ h))) (cleared_before ++ p)
    (rows ++ p) more
    (IsPermutation-append_left p cleared_before rows before))

-- an entry that is no request
recorded_still : (day : ℕ) (e : Entry) (h : List Entry) → request_of e.arrival ≡ None →
    filter_map (on day) (all_recorded (e ∷ h))
    ≡ filter_map (λ f. on day (aged e f)) (all_recorded h)
recorded_still day e h none =
    ap (λ rq. filter_map (on day) (map (aged e) (all_recorded h) ++ recording_first e h rq)) none
    ∙ (ap (filter_map (on day)) (append-nil (map (aged e) (all_recorded h)))
    ∙ filter_map-map (on day) (aged e) (all_recorded h))

clears_next : (day : ℕ) (opening : Opening) (h : List Entry) → IsMade opening h → AdmitsOnlyEnrolled h →
    (a : Arrival) → IsSaid a →
    IsPermutation (filter_map (on day) (all_recorded (entry_for opening h a ∷ h)))
    (filter_map (on day) (all_recorded h) ++ listed (on_day day (posting_of (entry_for opening h a) h)))
clears_next day opening h made genuine (Requested r) said =
    let e = entry_for opening h (Requested r) in
    let before = filter_map (on day) (all_recorded h) in
    let whole : filter_map (on day) (all_recorded (e ∷ h)) ≡ before ++ listed (on_day day (posting_of e h)) =
    filter_map-append (on day) (map (aged e) (all_recorded h))
    (recording_first e h (request_of (Requested r)))
    ∙ (λ i. (filter_map-map (on day) (aged e) (all_recorded h)
    ∙ filter_map-same (λ f. on day (aged e f)) (on day)
    (λ f. ap (on_day day) (cleared_aged e f (λ n same. refl))) (all_recorded h)) i
    ++ new_cleared opening h made genuine r day (request_of (Requested r)) refl i) in
    subst (λ l. IsPermutation l (before ++ listed (on_day day (posting_of e h)))) (sym whole)
    (IsPermutation-refl (before ++ listed (on_day day (posting_of e h))))
clears_next day opening h made genuine (Answered moment merchant n v) said =
    let e = entry_for opening h (Answered moment merchant n v) in
    subst (λ l. IsPermutation l (filter_map (on day) (all_recorded h) ++ listed (on_day day (posting_of e h))))
    (sym (recorded_still day e h refl))
    (adds opening h genuine moment merchant n v day said)
clears_next day opening h made genuine other said =
    let e = entry_for opening h other in
    let before = filter_map (on day) (all_recorded h) in
    let whole : filter_map (on day) (all_recorded (e ∷ h)) ≡ before ++ [] =
    recorded_still day e h refl
    ∙ (filter_map-same (λ f. on day (aged e f)) (on day)
    (λ f. ap (on_day day) (cleared_aged e f (λ n same. refl))) (all_recorded h)
    ∙ sym (append-nil before)) in
    subst (λ l. IsPermutation l (before ++ [])) (sym whole) (IsPermutation-refl (before ++ []))

clears : (day : ℕ) (opening : Opening) (h : List Entry) → IsMade opening h → AdmitsOnlyEnrolled h →
    AreSaid h → Clears day h
clears day opening [] made genuine said = IsPermutation-refl []
clears day opening (e ∷ h) made genuine said =
    clears_more day e h
    (subst (λ x. IsPermutation (filter_map (on day) (all_recorded (x ∷ h)))
    (filter_map (on day) (all_recorded h) ++ listed (on_day day (posting_of x h)))) made.0.1
    (clears_next day opening h made.1 genuine.1 made.0.0
    (subst (λ x. IsSaid x.arrival) (sym made.0.1) said.0)))
    (clears day opening h made.1 genuine.1 said.1)

pub clears_by_request : (m : List ℕ) → statement.ClearsByRequest m
clears_by_request m opening es day are =
    let h = history_of opening (Some m) es in
    subst (λ rows. IsPermutation (filter_map (on day) (all_recorded h))
    (map (λ (row : ℕ × Posting). row.1) (postings_on day rows))) (sym (posts_alone m opening es))
    (clears day opening h (made_after opening [] tt (own (Some m) es))
    (from_new opening m es).rows.genuine (said_after opening (Some m) es are [] tt))
