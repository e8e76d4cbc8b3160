-- What each event of a merchant's posts: exactly one row, or nothing.
use Rattle.std.proofs.Common.{◌≡◌, ℕ, List, [], ◌∷◌, ◌++◌, Option, Some, None, Bool, true, false}
use Rattle.std.proofs.Common.{cond, ◌⊎◌}
use Rattle.std.proofs.Common.{inl, inr, refl, sym, ap, ◌∙◌, subst}
use Rattle.std.specs.Prelude.{option_map, option_and_then, is_some, ◌&&◌, ◌||◌, take}
use Rattle.std.specs.Str.{bytes_eq}
use Rattle.iso_codec.specs.Message.{IsoMessage}
use Rattle.acq_message.specs.declared.service.Service.{Service}
use Rattle.acq_message.specs.declared.service.Service.TheVariants.{Authorization, Financial}
use Rattle.acq_message.specs.declared.service.Service.TheVariants.{Completion, Reversal}
use Rattle.acq_message.specs.declared.service.Service.TheVariants.{ReversalAdvice}
use Rattle.acq_message.specs.declared.request_key.RequestKey.{RequestKey}
use Rattle.acq_message.specs.declared.request_message.RequestMessage.{RequestMessage}
use Rattle.acq_message.specs.declared.response_code.ResponseCode.TheVariants as code
use Rattle.acq_message.specs.declared.verdict.Verdict.{Verdict}
use Rattle.acq_message.specs.declared.verdict.Verdict.TheVariants as verdict
use Rattle.acq_message.specs.Reply.{answered_reply, verdict_code}
use Rattle.acq_message.specs.Elements.{text_at, or_empty, original_key, original_key_with}
use Rattle.acq_message.specs.Elements.{original_service}
use Rattle.acq_message.specs.Services.{digits_of}
use Rattle.acq_core.specs.declared.event.Event.{Event}
use Rattle.acq_core.specs.declared.posting.Posting.{Posting}
use Rattle.acq_core.specs.declared.arrival.Arrival.{Arrival}
use Rattle.acq_core.specs.declared.arrival.Arrival.TheVariants.{Requested, Answered, CutOver}
use Rattle.acq_core.specs.declared.arrival.Arrival.TheVariants.{RangeAdded, RangeDropped}
use Rattle.acq_core.specs.Arrivals.{arrival_of, is_shared}
use Rattle.acq_core.specs.Changes.{or_zero, answer_posting, reversal_posting}
use Rattle.acq_core.specs.Changes as changes
use Rattle.acq_core.specs.Decision.{decision_of_answer, decision_of_prior, decision_of_reply_state}
use Rattle.acq_core.specs.Outcome.{Outcome, Replied, Reported, outcome, outcome_of}
use Rattle.acq_core.specs.Tables.{Opening, with_next_posting, postings_of}
use Rattle.acq_core.proofs.DecisionCases.{by_answer}
use Rattle.acq_history.specs.Entries.{Entry, reply_in, is_approved, is_completion}
use Rattle.acq_soundness.specs.Requests.{is_reversal, is_admissible}
use Rattle.acq_history.specs.Entries.{is_acceptable, accepts}
use Rattle.acq_soundness.specs.Requests.{recordable}
use Rattle.acq_history.specs.Entries.{request_of}
use Rattle.acq_history.specs.History.{referred, recorded, prior, enrolled, day_after}
use Rattle.acq_history.specs.History.{ranges_after, is_admitted, posting_of, posting_by, postings}
use Rattle.acq_history.specs.PartyHistory.{is_of, own, known_by, entry_for, history_after}
use Rattle.acq_history.specs.PartyHistory.{history_of, book_after}
use Rattle.acq_history.specs.PostedRows.{PostsRow, PostsNothing, ApprovesSale, sale_posting}
use Rattle.acq_history.specs.PostedRows.{IsAccepted, completion_posting}
use Rattle.acq_history.specs.PostedRows.{ReversesPosted, reversing_posting, posted_about}
use Rattle.acq_history.specs.PostedRows.{ApprovalsPost, CompletionsPost, ReversalsPost}
use Rattle.acq_history.specs.PostedRows.{NothingElsePosts, TablesPost}
use Rattle.acq_soundness.proofs.Lookups.{clash, none_some, some_is, map_some, is_some_there, filter-push_in}
use Rattle.acq_soundness.proofs.Lookups.{filter-push_out}
use Rattle.acq_history.proofs.RecordedInHistory.{enrolled_where, referred_is, recorded_is}
use Rattle.acq_history.proofs.RecordedInHistory.{reference_if}
use Rattle.acq_soundness.proofs.RecordableRequests.{recordable_is, is_reversal_true}
use Rattle.acq_history.proofs.UnrecordedRequests.{accepts_not}
use Rattle.acq_history.proofs.NewRows.{admissible_is, own_reference, own_card}
use Rattle.acq_history.proofs.ChangedRows.{entry_on}
use Rattle.acq_soundness.proofs.StepCases.{can_be_reversed}
use Rattle.acq_history.proofs.OwnRequests.{reversal_by, reversal_accepted}
use Rattle.acq_history.proofs.MerchantsRuns.{from_new, posts_alone}
use Rattle.acq_history.proofs.EntriesThatAccept.{AcceptsBy, accepts_by, HasHold, has_hold}
use Rattle.acq_history.proofs.EntriesThatAccept.{HasOriginal, has_original, is_awaited}
use Rattle.acq_history.proofs.EntriesThatAccept.{is_unanswered}
use Rattle.acq_history.proofs.PostedEarlier.{approval_is, legless, unposted, is_original, PostedAt}
use Rattle.acq_history.proofs.PostedEarlier.{posted_in_history, takes_back}

-- ---- services, codes, keys

completion_is : (s : Service) → is_completion s ≡ true → s ≡ Completion
completion_is Completion e = refl
completion_is s e = absurd (cc)

pub admissible_cases : (s : Service) → is_admissible s ≡ true →
    (s ≡ Authorization) ⊎ (s ≡ Financial)
admissible_cases Authorization e = inl refl
admissible_cases Financial e = inr refl
admissible_cases s e = absurd (cc)

unacceptable : (s : Service) (r : RequestMessage) (o : Outcome) → is_acceptable r.service ≡ false →
    accepts is_acceptable (recordable r s) o ≡ false
unacceptable s r o off = step (recordable r s) refl
  where
    step : (rq : Option RequestMessage) → recordable r s ≡ rq →
        accepts is_acceptable rq o ≡ false
    step None is = refl
    step (Some q) is =
        ap (λ x. is_acceptable x.service && is_approved o) (sym (recordable_is s r q is))
        ∙ ap (λ b. b && is_approved o) off

-- what the host approves
approved_is : (o : Outcome) → is_approved o ≡ true →
    (reply : IsoMessage) × (o ≡ Replied code.Approved reply)
approved_is (Replied code.Approved reply) e = (reply, refl)
approved_is (Replied given reply) e = absurd (cc)
approved_is other e = absurd (cc)

-- a reversal names an authorization, a sale, a return or a completion
named_original : (m : IsoMessage) (key : RequestKey) → original_key m ≡ Some key →
    is_original key.service ≡ true
named_original m key named =
    let service =
    map_some (original_key_with m) (original_service (take 3 (text_at m 90))) key named in
    ap (λ k. is_original k.service) (sym service.2)
    ∙ step (take 3 (text_at m 90)) service.0 service.1
  where
    step : (digits : List ℕ) (s : Service) → original_service digits ≡ Some s →
        is_original s ≡ true
    step digits s e = by (bytes_eq digits (digits_of Authorization))
        (bytes_eq digits (digits_of Financial)) (bytes_eq digits (digits_of Completion)) s e
      where
        by : (a b c : Bool) (s : Service) →
            cond a (Some Authorization) (cond b (Some Financial) (cond c (Some Completion) None))
            ≡ Some s →
            is_original s ≡ true
        by true b c s e = ap is_original (sym (some_is Authorization s e))
        by false true c s e = ap is_original (sym (some_is Financial s e))
        by false false true s e = ap is_original (sym (some_is Completion s e))
        by false false false s e = none_some s e

-- ---- what an entry posts

module _ (opening : Opening) (h : List Entry) where
  posts_row : (a : Arrival) (p : Posting) → posting_of (entry_for opening h a) h ≡ Some p →
      PostsRow opening h a p
  posts_row a p is = ap (with_next_posting (postings h)) is

  posts_nothing : (a : Arrival) → posting_of (entry_for opening h a) h ≡ None →
      PostsNothing opening h a
  posts_nothing a none = ap (with_next_posting (postings h)) none

  -- the outcome of a request
  abbrev pub given : RequestMessage → Outcome
  given r = outcome (known_by opening h (Requested r)) (Requested r)

  -- what isn't accepted posts nothing
  unaccepted : (r : RequestMessage) →
      accepts is_acceptable (request_of (Requested r)) (given r) ≡ false →
      PostsNothing opening h (Requested r)
  unaccepted r off =
      posts_nothing (Requested r)
      (ap (λ b. cond b (posting_by r.service (entry_for opening h (Requested r)) h r) None) off)

  -- a completion
  pub completed_posting : (r : RequestMessage) → r.service ≡ Completion →
      is_approved (given r) ≡ true → (has : HasHold h r) →
      posting_of (entry_for opening h (Requested r)) h
      ≡ Some (completion_posting (day_after opening.first_day h) r has.reference has.hold)
  completed_posting r is approved has =
      let day = day_after opening.first_day h in
      let e = entry_for opening h (Requested r) in
      let numbered = (referred_is has.reference h has.hold has.found).0 in
      let fits = admissible_is has.hold has.reference numbered in
      let reference = own_reference has.hold has.reference has.hold.request.service fits numbered in
      let card = own_card has.hold has.hold.request.service fits in
      (λ i. cond (accepts is_acceptable (recordable r (is i)) (given r)) (posting_by (is i) e h r)
      None)
      ∙ ((λ i. cond (is_acceptable (is i) && approved i)
      (option_map (λ hold. changes.completion_posting day r (prior hold))
      (option_and_then (λ n. referred n h) (has.named i))) None)
      ∙ (ap (option_map (λ hold. changes.completion_posting day r (prior hold))) has.found
      ∙ (λ i. Some (record (completion_posting day r has.reference has.hold) {
        reference = or_zero (reference i);
        card = or_empty (card i);
      }))))

  completed : (r : RequestMessage) → r.service ≡ Completion → is_approved (given r) ≡ true →
      (has : HasHold h r) →
      PostsRow opening h (Requested r)
      (completion_posting (day_after opening.first_day h) r has.reference has.hold)
  completed r is approved has =
      posts_row (Requested r)
      (completion_posting (day_after opening.first_day h) r has.reference has.hold)
      (completed_posting r is approved has)

  -- an accepted request that isn't a completion is a reversal, where it may be accepted
  accepted_is : (r : RequestMessage) → is_acceptable r.service ≡ true →
      request_of (Requested r) ≡ Some r
  accepted_is r fits = step r.service fits
    where
      step : (s : Service) → is_acceptable s ≡ true → recordable r s ≡ Some r
      step Completion e = refl
      step Reversal e = refl
      step ReversalAdvice e = refl
      step s e = absurd (cc)

  -- a reversal, by what its original posted
  pub reversed : (r : RequestMessage) → is_reversal r.service ≡ true → is_approved (given r) ≡ true →
      (has : HasOriginal h r) → PostedAt h has.key →
      posting_of (entry_for opening h (Requested r)) h
      ≡ option_map (reversing_posting (day_after opening.first_day h) r) (posted_about has.key h)
  reversed r fits approved has at =
      let day = day_after opening.first_day h in
      let e = entry_for opening h (Requested r) in
      let f = has.original in
      let acceptable = reversal_accepted r.service fits in
      let service : is_original f.request.service ≡ true =
      ap (λ k. is_original k.service) (recorded_is has.key h f has.found)
      ∙ named_original r.message has.key has.named in
      let reversible = (can_be_reversed r (prior f) has.can).reversible in
      (λ i. cond (accepts is_acceptable (accepted_is r acceptable i) (given r))
      (posting_by r.service e h r) None)
      ∙ ((λ i. cond (acceptable i && approved i) (posting_by r.service e h r) None)
      ∙ (reversal_by e h r r.service fits
      ∙ (ap (option_and_then (λ x. reversal_posting day r (prior x)))
      (ap (option_and_then (λ k. recorded k h)) has.named ∙ has.found)
      ∙ (takes_back day r f reversible f.request.service refl service
      (λ is acc. at.completes f has.found is acc)
      ∙ sym (ap (option_map (reversing_posting day r)) (at.own f has.found service))))))

-- ---- the laws

pub approvals_post : (m : List ℕ) → ApprovalsPost m
approvals_post m opening es a w =
    let h = history_of opening (Some m) es in
    let came = Answered w.moment w.merchant w.reference (verdict.Approved w.id) in
    let k = known_by opening h came in
    let numbered = (referred_is w.reference h w.sale w.found).0 in
    let there = is_some_there (enrolled h)
    (enrolled_where w.reference h w.sale (from_new opening m es).rows.genuine w.found) in
    let adm = (reference_if (is_admitted w.sale) _ w.reference numbered).0 in
    let pending = is_awaited w.sale adm w.unanswered w.unreversed in
    let replied =
    ap (λ o. reply_in (outcome_of k (decision_of_answer k w.moment (verdict.Approved w.id) o)))
    there.1
    ∙ (ap (λ o. reply_in (outcome_of k (decision_of_prior w.moment (verdict.Approved w.id)
    (option_map prior o)))) w.found
    ∙ ap (λ s. reply_in (outcome_of k
    (decision_of_reply_state w.moment (verdict.Approved w.id) (prior w.sale) s))) pending) in
    subst (λ x. PostsRow opening h x (sale_posting w.reference w.sale)) (sym w.came)
    (posts_row opening h came _
    ((λ i. cond (is_some (replied i))
    (option_and_then (λ f. answer_posting (verdict.Approved w.id) (prior f)) (w.found i)) None)
    ∙ approval_is w.sale w.reference w.service numbered))

-- the outcome of a request that came
came_approved : (opening : Opening) (h : List Entry) (a : Arrival) (r : RequestMessage)
    (reply : IsoMessage) → a ≡ Requested r →
    outcome (known_by opening h a) a ≡ Replied code.Approved reply →
    is_approved (given opening h r) ≡ true
came_approved opening h a r reply came approved =
    ap (λ x. is_approved (outcome (known_by opening h x) x)) (sym came) ∙ ap is_approved approved

pub completions_post : (m : List ℕ) → CompletionsPost m
completions_post m opening es a w =
    let h = history_of opening (Some m) es in
    let r = w.request in
    let is = completion_is r.service w.service in
    let approved = came_approved opening h a r w.reply w.came w.approved in
    let by : AcceptsBy (known_by opening h (Requested r)) r → HasHold h r =
    elim [
      | inl completes ↦ has_hold opening h r completes
      | inr (inl reverses) ↦ absurd (elim reverses.service [
        | inl other ↦ (let two = sym other ∙ is in cc)
        | inr other ↦ (let two = sym other ∙ is in cc)
      ])
      | inr (inr off) ↦ clash (is_acceptable r.service) (ap is_acceptable is) off
    ] in
    let has = by (accepts_by (known_by opening h (Requested r)) r approved) in
    record {
      reference = has.reference;
      hold = has.hold;
      named = has.named;
      found = has.found;
      posts =
          subst (λ x. PostsRow opening h x
          (completion_posting (day_after opening.first_day h) r has.reference has.hold))
          (sym w.came)
          (completed opening h r is approved has);
    }

pub reversals_post : (m : List ℕ) → ReversalsPost m
reversals_post m opening es a w =
    let h = history_of opening (Some m) es in
    let day = day_after opening.first_day h in
    let r = w.reversal.request in
    let fits = w.reversal.service in
    let approved = came_approved opening h a r w.reversal.reply w.reversal.came w.reversal.approved
    in
    let by : AcceptsBy (known_by opening h (Requested r)) r → HasOriginal h r =
    elim [
      | inl completes ↦
          absurd (let two : true ≡ false = sym fits ∙ ap is_reversal completes.service in cc)
      | inr (inl reverses) ↦ has_original opening h r reverses
      | inr (inr off) ↦ clash (is_acceptable r.service) (reversal_accepted r.service fits) off
    ] in
    let has = by (accepts_by (known_by opening h (Requested r)) r approved) in
    let same : has.key ≡ w.original = some_is has.key w.original (sym has.named ∙ w.named) in
    subst (λ x. PostsRow opening h x (reversing_posting day r w.posting)) (sym w.reversal.came)
    (posts_row opening h (Requested r) (reversing_posting day r w.posting)
    (reversed opening h r fits approved has (posted_in_history m opening es has.key)
    ∙ ap (option_map (reversing_posting day r))
    (ap (λ k. posted_about k h) same ∙ w.posted)))

-- what an event of a history does
module _ (m : List ℕ) (opening : Opening) (es : List Event) where
  abbrev so_far : List Entry
  so_far = history_of opening (Some m) es

  abbrev Does : Arrival → Type 0
  Does a =
      PostsNothing opening so_far a
      ⊎ (ApprovesSale so_far a
      ⊎ (IsAccepted opening so_far a is_completion ⊎ ReversesPosted opening so_far a))

  does_reversal : (r : RequestMessage) (reply : IsoMessage) →
      given opening so_far r ≡ Replied code.Approved reply →
      is_reversal r.service ≡ true → HasOriginal so_far r → Does (Requested r)
  does_reversal r reply approved fits has =
      let is = reversed opening so_far r fits (ap is_approved approved) has
      (posted_in_history m opening es has.key) in
      let step : (o : Option Posting) → posted_about has.key so_far ≡ o → Does (Requested r) =
      elim [
        | None ↦ (λ none. inl (posts_nothing opening so_far (Requested r)
            (is ∙ ap (option_map (reversing_posting (day_after opening.first_day so_far) r)) none)))
        | Some p ↦ (λ posted. inr (inr (inr (record {
          reversal = record {
            request = r;
            reply = reply;
            came = refl;
            service = fits;
            approved = approved;
          };
          original = has.key;
          posting = p;
          named = has.named;
          posted = posted;
        }))))
      ] in
      step (posted_about has.key so_far) refl

  does_request : (r : RequestMessage) → Does (Requested r)
  does_request r =
      let step : (b : Bool) → is_approved (given opening so_far r) ≡ b → Does (Requested r) =
      elim [
        | false ↦ (λ off. inl (unaccepted opening so_far r
            (accepts_not (request_of (Requested r)) (given opening so_far r) off)))
        | true ↦ (λ on.
            let approved = approved_is (given opening so_far r) on in
            let by : AcceptsBy (known_by opening so_far (Requested r)) r → Does (Requested r) =
            elim [
              | inl completes ↦ inr (inr (inl (record {
                request = r;
                reply = approved.0;
                came = refl;
                service = ap is_completion completes.service;
                approved = approved.1;
              })))
              | inr (inl reverses) ↦
                  does_reversal r approved.0 approved.1
                  (is_reversal_true r.service reverses.service)
                  (has_original opening so_far r reverses)
              | inr (inr off) ↦
                  inl (unaccepted opening so_far r
                  (unacceptable r.service r (given opening so_far r) off))
            ] in
            by (accepts_by (known_by opening so_far (Requested r)) r on))
      ] in
      step (is_approved (given opening so_far r)) refl

  does_answer : (moment : ℕ) (merchant : List ℕ) (n : ℕ) (v : Verdict) →
      Does (Answered moment merchant n v)
  does_answer moment merchant n v =
      let a = Answered moment merchant n v in
      let k = known_by opening so_far a in
      let at : Outcome → Entry =
      λ o. entry_on (day_after opening.first_day so_far) (ranges_after so_far) a o in
      let nothing : (o : Outcome) → posting_of (at o) so_far ≡ None →
      postings (at o ∷ so_far) ≡ postings so_far =
      λ o none. ap (with_next_posting (postings so_far)) none in
      by_answer k moment v
      (λ d. (postings (at (outcome_of k d) ∷ so_far) ≡ postings so_far)
      ⊎ (ApprovesSale so_far a
      ⊎ (IsAccepted opening so_far a is_completion ⊎ ReversesPosted opening so_far a)))
      (record {
        not_taken = λ o. inl (nothing (Reported o) refl);
        taken = λ p draft found pending.
            let f = map_some prior (referred n so_far) p found in
            let o = Replied (verdict_code v) (answered_reply draft v) in
            let numbered = (referred_is n so_far f.0 f.1).0 in
            let posts : posting_of (at o) so_far ≡ answer_posting v (prior f.0) =
            ap (option_and_then (λ x. answer_posting v (prior x))) f.1 in
            let sale : f.0.request.service ≡ Financial → (w : Verdict) → v ≡ w →
            (postings (at o ∷ so_far) ≡ postings so_far)
            ⊎ (ApprovesSale so_far a
            ⊎ (IsAccepted opening so_far a is_completion ⊎ ReversesPosted opening so_far a)) =
            λ service. elim [
              | verdict.Approved id ↦ (λ same.
                  let free = is_unanswered f.0 draft (ap (λ x. x.reply_state) f.2 ∙ pending) in
                  inr (inl (record {
                    moment = moment;
                    merchant = merchant;
                    reference = n;
                    id = id;
                    sale = f.0;
                    came = ap (Answered moment merchant n) same;
                    found = f.1;
                    service = service;
                    unanswered = free.unanswered;
                    unreversed = free.unreversed;
                  })))
              | verdict.Declined text ↦ (λ same. inl (nothing o
                  (posts ∙ ap (λ x. answer_posting x (prior f.0)) same)))
              | verdict.NoAnswer ↦ (λ same. inl (nothing o
                  (posts ∙ ap (λ x. answer_posting x (prior f.0)) same)))
            ] in
            elim (admissible_cases f.0.request.service (admissible_is f.0 n numbered)) [
              | inl hold ↦ inl (nothing o (posts ∙ unposted v (prior f.0) (legless f.0 hold)))
              | inr service ↦ sale service v refl
            ];
      })
      k.merchant

  does : (a : Arrival) → Does a
  does (Requested r) = does_request r
  does (Answered moment merchant n v) = does_answer moment merchant n v
  does other = inl refl

pub nothing_else_posts : (m : List ℕ) → NothingElsePosts m
nothing_else_posts m opening es a = does m opening es a

-- ---- in the tables

history_after-push : (opening : Opening) (h : List Entry) (es : List Event) (e : Event) →
    history_after opening h (es ++ e ∷ [])
    ≡ entry_for opening (history_after opening h es) (arrival_of e) ∷ history_after opening h es
history_after-push opening h [] e = refl
history_after-push opening h (x ∷ es) e =
    history_after-push opening (entry_for opening h (arrival_of x) ∷ h) es e

-- what all share posts nothing
shared_posts_nothing : (opening : Opening) (h : List Entry) (a : Arrival) → is_shared a ≡ true →
    PostsNothing opening h a
shared_posts_nothing opening h CutOver shared = refl
shared_posts_nothing opening h (RangeAdded range) shared = refl
shared_posts_nothing opening h (RangeDropped low high) shared = refl
shared_posts_nothing opening h other shared = absurd (cc)

pub tables_post : (m : List ℕ) → TablesPost m
tables_post m opening es e =
    posts_alone m opening (es ++ e ∷ []) ∙ step (is_of (Some m) a) (is_shared a) refl refl
  where
    a : Arrival
    a = arrival_of e

    h : List Entry
    h = history_of opening (Some m) es

    is_own : Event → Bool
    is_own x = is_of (Some m) (arrival_of x) || is_shared (arrival_of x)

    grown : is_own e ≡ true →
        postings (history_of opening (Some m) (es ++ e ∷ []))
        ≡ postings (entry_for opening h a ∷ h)
    grown mine =
        ap (λ xs. postings (history_after opening [] xs)) (filter-push_in is_own es e mine)
        ∙ ap postings (history_after-push opening [] (own (Some m) es) e)

    still : is_own e ≡ false →
        postings (history_of opening (Some m) (es ++ e ∷ [])) ≡ postings h
    still other =
        ap (λ xs. postings (history_after opening [] xs)) (filter-push_out is_own es e other)

    before : postings h ≡ postings_of m (book_after opening es).postings
    before = sym (posts_alone m opening es)

    step : (b c : Bool) → is_of (Some m) a ≡ b → is_shared a ≡ c →
        postings (history_of opening (Some m) (es ++ e ∷ []))
        ≡ cond b (postings (entry_for opening h a ∷ h))
        (postings_of m (book_after opening es).postings)
    step true c mine shared = grown (ap (λ b. b || is_shared a) mine)
    step false true mine shared =
        grown (λ i. mine i || shared i) ∙ (shared_posts_nothing opening h a shared ∙ before)
    step false false mine shared = still (λ i. mine i || shared i) ∙ before
