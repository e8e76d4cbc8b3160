-- What an entry posts is what its reply told.
use Rattle.std.proofs.Common.{◌≡◌, ℕ, List, [], ◌∷◌, ◌++◌, Option, Some, None, Bool, true, false}
use Rattle.std.proofs.Common.{cond, ◌⊎◌, inl, inr, refl, sym, ap, ◌∙◌, subst}
use Rattle.std.specs.Prelude.{option_map, option_and_then, is_none, not, ◌&&◌, ◌||◌, length}
use Rattle.std.specs.Prelude.{◌==◌, codes}
use Rattle.std.specs.List.{list_all, list_any}
use Rattle.std.specs.Str.{bytes_eq}
use Rattle.std.proofs.lemmas.Bool.{and_parts}
use Rattle.std.proofs.lemmas.List.Elements.{All-head, All-tail}
use Rattle.card_no.specs.declared.range.Range.{Range}
use Rattle.iso_codec.specs.Content.{is_alphanumeric}
use Rattle.iso_codec.specs.Message.{IsoMessage, content_of, with_content}
use Rattle.acq_message.specs.declared.service.Service.{Service}
use Rattle.acq_message.specs.declared.service.Service.TheVariants.{Authorization, Financial}
use Rattle.acq_message.specs.declared.service.Service.TheVariants.{Completion, Reversal}
use Rattle.acq_message.specs.declared.service.Service.TheVariants.{ReversalAdvice, Reconciliation}
use Rattle.acq_message.specs.declared.service.Service.TheVariants.{NetworkManagement}
use Rattle.acq_message.specs.declared.request_message.RequestMessage.{RequestMessage}
use Rattle.acq_message.specs.declared.response_code.ResponseCode.{ResponseCode}
use Rattle.acq_message.specs.declared.response_code.ResponseCode.TheVariants as code
use Rattle.acq_message.specs.declared.verdict.Verdict.{Verdict}
use Rattle.acq_message.specs.declared.verdict.Verdict.TheVariants as verdict
use Rattle.acq_message.specs.Services.{echoed}
use Rattle.acq_message.specs.IssuerTexts.{is_decline_code}
use Rattle.acq_message.specs.Responses.{code_text}
use Rattle.acq_message.specs.Elements.{essence_of}
use Rattle.acq_message.specs.Reply.{coded_reply, referring_reply, answered_reply, with_contents}
use Rattle.acq_message.specs.Reply.{echo, day_element, reference_element, code_element}
use Rattle.acq_message.specs.Reply.{authorization_element, verdict_code, draft_reply}
use Rattle.acq_core.specs.declared.event.Event.{Event}
use Rattle.acq_core.specs.declared.posting.Posting.{Posting}
use Rattle.acq_core.specs.declared.arrival.Arrival.{Arrival}
use Rattle.acq_core.specs.declared.arrival.Arrival.TheVariants.{Requested, Answered}
use Rattle.acq_core.specs.declared.reply_state.ReplyState.{ReplyState}
use Rattle.acq_core.specs.declared.reply_state.ReplyState.TheVariants.{Kept, Awaited}
use Rattle.acq_core.specs.Arrivals.{arrival_of, is_shared}
use Rattle.acq_core.specs.Changes.{answer_posting}
use Rattle.acq_core.specs.Decision.{Replies, repeat_of, decision_of_answer, decision_of_prior}
use Rattle.acq_core.specs.Decision.{decision_of_reply_state}
use Rattle.acq_core.specs.declared.merchant.Merchant.{Merchant}
use Rattle.acq_core.specs.Events.{IsVerdict, IsEvent, AreEvents}
use Rattle.acq_core.specs.Known.{Known, Prior}
use Rattle.acq_core.specs.Outcome.{Outcome, Replied, outcome_of}
use Rattle.acq_core.specs.Tables.{Opening, with_next_posting}
use Rattle.acq_core.proofs.DecisionCases.{by_answer}
use Rattle.acq_soundness.specs.Requests.{is_admissible, is_reversal}
use Rattle.acq_soundness.proofs.Arrivals.{IsArrival, of_event}
use Rattle.acq_soundness.proofs.Lookups.{clash, map_some, not_true, is_some_there}
use Rattle.acq_history.specs.Entries.{Entry, is_approved, is_acceptable, accepts, request_of}
use Rattle.acq_history.specs.History.{Found, is_text, referred, prior, day_after, ranges_after}
use Rattle.acq_history.specs.History.{posting_of, posting_by, postings, answer_to, is_reversed}
use Rattle.acq_history.specs.History.{enrolled, reply_state_of, reference_of, is_admitted}
use Rattle.acq_history.specs.History.{next_reference}
use Rattle.acq_history.specs.PartyHistory.{Party, is_of, own, known_by, entry_for, history_of}
use Rattle.acq_history.specs.PartyHistory.{history_after}
use Rattle.acq_history.specs.PostedRows.{completion_posting, reversing_posting, posted_about}
use Rattle.acq_history.specs.Told.{reply_now, is_told_00}
use Rattle.acq_history.specs.Cleared as statement
use Rattle.acq_history.specs.Cleared.{sale_moved, completion_moved, reversal_moved, request_moved}
use Rattle.acq_history.specs.Cleared.{moved, told_posting, told_postings}
use Rattle.acq_history.specs.IssuersCodes as issuers
use Rattle.acq_history.specs.IssuersCodes.{code_said, id_said}
use Rattle.acq_history.proofs.ReplyElements.{content_of-set, with_contents-append, contents_kept}
use Rattle.acq_history.proofs.ReplyElements.{content_of-dropped}
use Rattle.acq_history.proofs.PassedChecks.{AreBehind}
use Rattle.acq_history.proofs.RecordedInHistory.{AdmitsOnlyEnrolled, enrolled_where, referred_is}
use Rattle.acq_history.proofs.RecordedInHistory.{reference_if}
use Rattle.acq_history.proofs.UnrecordedRequests.{accepts_not}
use Rattle.acq_history.proofs.NewRows.{admissible_is}
use Rattle.acq_history.proofs.ChangedRows.{entry_on}
use Rattle.acq_history.proofs.MerchantsRuns.{from_new, posts_alone}
use Rattle.acq_history.proofs.EntriesThatAccept.{AcceptsBy, accepts_by, HasHold, HasOriginal}
use Rattle.acq_history.proofs.EntriesThatAccept.{has_original, is_awaited, is_unanswered}
use Rattle.acq_history.proofs.PostedEarlier.{IsMade, posted_at, made_after, approval_is, legless}
use Rattle.acq_history.proofs.PostedEarlier.{unposted}
use Rattle.acq_history.proofs.AcceptedRequests.{completion_accepted, reversal_accepted}
use Rattle.acq_history.proofs.EntriesThatPost.{given, completed_posting, reversed, admissible_cases}
use Rattle.acq_history.proofs.ExactlyAccepted.{known, Results, says_code, own_not_00, unapproved}
use Rattle.acq_history.proofs.ExactlyAccepted.{completes_by, reverses_by, waits}

-- ---- what replies say

-- one with a reference
pub says_referring : (day : ℕ) (r : RequestMessage) (reference : Option ℕ) (c : ResponseCode) →
    content_of (referring_reply day r reference c).elements 39 ≡ Some (code_text c)
says_referring day r reference c =
    let before = day_element r.service day ++ reference_element reference in
    ap (λ es. content_of es 39)
    (with_contents-append (echo r.service r.message) before (code_element c))
    ∙ content_of-set (with_contents (echo r.service r.message) before) 39 (code_text c)

-- one that an issuer answered
pub says_verdict : (draft : IsoMessage) (v : Verdict) →
    content_of (answered_reply draft v).elements 39 ≡ Some (code_text (verdict_code v))
says_verdict draft v =
    ap (λ es. content_of es 39)
    (with_contents-append draft.elements (authorization_element v) (code_element (verdict_code v)))
    ∙ content_of-set (with_contents draft.elements (authorization_element v)) 39
    (code_text (verdict_code v))

-- no refusal of a check, and nothing that a recorded key gets, is 00 that is told now
pub untold : (k : Known) (r : RequestMessage) → AreBehind is_told_00 k r
untold k r = record {
  refused = λ given own.
      ap (is_text (codes "00")) (says_code k.today r given) ∙ own_not_00 given own;
  recorded = λ p there. repeat r p (bytes_eq (essence_of r.service r.message) p.essence);
}
  where
    kept : (s : ReplyState) → is_told_00 (outcome_of k (repeat_of s)) ≡ false
    kept (Kept reply) = refl
    kept other = refl

    repeat : (q : RequestMessage) (p : Prior) (b : Bool) →
        is_told_00 (outcome_of k
        (cond b (repeat_of p.reply_state) (Replies q code.DuplicateTransmission)))
        ≡ false
    repeat q p true = kept p.reply_state
    repeat q p false =
        ap (is_text (codes "00")) (says_code k.today q code.DuplicateTransmission)

-- ---- requests

same_test : (a b : Bool) → (a ≡ true → b ≡ true) → (b ≡ true → a ≡ true) → a ≡ b
same_test true true f g = refl
same_test true false f g = sym (f refl)
same_test false true f g = g refl
same_test false false f g = refl

-- where there is nothing, it is all one whether it is taken
none_both : (a b : Bool) (x y : Option Posting) → x ≡ None → y ≡ None →
    cond a x None ≡ cond b y None
none_both true true x y first second = first ∙ sym second
none_both true false x y first second = first
none_both false true x y first second = sym second
none_both false false x y first second = refl

module _ (opening : Opening) (h : List Entry) (r : RequestMessage) where
  abbrev today : ℕ
  today = day_after opening.first_day h

  abbrev o : Outcome
  o = given opening h r

  abbrev e : Entry
  e = entry_for opening h (Requested r)

  -- a sale, a return or an authorization is told nothing at once
  pub told_later : is_admissible r.service ≡ true → is_told_00 o ≡ false
  told_later fits = step (is_told_00 o) refl
    where
      step : (b : Bool) → is_told_00 (given opening h r) ≡ b → b ≡ false
      step true on =
          absurd (waits opening h r is_told_00 (λ query. refl) r.service refl fits
          (untold (known opening h r r.service) r) on)
      step false off = refl

  -- a completion is told 00 exactly if it is accepted
  pub may_complete : (goes : Outcome → Bool) → AreBehind goes (known opening h r Completion) r →
      r.service ≡ Completion → goes o ≡ true →
      HasHold h r × (o ≡ Replied code.Approved (coded_reply today r code.Approved))
  may_complete goes behind is on =
      let w = completes_by opening h r goes is behind (subst (Results opening h r goes) is on) in
      let may = w.1 in (
        record {
          reference = may.reference;
          hold = may.hold;
          named = may.named;
          found = may.found;
        },
        completion_accepted opening h r w.0 may,
      )

  completion_told : r.service ≡ Completion → is_told_00 o ≡ is_approved o
  completion_told is =
      same_test (is_told_00 o) (is_approved o)
      (λ on. ap is_approved
      (may_complete is_told_00 (untold (known opening h r Completion) r) is on).1)
      (λ on. ap is_told_00
      (may_complete is_approved (unapproved (known opening h r Completion) r) is on).1
      ∙ ap (is_text (codes "00")) (says_code today r code.Approved))

  -- and so is a reversal
  may_reverse : (goes : Outcome → Bool) → AreBehind goes (known opening h r r.service) r →
      is_reversal r.service ≡ true → goes o ≡ true →
      (reference : Option ℕ)
      × (o ≡ Replied code.Approved (referring_reply today r reference code.Approved))
  may_reverse goes behind fits on =
      let w = reverses_by opening h r goes r.service refl fits behind on in
      ((prior w.1).reference, reversal_accepted opening h r w.0 w.1 w.2)

  reversal_told : is_reversal r.service ≡ true → is_told_00 o ≡ is_approved o
  reversal_told fits =
      same_test (is_told_00 o) (is_approved o)
      (λ on. ap is_approved
      (may_reverse is_told_00 (untold (known opening h r r.service) r) fits on).1)
      (λ on. let may = may_reverse is_approved (unapproved (known opening h r r.service) r) fits on in
      ap is_told_00 may.1
      ∙ ap (is_text (codes "00")) (says_referring today r may.0 code.Approved))

  -- ---- what it posts

  abbrev IsAsTold : Type 0
  IsAsTold = posting_of e h ≡ told_posting e h

  -- a service that moves nothing at once
  still : (s : Service) → r.service ≡ s → posting_by s e h r ≡ None →
      request_moved s e h r ≡ None → IsAsTold
  still s is posts moves =
      none_both (accepts is_acceptable (request_of (Requested r)) o) (is_told_00 o)
      (posting_by r.service e h r) (request_moved r.service e h r)
      (ap (λ x. posting_by x e h r) is ∙ posts) (ap (λ x. request_moved x e h r) is ∙ moves)

  -- what isn't accepted, and isn't told 00
  neither : is_approved o ≡ false → is_told_00 o ≡ false → IsAsTold
  neither off untold =
      ap (λ b. cond b (posting_by r.service e h r) None)
      (accepts_not (request_of (Requested r)) o off)
      ∙ sym (ap (λ b. cond b (request_moved r.service e h r) None) untold)

  sale : r.service ≡ Financial → IsAsTold
  sale is =
      none_both (accepts is_acceptable (request_of (Requested r)) o) false
      (posting_by r.service e h r) None (ap (λ x. posting_by x e h r) is) refl
      ∙ sym (ap (λ b. cond b (request_moved r.service e h r) None)
      (told_later (ap is_admissible is)))

  completion : r.service ≡ Completion → IsAsTold
  completion is = step (is_approved o) refl
    where
      step : (b : Bool) → is_approved (given opening h r) ≡ b →
          posting_of (entry_for opening h (Requested r)) h
          ≡ told_posting (entry_for opening h (Requested r)) h
      step false off = neither off (completion_told is ∙ off)
      step true on =
          let has = (may_complete is_approved (unapproved (known opening h r Completion) r) is on).0
          in
          completed_posting opening h r is on has
          ∙ sym ((λ i. cond ((completion_told is ∙ on) i)
          (request_moved (is i) (entry_for opening h (Requested r)) h r) None)
          ∙ (ap (option_and_then (λ n. option_map
          (completion_posting (day_after opening.first_day h) r n) (referred n h))) has.named
          ∙ ap (option_map (completion_posting (day_after opening.first_day h) r has.reference))
          has.found))

  reversal_moves : (s : Service) → is_reversal s ≡ true →
      request_moved s e h r ≡ reversal_moved e h r
  reversal_moves Reversal fits = refl
  reversal_moves ReversalAdvice fits = refl
  reversal_moves s fits = absurd (cc)

  reversal : IsMade opening h → AdmitsOnlyEnrolled h → is_reversal r.service ≡ true → IsAsTold
  reversal made genuine fits = step (is_approved o) refl
    where
      acceptable : (s : Service) → is_reversal s ≡ true → is_acceptable s ≡ true
      acceptable Reversal fits = refl
      acceptable ReversalAdvice fits = refl
      acceptable s fits = absurd (cc)

      original : AcceptsBy (known_by opening h (Requested r)) r → HasOriginal h r
      original (inl completes) =
          absurd (let two : true ≡ false = sym fits ∙ ap is_reversal completes.service in cc)
      original (inr (inl reverses)) = has_original opening h r reverses
      original (inr (inr off)) =
          clash (is_acceptable r.service) (acceptable r.service fits) off

      step : (b : Bool) → is_approved (given opening h r) ≡ b →
          posting_of (entry_for opening h (Requested r)) h
          ≡ told_posting (entry_for opening h (Requested r)) h
      step false off = neither off (reversal_told fits ∙ off)
      step true on =
          let has = original (accepts_by (known_by opening h (Requested r)) r on) in
          reversed opening h r fits on has (posted_at opening h made genuine has.key)
          ∙ sym (ap (λ b. cond b
          (request_moved r.service (entry_for opening h (Requested r)) h r) None)
          (reversal_told fits ∙ on)
          ∙ (reversal_moves r.service fits
          ∙ ap (λ x. option_map (reversing_posting (day_after opening.first_day h) r)
          (option_and_then (λ key. posted_about key h) x)) has.named))

  pub of_request : IsMade opening h → AdmitsOnlyEnrolled h → IsAsTold
  of_request made genuine = by_service r.service refl
    where
      by_service : (s : Service) → r.service ≡ s →
          posting_of (entry_for opening h (Requested r)) h
          ≡ told_posting (entry_for opening h (Requested r)) h
      by_service Financial is = sale is
      by_service Completion is = completion is
      by_service Reversal is = reversal made genuine (ap is_reversal is)
      by_service ReversalAdvice is = reversal made genuine (ap is_reversal is)
      by_service Authorization is = still Authorization is refl refl
      by_service Reconciliation is = still Reconciliation is refl refl
      by_service NetworkManagement is = still NetworkManagement is refl refl

-- ---- answers

-- a decline isn't 00
pub declines : (text : List ℕ) → is_decline_code text ≡ true → bytes_eq text (codes "00") ≡ false
declines text is =
    not_true (bytes_eq text (codes "00"))
    (and_parts (length text == 2 && list_all is_alphanumeric text)
    (not (bytes_eq text (codes "00"))) is).1

-- what the approval of an admitted request posts
approved : (f : Found) (n : ℕ) (id : List ℕ) → reference_of f ≡ Some n →
    answer_posting (verdict.Approved id) (prior f) ≡ sale_moved f.request.service n f
approved f n id numbered =
    step (admissible_cases f.request.service (admissible_is f n numbered))
  where
    step : (f.request.service ≡ Authorization) ⊎ (f.request.service ≡ Financial) →
        answer_posting (verdict.Approved id) (prior f) ≡ sale_moved f.request.service n f
    step (inl is) =
        unposted (verdict.Approved id) (prior f) (legless f is)
        ∙ sym (ap (λ s. sale_moved s n f) is)
    step (inr is) = approval_is f n is numbered ∙ sym (ap (λ s. sale_moved s n f) is)

-- by what the issuer said
answered : (v : Verdict) → IsVerdict v → (f : Found) (n : ℕ) → reference_of f ≡ Some n →
    answer_posting v (prior f)
    ≡ cond (is_text (codes "00") (Some (code_text (verdict_code v))))
    (sale_moved f.request.service n f) None
answered (verdict.Approved id) is f n numbered = approved f n id numbered
answered (verdict.Declined text) is f n numbered =
    sym (ap (λ b. cond b (sale_moved f.request.service n f) None) (declines text is))
answered verdict.NoAnswer is f n numbered = refl

-- an answer that is taken
pub taken_as_told : (day : ℕ) (ranges : List Range) (h : List Entry) (moment : ℕ)
    (merchant : List ℕ) (n : ℕ) (v : Verdict) → IsVerdict v → (draft : IsoMessage) (f : Found) →
    referred n h ≡ Some f →
    let e = entry_on day ranges (Answered moment merchant n v)
    (Replied (verdict_code v) (answered_reply draft v)) in
    posting_of e h ≡ told_posting e h
taken_as_told day ranges h moment merchant n v is draft f found =
    ap (option_and_then (λ x. answer_posting v (prior x))) found
    ∙ (answered v is f n (referred_is n h f found).0
    ∙ sym ((λ i. cond (is_text (codes "00") (says_verdict draft v i))
    (option_and_then (λ x. sale_moved x.request.service n x) (found i)) None)))

of_answer : (opening : Opening) (h : List Entry) (moment : ℕ) (merchant : List ℕ) (n : ℕ)
    (v : Verdict) → IsVerdict v →
    posting_of (entry_for opening h (Answered moment merchant n v)) h
    ≡ told_posting (entry_for opening h (Answered moment merchant n v)) h
of_answer opening h moment merchant n v is =
    by_answer (known_by opening h (Answered moment merchant n v)) moment v
    (λ d. posting_of (at (outcome_of (known_by opening h (Answered moment merchant n v)) d)) h
    ≡ told_posting (at (outcome_of (known_by opening h (Answered moment merchant n v)) d)) h)
    (record {
      not_taken = λ o. refl;
      taken = λ p draft found pending.
          let f = map_some prior (referred n h) p found in
          taken_as_told (day_after opening.first_day h) (ranges_after h) h moment merchant n v is
          draft f.0 f.1;
    })
    (known_by opening h (Answered moment merchant n v)).merchant
  where
    at : Outcome → Entry
    at o = entry_on (day_after opening.first_day h) (ranges_after h) (Answered moment merchant n v) o

-- ---- whole histories

-- an answer is one that an issuer may give
abbrev pub IsSaid : Arrival → Type 0
IsSaid (Answered moment merchant n v) = IsVerdict v
IsSaid other = Unit {0}

abbrev pub AreSaid : List Entry → Type 0
AreSaid [] = Unit {0}
AreSaid (e ∷ h) = IsSaid e.arrival × AreSaid h

pub is_as_told : (opening : Opening) (h : List Entry) → IsMade opening h → AdmitsOnlyEnrolled h →
    (a : Arrival) → IsSaid a →
    posting_of (entry_for opening h a) h ≡ told_posting (entry_for opening h a) h
is_as_told opening h made genuine (Requested r) said = of_request opening h r made genuine
is_as_told opening h made genuine (Answered moment merchant n v) said =
    of_answer opening h moment merchant n v said
is_as_told opening h made genuine other said =
    none_both false (is_told_00 (entry_for opening h other).outcome) None None refl refl

clears : (opening : Opening) (h : List Entry) → IsMade opening h → AdmitsOnlyEnrolled h →
    AreSaid h → postings h ≡ told_postings h
clears opening [] made genuine said = refl
clears opening (e ∷ h) made genuine said =
    let same : posting_of e h ≡ told_posting e h =
    subst (λ x. posting_of x h ≡ told_posting x h) made.0.1
    (is_as_told opening h made.1 genuine.1 made.0.0
    (subst (λ x. IsSaid x.arrival) (sym made.0.1) said.0)) in
    λ i. with_next_posting (clears opening h made.1 genuine.1 said.1 i) (same i)

-- an event's arrival is one
pub said_by : (e : Event) → IsEvent e → IsSaid (arrival_of e)
said_by e is = step (arrival_of e) (of_event e is)
  where
    step : (a : Arrival) → IsArrival a → IsSaid a
    step (Answered moment merchant n v) is = is.1
    step other is = tt

pub said_after : (opening : Opening) (party : Party) (es : List Event) → AreEvents es →
    (h : List Entry) → AreSaid h → AreSaid (history_after opening h (own party es))
said_after opening party [] are h said = said
said_after opening party (e ∷ es) are h said =
    step (is_of party (arrival_of e) || is_shared (arrival_of e))
    (said_after opening party es (All-tail IsEvent e es are))
  where
    step : (b : Bool) →
        ((h : List Entry) → AreSaid h → AreSaid (history_after opening h (own party es))) →
        AreSaid (history_after opening h (cond b (e ∷ own party es) (own party es)))
    step true later =
        later (entry_for opening h (arrival_of e) ∷ h) (said_by e (All-head IsEvent e es are), said)
    step false later = later h said

pub clears_as_told : (m : List ℕ) → statement.ClearsAsTold m
clears_as_told m opening es are =
    posts_alone m opening es
    ∙ clears opening (history_of opening (Some m) es) (made_after opening [] tt (own (Some m) es))
    (from_new opening m es).rows.genuine (said_after opening (Some m) es are [] tt)

-- ---- what an issuer's answer tells

-- what a reply that is made now has of an issuer's answer
abbrev read_now : (IsoMessage → Option (List ℕ)) → Outcome → Option (List ℕ)
read_now reads o = option_and_then reads (reply_now o)

-- an issuer's part of the replies to admitted requests
abbrev Says : (IsoMessage → Option (List ℕ)) → Verdict → Option (List ℕ) → Type 0
Says reads v given =
    (day : ℕ) (r : RequestMessage) (n : ℕ) → reads (answered_reply (draft_reply day r n) v) ≡ given

module _ (reads : IsoMessage → Option (List ℕ)) (opening : Opening) (h : List Entry)
    (genuine : AdmitsOnlyEnrolled h) (moment : ℕ) (merchant : List ℕ) (n : ℕ) (v : Verdict)
    (given : Option (List ℕ)) (says : Says reads v given) where
  abbrev k : Known
  k = known_by opening h (Answered moment merchant n v)

  abbrev Tells : Option (List ℕ) → Type 0
  Tells code = read_now reads (outcome_of k (decision_of_answer k moment v k.merchant)) ≡ code

  -- no request has the reference
  unknown : referred n h ≡ None → Tells None
  unknown none = step (enrolled h)
    where
      step : (o : Option Merchant) →
          read_now reads (outcome_of (known_by opening h (Answered moment merchant n v))
          (decision_of_answer (known_by opening h (Answered moment merchant n v)) moment v o))
          ≡ None
      step None = refl
      step (Some other) =
          ap (λ o. read_now reads (outcome_of (known_by opening h (Answered moment merchant n v))
          (decision_of_prior moment v (option_map prior o)))) none

  -- one has it
  by_state : (f : Found) → referred n h ≡ Some f →
      read_now reads (outcome_of k (decision_of_reply_state moment v (prior f) (reply_state_of f)))
      ≡ read_now reads (outcome_of k (decision_of_answer k moment v k.merchant))
  by_state f found =
      let there = is_some_there (enrolled h) (enrolled_where n h f genuine found) in
      sym (ap (λ o. read_now reads (outcome_of k (decision_of_answer k moment v o))) there.1
      ∙ ap (λ o. read_now reads (outcome_of k (decision_of_prior moment v (option_map prior o)))) found)

  waiting : (f : Found) → referred n h ≡ Some f → answer_to f ≡ None → is_reversed f ≡ false →
      Tells given
  waiting f found unanswered unreversed =
      let numbered = (referred_is n h f found).0 in
      let adm = (reference_if (is_admitted f) _ n numbered).0 in
      sym (by_state f found)
      ∙ (ap (λ s. read_now reads (outcome_of k (decision_of_reply_state moment v (prior f) s)))
      (is_awaited f adm unanswered unreversed)
      ∙ says f.entry.day f.request (next_reference f.before))

  -- it doesn't wait
  not_waiting : (f : Found) → referred n h ≡ Some f →
      (is_none (answer_to f) && not (is_reversed f)) ≡ false → Tells None
  not_waiting f found over = sym (by_state f found) ∙ step (reply_state_of f) refl
    where
      step : (s : ReplyState) → reply_state_of f ≡ s →
          read_now reads (outcome_of (known_by opening h (Answered moment merchant n v))
          (decision_of_reply_state moment v (prior f) s))
          ≡ None
      step (Kept reply) is = refl
      step (Awaited draft) is =
          let free = is_unanswered f draft is in
          clash (is_none (answer_to f) && not (is_reversed f))
          (λ i. is_none (free.unanswered i) && not (free.unreversed i)) over
      step other is = refl

  -- what is read of it, if it waits
  abbrev told_if : Found → Option (List ℕ)
  told_if f = cond (is_none (answer_to f) && not (is_reversed f)) given None

  tells : Tells (option_and_then told_if (referred n h))
  tells = step (referred n h) refl
    where
      waits_or_not : (f : Found) → referred n h ≡ Some f → (o : Option Entry) → answer_to f ≡ o →
          (b : Bool) → is_reversed f ≡ b →
          Tells (cond (is_none o && not b) given None)
      waits_or_not f found None unanswered false unreversed = waiting f found unanswered unreversed
      waits_or_not f found None is true reversed =
          not_waiting f found (λ i. is_none (is i) && not (reversed i))
      waits_or_not f found (Some e) is b reversed =
          not_waiting f found (λ i. is_none (is i) && not (reversed i))

      step : (o : Option Found) → referred n h ≡ o → Tells (option_and_then told_if o)
      step None none = unknown none
      step (Some f) found = waits_or_not f found (answer_to f) refl (is_reversed f) refl

-- ---- the code, and the authorization id

said_is : (v : Verdict) → code_text (verdict_code v) ≡ code_said v
said_is (verdict.Approved id) = refl
said_is other = refl

pub tells_issuers_codes : (m : List ℕ) → issuers.TellsIssuersCodes m
tells_issuers_codes m opening es moment merchant n v =
    tells (λ reply. content_of reply.elements 39) opening (history_of opening (Some m) es)
    (from_new opening m es).rows.genuine moment merchant n v (Some (code_said v))
    (λ day r n. says_verdict (draft_reply day r n) v ∙ ap Some (said_is v))

-- what stands fixed of a reply has no id
undrafted_id : (day : ℕ) (r : RequestMessage) (n : ℕ) →
    content_of (draft_reply day r n).elements 38 ≡ None
undrafted_id day r n =
    contents_kept 38 (echo r.service r.message)
    (day_element r.service day ++ reference_element (Some n)) (others r.service)
    ∙ content_of-dropped (echoed r.service) r.message.elements 38 (unechoed r.service)
  where
    others : (s : Service) →
        list_all (λ e. not (38 == e.0)) (day_element s day ++ reference_element (Some n)) ≡ true
    others NetworkManagement = refl
    others s = refl

    unechoed : (s : Service) → list_any (λ k. k == 38) (echoed s) ≡ false
    unechoed Completion = refl
    unechoed NetworkManagement = refl
    unechoed s = refl

says_id : (v : Verdict) → Says (λ reply. content_of reply.elements 38) v (id_said v)
says_id (verdict.Approved id) day r n =
    contents_kept 38 (with_content (draft_reply day r n).elements 38 id)
    (code_element code.Approved) refl
    ∙ content_of-set (draft_reply day r n).elements 38 id
says_id (verdict.Declined text) day r n =
    contents_kept 38 (draft_reply day r n).elements (code_element (code.Declined text)) refl
    ∙ undrafted_id day r n
says_id verdict.NoAnswer day r n =
    contents_kept 38 (draft_reply day r n).elements (code_element code.IssuerInoperative) refl
    ∙ undrafted_id day r n

pub tells_issuers_ids : (m : List ℕ) → issuers.TellsIssuersIds m
tells_issuers_ids m opening es moment merchant n v =
    tells (λ reply. content_of reply.elements 38) opening (history_of opening (Some m) es)
    (from_new opening m es).rows.genuine moment merchant n v (id_said v) (says_id v)
