-- Replies have what their requests said.
use Rattle.std.proofs.Common.{◌≡◌, ℕ, List, [], ◌∷◌, ◌++◌, Option, Some, None, Bool, true, false}
use Rattle.std.proofs.Common.{◌⊎◌, inl, inr, refl, sym, ap, ◌∙◌, subst}
use Rattle.std.specs.Prelude.{not, ◌||◌, ◌==◌}
use Rattle.std.specs.List.{list_all, list_any}
use Rattle.std.proofs.lemmas.Bool.{and_parts}
use Rattle.iso_codec.specs.Message.{IsoMessage}
use Rattle.day_totals.specs.Totals.{DayTotals}
use Rattle.acq_message.specs.declared.service.Service.{Service}
use Rattle.acq_message.specs.declared.service.Service.TheVariants.{Authorization, Financial}
use Rattle.acq_message.specs.declared.service.Service.TheVariants.{Completion, Reversal}
use Rattle.acq_message.specs.declared.service.Service.TheVariants.{ReversalAdvice, Reconciliation}
use Rattle.acq_message.specs.declared.service.Service.TheVariants.{NetworkManagement}
use Rattle.acq_message.specs.declared.request_message.RequestMessage.{RequestMessage}
use Rattle.acq_message.specs.declared.response_code.ResponseCode.{ResponseCode}
use Rattle.acq_message.specs.declared.response_code.ResponseCode.TheVariants as code
use Rattle.acq_message.specs.declared.verdict.Verdict.{Verdict}
use Rattle.acq_message.specs.declared.verdict.Verdict.TheVariants as verdict
use Rattle.acq_message.specs.Services.{echoed}
use Rattle.acq_message.specs.Reply.{coded_reply, referring_reply, totals_reply, draft_reply}
use Rattle.acq_message.specs.Reply.{answered_reply, reply_to, echo, day_element, code_element}
use Rattle.acq_message.specs.Reply.{reference_element, verdict_elements, totals_elements}
use Rattle.acq_core.specs.declared.event.Event.{Event}
use Rattle.acq_core.specs.declared.arrival.Arrival.TheVariants.{Malformed, Requested, Answered}
use Rattle.acq_core.specs.declared.reply_state.ReplyState.{ReplyState}
use Rattle.acq_core.specs.declared.reply_state.ReplyState.TheVariants.{Kept, Awaited}
use Rattle.acq_core.specs.Known.{Known}
use Rattle.acq_core.specs.Decision.{repeat_of, network_response, decision_of_request}
use Rattle.acq_core.specs.Decision.{decision_of_answer}
use Rattle.acq_core.specs.Outcome.{Outcome, outcome_of, is_in_balance, balance_code}
use Rattle.acq_core.specs.Tables.{Opening}
use Rattle.acq_core.proofs.DecisionCases.{by_request, by_answer}
use Rattle.acq_soundness.proofs.Keys.{eqb_is}
use Rattle.acq_soundness.proofs.Lookups.{map_some, none_some, some_is}
use Rattle.acq_history.specs.History.{Found, referred, prior, reply_state_of, is_admitted}
use Rattle.acq_history.specs.History.{next_reference}
use Rattle.acq_history.specs.PartyHistory.{known_by, history_of}
use Rattle.acq_history.specs.Told.{reply_now}
use Rattle.acq_history.specs.EchoedElements as statement
use Rattle.acq_history.specs.EchoedElements.{comes_back, Echoes, request_in}
use Rattle.acq_history.proofs.ReplyElements.{contents_kept, content_of-chosen}
use Rattle.acq_history.proofs.RecordedInHistory.{referred_is, reference_if}
use Rattle.acq_history.proofs.NewRows.{admissible_is}
use Rattle.acq_history.proofs.EntriesThatAccept.{is_awaited, is_unanswered}
use Rattle.acq_history.proofs.EntriesThatPost.{admissible_cases}

-- ---- what is echoed and not set

-- what is so of each of these numbers
of_each : (test : ℕ → Bool) (ns : List ℕ) → list_all test ns ≡ true → (n : ℕ) →
    list_any (λ k. k == n) ns ≡ true → test n ≡ true
of_each test [] all n among = absurd (cc)
of_each test (k ∷ ks) all n among =
    let parts = and_parts (test k) (list_all test ks) all in
    step (of_each test ks parts.1 n) (k == n) refl among
  where
    step : (list_any (λ j. j == n) ks ≡ true → test n ≡ true) → (b : Bool) → (k == n) ≡ b →
        (b || list_any (λ j. j == n) ks) ≡ true → test n ≡ true
    step later true is there =
        ap test (sym (eqb_is k n is)) ∙ (and_parts (test k) (list_all test ks) all).0
    step later false is there = later there

-- none of the elements that are set has this number
abbrev unset : List (ℕ × List ℕ) → ℕ → Bool
unset added n = list_all (λ e. not (n == e.0)) added

are_echoed : (s : Service) →
    list_all (λ n. list_any (λ k. k == n) (echoed s)) (comes_back s) ≡ true
are_echoed Completion = refl
are_echoed NetworkManagement = refl
are_echoed s = refl

-- none of what comes back is set
abbrev Spares : Service → List (ℕ × List ℕ) → Type 0
Spares s added = list_all (unset added) (comes_back s) ≡ true

echoes : (r : RequestMessage) (added : List (ℕ × List ℕ)) → Spares r.service added →
    Echoes r (reply_to r added)
echoes r added spares n among =
    contents_kept n (echo r.service r.message) added
    (of_each (unset added) (comes_back r.service) spares n among)
    ∙ content_of-chosen (echoed r.service) r.message.elements n
    (of_each (λ j. list_any (λ k. k == j) (echoed r.service)) (comes_back r.service)
    (are_echoed r.service) n among)

-- ---- the replies

module _ (day : ℕ) (r : RequestMessage) where
  coded : (c : ResponseCode) → Echoes r (coded_reply day r c)
  coded c = echoes r (day_element r.service day ++ code_element c) (spares r.service)
    where
      spares : (s : Service) → Spares s (day_element s day ++ code_element c)
      spares Completion = refl
      spares NetworkManagement = refl
      spares s = refl

  referring : (reference : Option ℕ) (c : ResponseCode) →
      (r.service ≡ Reversal) ⊎ (r.service ≡ ReversalAdvice) →
      Echoes r (referring_reply day r reference c)
  referring reference c is =
      echoes r (day_element r.service day ++ reference_element reference ++ code_element c)
      (step reference is)
    where
      spares : Service → Option ℕ → Type 0
      spares s o = Spares s (day_element s day ++ reference_element o ++ code_element c)

      step : (o : Option ℕ) → (r.service ≡ Reversal) ⊎ (r.service ≡ ReversalAdvice) →
          spares r.service o
      step (Some n) (inl same) = subst (λ s. spares s (Some n)) (sym same) refl
      step (Some n) (inr same) = subst (λ s. spares s (Some n)) (sym same) refl
      step None (inl same) = subst (λ s. spares s None) (sym same) refl
      step None (inr same) = subst (λ s. spares s None) (sym same) refl

  totalled : (c : ResponseCode) (in_balance : Bool) (totals : DayTotals) →
      r.service ≡ Reconciliation → Echoes r (totals_reply day r c in_balance totals)
  totalled c in_balance totals is =
      echoes r
      (day_element r.service day ++ code_element c ++ totals_elements in_balance totals)
      (subst (λ s. Spares s
      (day_element s day ++ code_element c ++ totals_elements in_balance totals)) (sym is) refl)

  -- what stands fixed, and the issuer's part
  answered : (n : ℕ) (v : Verdict) → (r.service ≡ Authorization) ⊎ (r.service ≡ Financial) →
      Echoes r (answered_reply (draft_reply day r n) v)
  answered n v is k among =
      contents_kept k (draft_reply day r n).elements (verdict_elements v)
      (of_each (unset (verdict_elements v)) (comes_back r.service) (says v r.service) k among)
      ∙ echoes r (day_element r.service day ++ reference_element (Some n)) (fixed is) k among
    where
      says : (v : Verdict) (s : Service) → Spares s (verdict_elements v)
      says (verdict.Approved id) Completion = refl
      says (verdict.Approved id) NetworkManagement = refl
      says (verdict.Approved id) s = refl
      says other Completion = refl
      says other NetworkManagement = refl
      says other s = refl

      fixed : (r.service ≡ Authorization) ⊎ (r.service ≡ Financial) →
          Spares r.service (day_element r.service day ++ reference_element (Some n))
      fixed (inl same) =
          subst (λ s. Spares s (day_element s day ++ reference_element (Some n))) (sym same) refl
      fixed (inr same) =
          subst (λ s. Spares s (day_element s day ++ reference_element (Some n))) (sym same) refl

-- ---- requests

-- a reply that is made now echoes the request
abbrev NowEchoes : RequestMessage → Outcome → Type 0
NowEchoes r o = (reply : IsoMessage) → reply_now o ≡ Some reply → Echoes r reply

as_sent : (r : RequestMessage) (reply sent : IsoMessage) → Echoes r reply →
    Some reply ≡ Some sent → Echoes r sent
as_sent r reply sent said is = subst (Echoes r) (some_is reply sent is) said

of_request : (k : Known) (r : RequestMessage) (reply : IsoMessage) →
    reply_now (outcome_of k (decision_of_request r.service k r)) ≡ Some reply → Echoes r reply
of_request k r =
    by_request k r (λ d. NowEchoes r (outcome_of k d))
    (record {
      managed = λ is. now (network_response r.message);
      unknown = now code.InvalidMerchant;
      duplicate = λ p there. now code.DuplicateTransmission;
      repeated = λ p there. repeated p.reply_state;
      refused = λ merchant fresh given own. now given;
      admitted = λ merchant fresh is range there reply sent. none_some reply sent;
      completed = λ merchant fresh is hold there opens. now code.Approved;
      reversed = λ merchant fresh is p there can reply.
          as_sent r (referring_reply k.today r p.reference code.Approved) reply
          (referring k.today r p.reference code.Approved is);
      reconciled = λ merchant fresh is day names reply.
          let in_balance = is_in_balance k r in
          as_sent r (totals_reply day r (balance_code in_balance) in_balance k.totals) reply
          (totalled day r (balance_code in_balance) in_balance k.totals is);
    })
  where
    now : (c : ResponseCode) (reply : IsoMessage) → Some (coded_reply k.today r c) ≡ Some reply →
        Echoes r reply
    now c reply = as_sent r (coded_reply k.today r c) reply (coded k.today r c)

    repeated : (s : ReplyState) → NowEchoes r (outcome_of k (repeat_of s))
    repeated (Kept kept) reply sent = none_some reply sent
    repeated other reply sent = none_some reply sent

pub replies_echo : statement.RepliesEcho
replies_echo k (Malformed came) r reply is sent =
    subst (λ x. Echoes x reply) (some_is came r is)
    (as_sent came (coded_reply k.today came code.FormatError) reply
    (coded k.today came code.FormatError) sent)
replies_echo k (Requested came) r reply is sent =
    subst (λ x. Echoes x reply) (some_is came r is) (of_request k came reply sent)
replies_echo k other r reply is sent = none_some r is

-- ---- answers

module _ (m : List ℕ) (opening : Opening) (es : List Event) (moment : ℕ) (merchant : List ℕ)
    (n : ℕ) (v : Verdict) where
  abbrev k : Known
  k = known_by opening (history_of opening (Some m) es) (Answered moment merchant n v)

  abbrev IsAnswered : IsoMessage → Type 0
  IsAnswered reply =
      (f : Found) × (referred n (history_of opening (Some m) es) ≡ Some f)
      × Echoes f.request reply

  taken : (draft : IsoMessage) (f : Found) →
      referred n (history_of opening (Some m) es) ≡ Some f →
      reply_state_of f ≡ Awaited draft → IsAnswered (answered_reply draft v)
  taken draft f found pending =
      let numbered = (referred_is n (history_of opening (Some m) es) f found).0 in
      let adm = (reference_if (is_admitted f) (next_reference f.before) n numbered).0 in
      let free = is_unanswered f draft pending in
      let fixed : draft_reply f.entry.day f.request (next_reference f.before) ≡ draft =
      awaited_is (draft_reply f.entry.day f.request (next_reference f.before)) draft
      (sym (is_awaited f adm free.unanswered free.unreversed) ∙ pending) in (
        f,
        found,
        subst (λ x. Echoes f.request (answered_reply x v)) fixed
            (answered f.entry.day f.request (next_reference f.before) v
            (admissible_cases f.request.service (admissible_is f n numbered))),
      )
    where
      awaited_is : (a b : IsoMessage) → Awaited a ≡ Awaited b → a ≡ b
      awaited_is a b is = cc

  of_answer : (reply : IsoMessage) →
      reply_now (outcome_of k (decision_of_answer k moment v k.merchant)) ≡ Some reply →
      IsAnswered reply
  of_answer =
      by_answer k moment v
      (λ d. (reply : IsoMessage) → reply_now (outcome_of k d) ≡ Some reply → IsAnswered reply)
      (record {
        not_taken = λ o reply sent. none_some reply sent;
        taken = λ p draft found pending reply sent.
            let f = map_some prior (referred n (history_of opening (Some m) es)) p found in
            subst IsAnswered (some_is (answered_reply draft v) reply sent)
            (taken draft f.0 f.1 (ap (λ y. y.reply_state) f.2 ∙ pending));
      })
      k.merchant

pub answered_replies_echo : (m : List ℕ) → statement.AnsweredRepliesEcho m
answered_replies_echo m opening es moment merchant n v reply =
    of_answer m opening es moment merchant n v reply
