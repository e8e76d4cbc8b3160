-- A reply that moves money names its posting.
use Rattle.std.proofs.Common.{◌≡◌, ◌<◌, ◌≤◌, ◌+◌, ◌-◌, ℕ, List, [], ◌∷◌, ◌++◌, Option, Some, None}
use Rattle.std.proofs.Common.{Bool, true, false, cond, refl, sym, ap, ◌∙◌, subst, arith}
use Rattle.std.specs.Prelude.{option_map, option_and_then, not, ◌==◌}
use Rattle.std.specs.Prelude.{codes}
use Rattle.std.specs.List.{list_all, list_any}
use Rattle.std.specs.Char.{is_ascii_digit}
use Rattle.std.specs.Str.Parse.{digits_value}
use Rattle.std.proofs.lemmas.Bool.Decides.{nat_tests}
use Rattle.iso_codec.specs.Message.{IsoMessage, content_of, with_content}
use Rattle.day_totals.specs.Day.{mmdd_of}
use Rattle.day_totals.specs.Digits.{zero_padded}
use Rattle.day_totals.proofs.ZeroPadded.{all_digits-zero_padded, digits_value-zero_padded}
use Rattle.acq_message.specs.declared.service.Service.{Service}
use Rattle.acq_message.specs.declared.service.Service.TheVariants.{Financial, Completion, Reversal}
use Rattle.acq_message.specs.declared.service.Service.TheVariants.{ReversalAdvice}
use Rattle.acq_message.specs.declared.service.Service.TheVariants.{NetworkManagement}
use Rattle.acq_message.specs.declared.request_message.RequestMessage.{RequestMessage}
use Rattle.acq_message.specs.declared.response_code.ResponseCode.TheVariants as code
use Rattle.acq_message.specs.declared.verdict.Verdict.{Verdict}
use Rattle.acq_message.specs.declared.verdict.Verdict.TheVariants as verdict
use Rattle.acq_message.specs.Services.{echoed}
use Rattle.acq_message.specs.Elements.{text_at, or_empty, amount_in, reference_in, remaining_in}
use Rattle.acq_message.specs.Numbers.{is_reference}
use Rattle.acq_message.specs.Reply.{coded_reply, referring_reply, draft_reply, answered_reply}
use Rattle.acq_message.specs.Reply.{with_contents, echo, day_element, code_element, verdict_code}
use Rattle.acq_message.specs.Reply.{reference_element, authorization_element}
use Rattle.acq_core.specs.declared.posting.Posting.{Posting}
use Rattle.day_totals.specs.declared.leg.Leg.{Leg}
use Rattle.day_totals.specs.declared.leg.Leg.TheVariants.{Debit}
use Rattle.acq_message.specs.declared.request_key.RequestKey.{RequestKey}
use Rattle.acq_message.specs.Elements.{sale_leg, original_key}
use Rattle.acq_core.specs.declared.merchant.Merchant.{Merchant}
use Rattle.acq_core.specs.declared.arrival.Arrival.{Arrival}
use Rattle.acq_core.specs.declared.arrival.Arrival.TheVariants.{Requested, Answered}
use Rattle.acq_core.specs.declared.reply_state.ReplyState.{ReplyState}
use Rattle.acq_core.specs.declared.reply_state.ReplyState.TheVariants.{Kept, Awaited}
use Rattle.acq_core.specs.Changes.{or_zero, posted_leg, reversal_posting}
use Rattle.acq_core.specs.Changes as changes
use Rattle.acq_core.specs.Outcome.{Outcome, Replied, outcome_of}
use Rattle.acq_core.specs.Tables.{Opening}
use Rattle.acq_core.proofs.DecisionCases.{by_answer}
use Rattle.acq_soundness.specs.Requests.{is_admissible, is_reversal}
use Rattle.acq_soundness.proofs.Keys.{bytes_eq_is}
use Rattle.acq_soundness.proofs.Lookups.{clash, none_some, some_is, map_some}
use Rattle.acq_history.specs.Entries.{Entry, is_acceptance}
use Rattle.acq_history.specs.History.{Found, is_text, recorded, referred, prior, day_after}
use Rattle.acq_history.specs.History.{ranges_after, posting_of, posting_by, amount_of, leg_by}
use Rattle.acq_history.specs.History.{reference_by, reply_state_of, is_admitted, is_accepted}
use Rattle.acq_history.specs.History.{next_reference}
use Rattle.acq_core.specs.declared.event.Event.{Event}
use Rattle.acq_core.specs.Arrivals.{arrival_of}
use Rattle.acq_core.specs.Events.{IsEvent, AreEvents, IsOpening}
use Rattle.acq_core.specs.Tables.{with_next_posting, postings_before, postings_of}
use Rattle.acq_soundness.specs.Bounds.{IsBoundedPosting}
use Rattle.acq_soundness.proofs.Members.{In, from_In, In-last, In-filtered}
use Rattle.acq_soundness.proofs.NumbersStayBounded.{numbers_stay_bounded}
use Rattle.std.proofs.lemmas.List.Elements.{All-contains}
use Rattle.std.specs.Str.{bytes_eq}
use Rattle.acq_history.specs.History.{postings}
use Rattle.acq_history.specs.PartyHistory.{is_of, book_after}
use Rattle.acq_history.proofs.EntriesThatPost.{tables_post}
use Rattle.acq_history.proofs.ToldOnEvents.{said_by}
use Rattle.acq_history.specs.PartyHistory.{own, known_by, entry_for, history_of}
use Rattle.acq_history.specs.Acceptance.{MayReverse}
use Rattle.acq_history.specs.PostedRows.{sale_posting, completion_posting}
use Rattle.acq_history.specs.Told.{code_in, reply_now, is_told_00}
use Rattle.acq_history.specs.Cleared.{sale_moved, completion_moved, request_moved, told_posting}
use Rattle.acq_history.specs.ClearedReplies as statement
use Rattle.acq_history.specs.ClearedReplies.{Names, left_by}
use Rattle.acq_history.proofs.ReplyElements.{content_of-set, contents_kept, content_of-chosen}
use Rattle.acq_history.proofs.RecordedInHistory.{AdmitsOnlyEnrolled, referred_is, reference_if}
use Rattle.acq_history.proofs.ChangedRows.{entry_on}
use Rattle.acq_history.proofs.OwnRequests.{reversal_by}
use Rattle.acq_history.proofs.MerchantsRuns.{from_new}
use Rattle.acq_history.proofs.EntriesThatAccept.{is_awaited, is_unanswered}
use Rattle.acq_history.proofs.PostedEarlier.{IsMade, posted_at, made_after}
use Rattle.acq_history.proofs.AcceptedRequests.{reversal_accepted}
use Rattle.acq_history.proofs.EntriesThatPost.{given}
use Rattle.acq_history.proofs.ExactlyAccepted.{known, reverses_by}
use Rattle.acq_history.proofs.ToldOnEvents.{untold, told_later, may_complete}
use Rattle.acq_history.proofs.ToldOnEvents as events

-- ---- what is echoed

-- every reply echoes these
abbrev is_always_echoed : ℕ → Service → Bool
is_always_echoed n s = list_any (λ k. k == n) (echoed s)

-- an element that is echoed, where none of those that are set has its number
module _ (r : RequestMessage) (added : List (ℕ × List ℕ)) where
  echoes : (n : ℕ) → is_always_echoed n r.service ≡ true →
      list_all (λ e. not (n == e.0)) added ≡ true →
      or_empty (content_of (with_contents (echo r.service r.message) added) n)
      ≡ text_at r.message n
  echoes n among others =
      ap or_empty (contents_kept n (echo r.service r.message) added others
      ∙ content_of-chosen (echoed r.service) r.message.elements n among)

amount_echoed : (s : Service) → is_always_echoed 4 s ≡ true
amount_echoed Completion = refl
amount_echoed NetworkManagement = refl
amount_echoed s = refl

trace_echoed : (s : Service) → is_always_echoed 11 s ≡ true
trace_echoed Completion = refl
trace_echoed NetworkManagement = refl
trace_echoed s = refl

terminal_echoed : (s : Service) → is_always_echoed 41 s ≡ true
terminal_echoed Completion = refl
terminal_echoed NetworkManagement = refl
terminal_echoed s = refl

merchant_echoed : (s : Service) → is_always_echoed 42 s ≡ true
merchant_echoed Completion = refl
merchant_echoed NetworkManagement = refl
merchant_echoed s = refl

-- ---- a reference

-- twelve digits read as the reference that they spell
reads : (n : ℕ) → is_reference n ≡ true →
    cond (list_all is_ascii_digit (zero_padded 12 n)) (Some (digits_value 10 (zero_padded 12 n))) None
    ≡ Some n
reads n fits =
    let most : n ≤ 999999999999 = grind (arith, nat_tests) in
    ap (λ b. cond b (Some (digits_value 10 (zero_padded 12 n))) None) (all_digits-zero_padded 12 n)
    ∙ ap Some (digits_value-zero_padded 12 n (omega arith))

reference_read : (reply : IsoMessage) (n : ℕ) → text_at reply 37 ≡ zero_padded 12 n →
    is_reference n ≡ true → reference_in reply ≡ Some n
reference_read reply n is fits =
    ap (λ t. cond (list_all is_ascii_digit t) (Some (digits_value 10 t)) None) is ∙ reads n fits

-- ---- the replies

-- what a reply says of its request and of the day
record Says (r : RequestMessage) (day : ℕ) (reply : IsoMessage) : Type 0 where
  merchant : text_at reply 42 ≡ text_at r.message 42
  terminal : text_at reply 41 ≡ text_at r.message 41
  trace : text_at reply 11 ≡ text_at r.message 11
  amount : amount_in reply ≡ amount_in r.message
  dated : text_at reply 15 ≡ mmdd_of day

-- none of these elements is among those that are set behind the day
record IsBehind (later : List (ℕ × List ℕ)) : Type 0 where
  merchant : list_all (λ e. not (42 == e.0)) later ≡ true
  terminal : list_all (λ e. not (41 == e.0)) later ≡ true
  trace : list_all (λ e. not (11 == e.0)) later ≡ true
  amount : list_all (λ e. not (4 == e.0)) later ≡ true
  day : list_all (λ e. not (15 == e.0)) later ≡ true

says : (r : RequestMessage) (day : ℕ) (reply : IsoMessage) (later : List (ℕ × List ℕ)) →
    reply.elements ≡ with_contents (echo r.service r.message) ((15, mmdd_of day) ∷ later) →
    IsBehind later → Says r day reply
says r day reply later is behind =
    let added = (15, mmdd_of day) ∷ later in
    record {
      merchant = text 42 ∙ echoes r added 42 (merchant_echoed r.service) behind.merchant;
      terminal = text 41 ∙ echoes r added 41 (terminal_echoed r.service) behind.terminal;
      trace = text 11 ∙ echoes r added 11 (trace_echoed r.service) behind.trace;
      amount =
          ap (digits_value 10)
          (text 4 ∙ echoes r added 4 (amount_echoed r.service) behind.amount);
      dated =
          text 15
          ∙ ap or_empty
          (contents_kept 15 (with_content (echo r.service r.message) 15 (mmdd_of day)) later
          behind.day
          ∙ content_of-set (echo r.service r.message) 15 (mmdd_of day));
    }
  where
    text : (n : ℕ) → text_at reply n
        ≡ or_empty (content_of
        (with_contents (echo r.service r.message) ((15, mmdd_of day) ∷ later)) n)
    text n = ap (λ es. or_empty (content_of es n)) is

-- that of a completion
completion_says : (r : RequestMessage) (day : ℕ) → r.service ≡ Completion →
    Says r day (coded_reply day r code.Approved)
completion_says r day is =
    says r day (coded_reply day r code.Approved) ((39, codes "00") ∷ [])
    (ap (λ s. with_contents (echo r.service r.message)
    (day_element s day ++ code_element code.Approved)) is)
    (record { merchant = refl; terminal = refl; trace = refl; amount = refl; day = refl })

completion_refers : (r : RequestMessage) (day n : ℕ) → r.service ≡ Completion →
    reference_in r.message ≡ Some n → reference_in (coded_reply day r code.Approved) ≡ Some n
completion_refers r day n is named =
    ap (λ t. cond (list_all is_ascii_digit t) (Some (digits_value 10 t)) None)
    (ap (λ s. or_empty (content_of (with_contents (echo r.service r.message)
    (day_element s day ++ code_element code.Approved)) 37)) is
    ∙ echoes r ((15, mmdd_of day) ∷ (39, codes "00") ∷ []) 37
    (ap (is_always_echoed 37) is) refl)
    ∙ named

-- that of a reversal, under a reference
timed : (s : Service) (day : ℕ) → is_reversal s ≡ true → day_element s day ≡ (15, mmdd_of day) ∷ []
timed NetworkManagement day fits = absurd (cc)
timed s day fits = refl

reversal_elements : (r : RequestMessage) (day n : ℕ) (o : Option ℕ) → is_reversal r.service ≡ true →
    o ≡ Some n →
    (referring_reply day r o code.Approved).elements
    ≡ with_contents (echo r.service r.message)
    ((15, mmdd_of day) ∷ (37, zero_padded 12 n) ∷ (39, codes "00") ∷ [])
reversal_elements r day n o fits is =
    λ i. with_contents (echo r.service r.message)
    (timed r.service day fits i ++ reference_element (is i) ++ code_element code.Approved)

reversal_says : (r : RequestMessage) (day n : ℕ) (o : Option ℕ) → is_reversal r.service ≡ true →
    o ≡ Some n → Says r day (referring_reply day r o code.Approved)
reversal_says r day n o fits is =
    says r day (referring_reply day r o code.Approved)
    ((37, zero_padded 12 n) ∷ (39, codes "00") ∷ []) (reversal_elements r day n o fits is)
    (record { merchant = refl; terminal = refl; trace = refl; amount = refl; day = refl })

-- element 37, where it is set behind the day
refers : (es later : List (ℕ × List ℕ)) (reply : IsoMessage) (day n : ℕ) →
    reply.elements ≡ with_contents es ((15, mmdd_of day) ∷ (37, zero_padded 12 n) ∷ later) →
    list_all (λ e. not (37 == e.0)) later ≡ true → is_reference n ≡ true →
    reference_in reply ≡ Some n
refers es later reply day n is others =
    reference_read reply n
    (ap (λ x. or_empty (content_of x 37)) is
    ∙ ap or_empty
    (contents_kept 37 (with_content (with_content es 15 (mmdd_of day)) 37 (zero_padded 12 n)) later
    others
    ∙ content_of-set (with_content es 15 (mmdd_of day)) 37 (zero_padded 12 n)))

-- that of a sale or a return, at its issuer's answer
abbrev answer_elements : ℕ → Verdict → List (ℕ × List ℕ)
answer_elements n v =
    (37, zero_padded 12 n) ∷ (authorization_element v ++ code_element (verdict_code v))

answer_is : (r : RequestMessage) (day n : ℕ) (v : Verdict) → r.service ≡ Financial →
    (answered_reply (draft_reply day r n) v).elements
    ≡ with_contents (echo r.service r.message) ((15, mmdd_of day) ∷ answer_elements n v)
answer_is r day n v is =
    ap (λ s. with_contents (with_contents (echo r.service r.message)
    (day_element s day ++ reference_element (Some n)))
    (authorization_element v ++ code_element (verdict_code v))) is

answer_behind : (n : ℕ) (v : Verdict) → IsBehind (answer_elements n v)
answer_behind n (verdict.Approved id) =
    record { merchant = refl; terminal = refl; trace = refl; amount = refl; day = refl }
answer_behind n other =
    record { merchant = refl; terminal = refl; trace = refl; amount = refl; day = refl }

answer_others : (v : Verdict) →
    list_all (λ (e : ℕ × List ℕ). not (37 == e.0))
    (authorization_element v ++ code_element (verdict_code v)) ≡ true
answer_others (verdict.Approved id) = refl
answer_others other = refl

answer_says : (r : RequestMessage) (day n : ℕ) (v : Verdict) → r.service ≡ Financial →
    Says r day (answered_reply (draft_reply day r n) v)
answer_says r day n v is =
    says r day (answered_reply (draft_reply day r n) v) (answer_elements n v)
    (answer_is r day n v is) (answer_behind n v)

-- ---- what is told

-- 00 is told by a reply that has it
text_is : (o : Option (List ℕ)) (text : List ℕ) → is_text text o ≡ true → o ≡ Some text
text_is None text is = absurd (cc)
text_is (Some other) text is = ap Some (bytes_eq_is other text is)

told_by : (o : Outcome) (reply : IsoMessage) → is_told_00 o ≡ true → reply_now o ≡ Some reply →
    content_of reply.elements 39 ≡ Some (codes "00")
told_by o reply on is =
    text_is (content_of reply.elements 39) (codes "00")
    (sym (ap (λ x. is_text (codes "00") (code_in x)) is) ∙ on)

-- a reply that names a posting, if its reference is one
record NamesIf (reply : IsoMessage) (p : Posting) (left : ℕ) : Type 0 where
  approved : content_of reply.elements 39 ≡ Some (codes "00")
  merchant : text_at reply 42 ≡ p.merchant
  terminal : text_at reply 41 ≡ p.terminal
  trace : text_at reply 11 ≡ p.trace
  day : text_at reply 15 ≡ mmdd_of p.day
  reference : is_reference p.reference ≡ true → reference_in reply ≡ Some p.reference
  amount : amount_in reply ≡ p.amount + left

-- what a reply says names a posting of just that
names : (r : RequestMessage) (day left : ℕ) (reply : IsoMessage) (p : Posting) → Says r day reply →
    content_of reply.elements 39 ≡ Some (codes "00") →
    p.merchant ≡ text_at r.message 42 → p.terminal ≡ text_at r.message 41 →
    p.trace ≡ text_at r.message 11 → p.day ≡ day →
    (is_reference p.reference ≡ true → reference_in reply ≡ Some p.reference) →
    amount_in r.message ≡ p.amount + left → NamesIf reply p left
names r day left reply p said approved merchant terminal trace on reference amount =
    record {
      approved = approved;
      merchant = said.merchant ∙ sym merchant;
      terminal = said.terminal ∙ sym terminal;
      trace = said.trace ∙ sym trace;
      day = said.dated ∙ sym (ap mmdd_of on);
      reference = reference;
      amount = said.amount ∙ amount;
    }

-- what an entry tells, where it names a posting
abbrev Tells : Opening → List Entry → Arrival → Posting → Type 0
Tells opening h a p =
    (reply : IsoMessage) × (reply_now (entry_for opening h a).outcome ≡ Some reply)
    × NamesIf reply p (left_by a)

pub taken_if : {X : Type 0} (b : Bool) (o : Option X) (x : X) → cond b o None ≡ Some x →
    (b ≡ true) × (o ≡ Some x)
taken_if true o x is = (refl, is)
taken_if false o x is = none_some x is

no_more : (n : ℕ) → n ≡ n + 0
no_more n = omega arith

-- what is taken and what is left
parts : (named amount left : ℕ) → named ≡ amount → left < amount → named ≡ (amount - left) + left
parts named amount left is less = omega arith

-- ---- requests

module _ (opening : Opening) (h : List Entry) (made : IsMade opening h)
    (genuine : AdmitsOnlyEnrolled h) (r : RequestMessage) (p : Posting) where
  abbrev today : ℕ
  today = day_after opening.first_day h

  abbrev o : Outcome
  o = given opening h r

  of_completion : r.service ≡ Completion → is_told_00 o ≡ true →
      completion_moved (entry_for opening h (Requested r)) h r ≡ Some p →
      Tells opening h (Requested r) p
  of_completion is on moves =
      let may = may_complete opening h r is_told_00 (untold (known opening h r Completion) r) is on
      in
      let has = may.0 in
      let reply = coded_reply today r code.Approved in
      let posts : completion_posting today r has.reference has.hold ≡ p =
      some_is (completion_posting today r has.reference has.hold) p
      (sym (ap (option_and_then (λ n. option_map (completion_posting today r n) (referred n h)))
      has.named
      ∙ ap (option_map (completion_posting today r has.reference)) has.found)
      ∙ moves) in
      let now : reply_now o ≡ Some reply = ap reply_now may.1 in
      let none : left_by (Requested r) ≡ 0 =
      ap (λ s. cond (is_reversal s) (remaining_in r.message) 0) is in
      let said : NamesIf reply (completion_posting today r has.reference has.hold) 0 =
      names r today 0 reply (completion_posting today r has.reference has.hold)
      (completion_says r today is) (told_by o reply on now) refl refl refl refl
      (λ fits. completion_refers r today has.reference is has.named) (no_more (amount_in r.message)) in (
        reply,
        now,
        subst (λ n. NamesIf reply p n) (sym none) (subst (λ q. NamesIf reply q 0) posts said),
      )

  -- a posted original has a reference
  referenced : (key : RequestKey) (f : Found) (leg : Leg) → recorded key h ≡ Some f →
      leg_by f.request.service f ≡ Some leg → (n : ℕ) × ((prior f).reference ≡ Some n)
  referenced key f leg found is = step f.request.service refl is
    where
      step : (s : Service) → f.request.service ≡ s → leg_by s f ≡ Some leg →
          (n : ℕ) × (reference_by f.request.service f ≡ Some n)
      step Financial same is =
          let adm = (taken_if (is_admitted f) (Some (sale_leg f.request.message)) leg is).0 in (
            next_reference f.before,
            ap (λ s. reference_by s f) same
                ∙ ap (λ b. cond b (Some (next_reference f.before)) None) adm,
          )
      step Completion same is =
          let acc = (taken_if (is_accepted f) (Some Debit) leg is).0 in
          let has = (posted_at opening h made genuine key).completes f found same acc in (
            has.reference,
            ap (λ s. reference_by s f) same
                ∙ (ap (λ b. cond b (reference_in f.request.message) None) acc ∙ has.named),
          )
      step s same is = none_some leg is

  kept_leg : (s : ReplyState) (leg : Option Leg) (x : Leg) → posted_leg s leg ≡ Some x →
      leg ≡ Some x
  kept_leg (Kept reply) leg x is = is
  kept_leg (Awaited draft) leg x is = none_some x is
  kept_leg other leg x is = none_some x is

  -- what takes back an original names its reference
  of_original : is_reversal r.service ≡ true → is_told_00 o ≡ true → {merchant : Merchant}
      (f : Found) (may : MayReverse opening h r merchant f) (leg : Leg) →
      changes.reversing_posting today r (prior f) leg ≡ p →
      o ≡ Replied code.Approved (referring_reply today r (prior f).reference code.Approved) →
      (n : ℕ) → (prior f).reference ≡ Some n → Tells opening h (Requested r) p
  of_original fits on f may leg posts accepted n numbered =
      let reply = referring_reply today r (prior f).reference code.Approved in
      let now : reply_now o ≡ Some reply = ap reply_now accepted in
      let q = changes.reversing_posting today r (prior f) leg in
      let left : left_by (Requested r) ≡ remaining_in r.message =
      ap (λ b. cond b (remaining_in r.message) 0) fits in
      let same : or_zero (prior f).reference ≡ n = ap or_zero numbered in
      let named : is_reference (or_zero (prior f).reference) ≡ true →
      reference_in reply ≡ Some (or_zero (prior f).reference) =
      λ within.
      refers (echo r.service r.message) ((39, codes "00") ∷ []) reply today n
      (reversal_elements r today n (prior f).reference fits numbered) refl
      (sym (ap is_reference same) ∙ within)
      ∙ ap Some (sym same) in
      let amount : amount_in r.message ≡ (amount_of f - remaining_in r.message)
      + remaining_in r.message =
      parts (amount_in r.message) (amount_of f) (remaining_in r.message) may.amount may.less in
      let said : NamesIf reply q (remaining_in r.message) =
      names r today (remaining_in r.message) reply q
      (reversal_says r today n (prior f).reference fits numbered) (told_by o reply on now)
      refl refl refl refl named amount in (
        reply,
        now,
        subst (λ k. NamesIf reply p k) (sym left)
            (subst (λ x. NamesIf reply x (remaining_in r.message)) posts said),
      )

  taken_back : is_reversal r.service ≡ true → is_told_00 o ≡ true → (merchant : Merchant)
      (f : Found) (may : MayReverse opening h r merchant f) →
      option_and_then (λ x. reversal_posting today r (prior x))
      (option_and_then (λ k. recorded k h) (original_key r.message)) ≡ Some p →
      Tells opening h (Requested r) p
  taken_back fits on merchant f may posts =
      let takes : reversal_posting today r (prior f) ≡ Some p =
      sym (ap (option_and_then (λ x. reversal_posting today r (prior x)))
      (ap (option_and_then (λ k. recorded k h)) may.named ∙ may.found))
      ∙ posts in
      let leg = map_some (changes.reversing_posting today r (prior f))
      (posted_leg (reply_state_of f) (leg_by f.request.service f)) p takes in
      let n = referenced may.key f leg.0 may.found
      (kept_leg (reply_state_of f) (leg_by f.request.service f) leg.0 leg.1) in
      of_original fits on f may leg.0 leg.2 (reversal_accepted opening h r merchant f may) n.0 n.1

  of_reversal : is_reversal r.service ≡ true → is_told_00 o ≡ true →
      posting_of (entry_for opening h (Requested r)) h ≡ Some p → Tells opening h (Requested r) p
  of_reversal fits on posts =
      let w = reverses_by opening h r is_told_00 r.service refl fits
      (untold (known opening h r r.service) r) on in
      let e = entry_for opening h (Requested r) in
      let taken = (taken_if (is_acceptance e) (posting_by r.service e h r) p posts).1 in
      taken_back fits on w.0 w.1 w.2
      (sym (reversal_by e h r r.service fits) ∙ taken)

  of_request : told_posting (entry_for opening h (Requested r)) h ≡ Some p →
      Tells opening h (Requested r) p
  of_request told =
      let parts = taken_if (is_told_00 o)
      (request_moved r.service (entry_for opening h (Requested r)) h r) p told in
      by_service r.service refl parts.0 parts.1
    where
      by_service : (s : Service) → r.service ≡ s → is_told_00 (given opening h r) ≡ true →
          request_moved s (entry_for opening h (Requested r)) h r ≡ Some p →
          Tells opening h (Requested r) p
      by_service Financial is on moves =
          clash (is_told_00 (given opening h r)) on
          (told_later opening h r (ap is_admissible is))
      by_service Completion is on moves = of_completion is on moves
      by_service Reversal is on moves =
          of_reversal (ap is_reversal is) on (events.of_request opening h r made genuine ∙ told)
      by_service ReversalAdvice is on moves =
          of_reversal (ap is_reversal is) on (events.of_request opening h r made genuine ∙ told)
      by_service s is on moves = none_some p moves

-- ---- answers

of_answer : (opening : Opening) (h : List Entry) (moment : ℕ) (merchant : List ℕ) (n : ℕ)
    (v : Verdict) (p : Posting) →
    told_posting (entry_for opening h (Answered moment merchant n v)) h ≡ Some p →
    Tells opening h (Answered moment merchant n v) p
of_answer opening h moment merchant n v p =
    by_answer (known_by opening h (Answered moment merchant n v)) moment v
    (λ d. told_posting (at (outcome_of (known_by opening h (Answered moment merchant n v)) d)) h
    ≡ Some p →
    (reply : IsoMessage)
    × (reply_now (outcome_of (known_by opening h (Answered moment merchant n v)) d) ≡ Some reply)
    × NamesIf reply p 0)
    (record {
      not_taken = λ o told. none_some p told;
      taken = λ x draft found pending told.
          let f = map_some prior (referred n h) x found in
          taken draft f.0 f.1 (ap (λ y. y.reply_state) f.2 ∙ pending) told;
    })
    (known_by opening h (Answered moment merchant n v)).merchant
  where
    at : Outcome → Entry
    at o = entry_on (day_after opening.first_day h) (ranges_after h) (Answered moment merchant n v) o

    taken : (draft : IsoMessage) (f : Found) → referred n h ≡ Some f →
        reply_state_of f ≡ Awaited draft →
        told_posting (at (Replied (verdict_code v) (answered_reply draft v))) h ≡ Some p →
        (reply : IsoMessage)
        × (reply_now (Replied (verdict_code v) (answered_reply draft v)) ≡ Some reply)
        × NamesIf reply p 0
    taken draft f found pending told =
        let o = Replied (verdict_code v) (answered_reply draft v) in
        let parts = taken_if (is_told_00 o)
        (option_and_then (λ x. sale_moved x.request.service n x) (referred n h)) p told in
        let moves : sale_moved f.request.service n f ≡ Some p =
        sym (ap (option_and_then (λ x. sale_moved x.request.service n x)) found) ∙ parts.1 in
        let numbered = reference_if (is_admitted f) (next_reference f.before) n
        (referred_is n h f found).0 in
        let free = is_unanswered f draft pending in
        let fixed : draft ≡ draft_reply f.entry.day f.request n =
        awaited_is draft (draft_reply f.entry.day f.request n)
        (sym pending
        ∙ (is_awaited f numbered.0 free.unanswered free.unreversed
        ∙ ap (λ k. Awaited (draft_reply f.entry.day f.request k)) numbered.1)) in
        (answered_reply draft v, refl, sale f.request.service draft f refl fixed parts.0 moves)
      where
        awaited_is : (a b : IsoMessage) → Awaited a ≡ Awaited b → a ≡ b
        awaited_is a b is = cc

        sale : (s : Service) (draft : IsoMessage) (f : Found) → f.request.service ≡ s →
            draft ≡ draft_reply f.entry.day f.request n →
            is_told_00 (Replied (verdict_code v) (answered_reply draft v)) ≡ true →
            sale_moved s n f ≡ Some p → NamesIf (answered_reply draft v) p 0
        sale Financial draft f is fixed on moves =
            let day = f.entry.day in
            let reply = answered_reply (draft_reply day f.request n) v in
            let approved = told_by (Replied (verdict_code v) (answered_reply draft v))
            (answered_reply draft v) on refl in
            subst (λ x. NamesIf (answered_reply draft v) x 0) (some_is (sale_posting n f) p moves)
            (subst (λ x. NamesIf (answered_reply x v) (sale_posting n f) 0) (sym fixed)
            (names f.request day 0 reply (sale_posting n f) (answer_says f.request day n v is)
            (subst (λ x. content_of (answered_reply x v).elements 39 ≡ Some (codes "00")) fixed
            approved)
            refl refl refl refl
            (refers (echo f.request.service f.request.message)
            (authorization_element v ++ code_element (verdict_code v)) reply day n
            (answer_is f.request day n v is) (answer_others v))
            (no_more (amount_in f.request.message))))
        sale s draft f is fixed on moves = none_some p moves

-- ---- the law

module _ (m : List ℕ) (opening : Opening) (es : List Event) where
  abbrev so_far : List Entry
  so_far = history_of opening (Some m) es

  tells : (a : Arrival) (p : Posting) →
      told_posting (entry_for opening so_far a) so_far ≡ Some p → Tells opening so_far a p
  tells (Requested r) p told =
      of_request opening so_far (made_after opening [] tt (own (Some m) es))
      (from_new opening m es).rows.genuine r p told
  tells (Answered moment merchant n v) p told =
      of_answer opening so_far moment merchant n v p told
  tells other p told =
      none_some p
      (taken_if (is_told_00 (entry_for opening so_far other).outcome) None p told).1

  -- what is posted has a reference
  is_numbered : (next : Event) (p : Posting) → IsOpening opening → AreEvents (es ++ next ∷ []) →
      is_of (Some m) (arrival_of next) ≡ true →
      posting_of (entry_for opening so_far (arrival_of next)) so_far ≡ Some p →
      is_reference p.reference ≡ true
  is_numbered next p opens are mine posts =
      let rows = (book_after opening (es ++ next ∷ [])).postings in
      let row : ℕ × Posting = (postings_before (postings so_far) p + 1, p) in
      let last : postings_of m rows ≡ postings so_far ++ row ∷ [] =
      tables_post m opening es next
      ∙ (ap (λ b. cond b (postings (entry_for opening so_far (arrival_of next) ∷ so_far))
      (postings_of m (book_after opening es).postings)) mine
      ∙ ap (with_next_posting (postings so_far)) posts) in
      let there : In row (postings_of m rows) =
      subst (λ l. In row l) (sym last) (In-last row (postings so_far)) in
      let kept = In-filtered (λ (x : ℕ × Posting). bytes_eq x.1.merchant m) row rows there in
      let bounded = numbers_stay_bounded opening (es ++ next ∷ []) opens are in
      (All-contains (IsBoundedPosting (book_after opening (es ++ next ∷ [])).day) rows row
      bounded.postings (from_In row rows kept.0)).reference

pub replies_name_what_clears : (m : List ℕ) → statement.RepliesNameWhatClears m
replies_name_what_clears m opening es next p opens are mine told =
    let h = history_of opening (Some m) es in
    let a = arrival_of next in
    let said = said_by next (All-contains IsEvent (es ++ next ∷ []) next are
    (from_In next (es ++ next ∷ []) (In-last next es))) in
    let posts : posting_of (entry_for opening h a) h ≡ Some p =
    events.is_as_told opening h (made_after opening [] tt (own (Some m) es))
    (from_new opening m es).rows.genuine a said
    ∙ told in
    let w = tells m opening es a p told in
    let names_if = w.2 in (
      w.0,
      w.1,
      record {
        approved = names_if.approved;
        merchant = names_if.merchant;
        terminal = names_if.terminal;
        trace = names_if.trace;
        day = names_if.day;
        reference = names_if.reference (is_numbered m opening es next p opens are mine posts);
        amount = names_if.amount;
      },
    )
