-- The elements of a reply: what is echoed, and what is added, are elements that replies may have.
use Rattle.std.proofs.Common.{◌≡◌, ℕ, suc, ◌≤◌, List, [], ◌∷◌, length, Option, Some, None, Bool}
use Rattle.std.proofs.Common.{true, false, eqb, leb, inl, inr, refl, sym, subst, arith}
use Rattle.std.specs.Prelude.{filter, codes, pos, ◌&&◌, if◌then◌else◌, ℤ, negsuc}
use Rattle.std.specs.List.{list_all}
use Rattle.std.specs.Char.{is_ascii_digit}
use Rattle.std.proofs.lemmas.Bool.{and_parts, and_from, cases_Bool, or_cases, eqb-true}
use Rattle.std.proofs.lemmas.Bool.Decides.{nat_tests}
use Rattle.iso_codec.specs.Content.{has_class, is_alphanumeric}
use Rattle.iso_codec.specs.Table.{format_of}
use Rattle.iso_codec.specs.Message.{IsoMessage, IsMessage, IsKind, numbers, Ascends, is_element}
use Rattle.iso_codec.specs.Message.{with_content, is_among}
use Rattle.iso_codec.proofs.OneMessage.{format_of_element}
use Rattle.iso_codec.proofs.TableBounds.{format_in_bounds}
use Rattle.iso_codec.proofs.ElementPlaces.{ascends_with}
use Rattle.day_totals.specs.Day.{last_day, mmdd_of}
use Rattle.day_totals.specs.Digits.{zero_padded}
use Rattle.day_totals.specs.Totals.{DayTotals, net_text_of, net_of}
use Rattle.day_totals.proofs.ZeroPadded.{length-zero_padded, all_digits-zero_padded}
use Rattle.acq_message.specs.declared.service.Service.{Service}
use Rattle.acq_message.specs.declared.service.Service.TheVariants.{Authorization, NetworkManagement}
use Rattle.acq_message.specs.declared.response_code.ResponseCode.{ResponseCode}
use Rattle.acq_message.specs.declared.response_code.ResponseCode.TheVariants as code
use Rattle.acq_message.specs.declared.verdict.Verdict.{Verdict}
use Rattle.acq_message.specs.declared.verdict.Verdict.TheVariants as verdict
use Rattle.acq_message.specs.IssuerTexts.{is_decline_code}
use Rattle.acq_message.specs.Services.{reply_kind, echoed}
use Rattle.acq_message.specs.Reply.{echo, with_contents, day_element, reference_element}
use Rattle.acq_message.specs.Reply.{code_element, totals_elements, verdict_elements}
use Rattle.acq_core.specs.Events.{IsVerdict}
use Rattle.acq_soundness.specs.Replies.{reply_elements, IsReply}
use Rattle.acq_soundness.proofs.DayTexts.{mmdd_of-digits}
use Rattle.acq_soundness.proofs.StepCases.{is_hosts}
use Rattle.acq_soundness.proofs.Runs.{kept}

-- an element that a reply may have
abbrev pub may_have : ℕ × List ℕ → Bool
may_have e = is_element e && is_among reply_elements e

-- the elements of a reply
pub record IsBody (es : List (ℕ × List ℕ)) : Type 0 where
  pub each : list_all may_have es ≡ true
  pub ascends : Ascends 1 (numbers es)

-- what all pass, all pass of what follows from it
pub all_weaker : {X : Type 0} (p q : X → Bool) → ((x : X) → p x ≡ true → q x ≡ true) →
    (xs : List X) → list_all p xs ≡ true → list_all q xs ≡ true
all_weaker p q weaker [] h = refl
all_weaker p q weaker (x ∷ xs) h =
    let parts = and_parts (p x) (list_all p xs) h in
    and_from (q x) (list_all q xs) (weaker x parts.0) (all_weaker p q weaker xs parts.1)

-- ---- what is added

all_with : (p : ℕ × List ℕ → Bool) (es : List (ℕ × List ℕ)) (n : ℕ) (text : List ℕ) →
    list_all p es ≡ true → p (n, text) ≡ true → list_all p (with_content es n text) ≡ true
all_with p [] n text h k = and_from (p (n, text)) true k refl
all_with p (e ∷ es) n text h k =
    let parts = and_parts (p e) (list_all p es) h in
    elim (cases_Bool (leb e.0 n)) [
      | inl low ↦ elim (cases_Bool (eqb n e.0)) [
        | inl same ↦ rw (low, same) (and_from (p (n, text)) (list_all p es) k parts.1)
        | inr other ↦ rw (low, other) (and_from (p e) (list_all p (with_content es n text)) parts.0
            (all_with p es n text parts.1 k))
      ]
      | inr high ↦ rw high (and_from (p (n, text)) (list_all p (e ∷ es)) k h)
    ]

body_with : (es : List (ℕ × List ℕ)) (n : ℕ) (text : List ℕ) → IsBody es →
    may_have (n, text) ≡ true → IsBody (with_content es n text)
body_with es n text b fits =
    let parts = and_parts (is_element (n, text)) (is_among reply_elements (n, text)) fits in
    let format = format_of_element n text parts.0 in
    let s = format_in_bounds n format.0 format.1 in
    record {
      each = all_with may_have es n text b.each fits;
      ascends = ascends_with 1 es n text b.ascends s.1;
    }

pub body_with_all : (added es : List (ℕ × List ℕ)) → IsBody es → list_all may_have added ≡ true →
    IsBody (with_contents es added)
body_with_all [] es b fits = b
body_with_all (e ∷ added) es b fits =
    let parts = and_parts (may_have e) (list_all may_have added) fits in
    body_with_all added (with_content es e.0 e.1) (body_with es e.0 e.1 b parts.0) parts.1

-- ---- what is echoed

-- numbers of replies
abbrev pub are_of_replies : List ℕ → Bool
are_of_replies ks = list_all (λ k. is_among reply_elements (k, [])) ks

-- what holds of each of these numbers holds of an element's number among them
pub among_passes : (q : ℕ → Bool) (ks : List ℕ) (e : ℕ × List ℕ) → list_all q ks ≡ true →
    is_among ks e ≡ true → q e.0 ≡ true
among_passes q [] e h k = absurd cc
among_passes q (n ∷ ks) e h k =
    let parts = and_parts (q n) (list_all q ks) h in
    elim (or_cases (eqb n e.0) (is_among ks e) k) [
      | inl same ↦ subst (λ (m : ℕ). q m ≡ true) (eqb-true n e.0 same) parts.0
      | inr later ↦ among_passes q ks e parts.1 later
    ]

echoed-of_replies : (service : Service) → are_of_replies (echoed service) ≡ true
echoed-of_replies Authorization = refl
echoed-of_replies service = refl

kept_each : (ks : List ℕ) (es : List (ℕ × List ℕ)) → are_of_replies ks ≡ true →
    list_all is_element es ≡ true → list_all may_have (filter (is_among ks) es) ≡ true
kept_each ks [] h k = refl
kept_each ks (e ∷ es) h k =
    let parts = and_parts (is_element e) (list_all is_element es) k in
    let rest = kept_each ks es h parts.1 in
    elim (cases_Bool (is_among ks e)) [
      | inl kept ↦ rw kept (and_from (may_have e) (list_all may_have (filter (is_among ks) es))
          (and_from (is_element e) (is_among reply_elements e) parts.0
          (among_passes (λ k. is_among reply_elements (k, [])) ks e h kept)) rest)
      | inr dropped ↦ rw dropped rest
    ]

ascends_lower : (low m : ℕ) (ns : List ℕ) → low ≤ m → Ascends m ns → Ascends low ns
ascends_lower low m [] le up = tt
ascends_lower low m (n ∷ ns) le up = let above = up.0 in (omega arith, up.1)

pub kept_ascends : (p : ℕ × List ℕ → Bool) (low : ℕ) (es : List (ℕ × List ℕ)) →
    Ascends low (numbers es) → Ascends low (numbers (filter p es))
kept_ascends p low [] up = tt
kept_ascends p low (e ∷ es) up =
    let above = up.0 in
    let rest = kept_ascends p e.0 es up.1 in
    elim (cases_Bool (p e)) [
      | inl kept ↦ rw kept (above, rest)
      | inr dropped ↦ rw dropped (ascends_lower low e.0 (numbers (filter p es)) (omega arith) rest)
    ]

pub body_of_echo : (service : Service) (m : IsoMessage) → IsMessage m → IsBody (echo service m)
body_of_echo service m whole = record {
  each = kept_each (echoed service) m.elements (echoed-of_replies service) whole.each;
  ascends = kept_ascends (is_among (echoed service)) 1 m.elements whole.ascends;
}

-- ---- the whole

reply_kind-kind : (s : Service) → IsKind (reply_kind s)
reply_kind-kind Authorization = record { size = refl; digits = refl }
reply_kind-kind service = record { size = refl; digits = refl }

-- elements of a reply, under the type of a service's replies
pub reply_of_body : (service : Service) (m : IsoMessage) → m.kind ≡ reply_kind service →
    IsBody m.elements → IsReply service m
reply_of_body service m is b = record {
  is_message = record {
    kind_fits = subst IsKind (sym is) (reply_kind-kind service);
    each =
        all_weaker may_have is_element
        (λ e h. (and_parts (is_element e) (is_among reply_elements e) h).0) m.elements b.each;
    ascends = b.ascends;
  };
  kind = is;
  elements =
      all_weaker may_have (is_among reply_elements)
      (λ e h. (and_parts (is_element e) (is_among reply_elements e) h).1) m.elements b.each;
}

pub body_of_reply : (service : Service) (m : IsoMessage) → IsReply service m → IsBody m.elements
body_of_reply service m r = record {
  each = both m.elements r.is_message.each r.elements;
  ascends = r.is_message.ascends;
}
  where
    both : (es : List (ℕ × List ℕ)) → list_all is_element es ≡ true →
        list_all (is_among reply_elements) es ≡ true → list_all may_have es ≡ true
    both [] h k = refl
    both (e ∷ es) h k =
        let a = and_parts (is_element e) (list_all is_element es) h in
        let b = and_parts (is_among reply_elements e) (list_all (is_among reply_elements) es) k in
        and_from (may_have e) (list_all may_have es)
        (and_from (is_element e) (is_among reply_elements e) a.0 b.0)
        (both es a.1 b.1)

-- ---- the elements that the host adds

digit_alphanumeric : (b : ℕ) → is_ascii_digit b ≡ true → is_alphanumeric b ≡ true
digit_alphanumeric b h = grind (arith, nat_tests)

day_may : (day : ℕ) → day ≤ last_day → list_all may_have ((15, mmdd_of day) ∷ []) ≡ true
unfolding format_of has_class
day_may day h = rw (mmdd_of-digits day h) refl

pub day_element-may : (service : Service) (day : ℕ) → day ≤ last_day →
    list_all may_have (day_element service day) ≡ true
day_element-may NetworkManagement day h = refl
day_element-may service day h = day_may day h

pub reference_element-may : (o : Option ℕ) → list_all may_have (reference_element o) ≡ true
unfolding format_of has_class
reference_element-may None = refl
reference_element-may (Some n) =
    let digits = all_weaker is_ascii_digit is_alphanumeric digit_alphanumeric (zero_padded 12 n)
    (all_digits-zero_padded 12 n) in
    rw (length-zero_padded 12 n, digits) refl

-- a code that the host gives, or that an issuer may decline with
abbrev pub IsCode : ResponseCode → Type 0
IsCode (code.Declined text) = is_decline_code text ≡ true
IsCode given = Unit {0}

pub code_element-may : (given : ResponseCode) → IsCode given →
    list_all may_have (code_element given) ≡ true
unfolding format_of has_class
code_element-may (code.Declined text) h =
    let parts = and_parts (eqb (length text) 2 && list_all is_alphanumeric text) _ h in
    rw parts.0 refl
code_element-may other h = refl

pub IsCode-hosts : (given : ResponseCode) → is_hosts given ≡ true → IsCode given
IsCode-hosts (code.Declined text) h = absurd cc
IsCode-hosts other h = tt

pub verdict_elements-may : (v : Verdict) → IsVerdict v →
    list_all may_have (verdict_elements v) ≡ true
unfolding format_of has_class
verdict_elements-may (verdict.Approved id) h = rw h refl
verdict_elements-may (verdict.Declined text) h = code_element-may (code.Declined text) h
verdict_elements-may verdict.NoAnswer h = refl

-- counts and sums have as many digits as their elements
may_74 : (x : ℕ) → may_have (74, zero_padded 10 x) ≡ true
unfolding format_of has_class
may_74 x = rw (length-zero_padded 10 x, all_digits-zero_padded 10 x) refl

may_75 : (x : ℕ) → may_have (75, zero_padded 10 x) ≡ true
unfolding format_of has_class
may_75 x = rw (length-zero_padded 10 x, all_digits-zero_padded 10 x) refl

may_76 : (x : ℕ) → may_have (76, zero_padded 10 x) ≡ true
unfolding format_of has_class
may_76 x = rw (length-zero_padded 10 x, all_digits-zero_padded 10 x) refl

may_77 : (x : ℕ) → may_have (77, zero_padded 10 x) ≡ true
unfolding format_of has_class
may_77 x = rw (length-zero_padded 10 x, all_digits-zero_padded 10 x) refl

may_86 : (x : ℕ) → may_have (86, zero_padded 16 x) ≡ true
unfolding format_of has_class
may_86 x = rw (length-zero_padded 16 x, all_digits-zero_padded 16 x) refl

may_87 : (x : ℕ) → may_have (87, zero_padded 16 x) ≡ true
unfolding format_of has_class
may_87 x = rw (length-zero_padded 16 x, all_digits-zero_padded 16 x) refl

may_88 : (x : ℕ) → may_have (88, zero_padded 16 x) ≡ true
unfolding format_of has_class
may_88 x = rw (length-zero_padded 16 x, all_digits-zero_padded 16 x) refl

may_89 : (x : ℕ) → may_have (89, zero_padded 16 x) ≡ true
unfolding format_of has_class
may_89 x = rw (length-zero_padded 16 x, all_digits-zero_padded 16 x) refl

net_may : (z : ℤ) → may_have (97, net_text_of z) ≡ true
unfolding format_of has_class
net_may (pos n) = rw (length-zero_padded 16 n, all_digits-zero_padded 16 n) refl
net_may (negsuc n) = rw (length-zero_padded 16 (suc n), all_digits-zero_padded 16 (suc n)) refl

in_balance_may : (b : Bool) → may_have (66, (if b then codes "1" else codes "2")) ≡ true
unfolding format_of has_class
in_balance_may true = refl
in_balance_may false = refl

pub totals_elements-may : (b : Bool) (t : DayTotals) →
    list_all may_have (totals_elements b t) ≡ true
totals_elements-may b t =
    and_from _ _ (in_balance_may b)
    (and_from _ _ (may_74 t.credits.count)
    (and_from _ _ (may_75 t.credit_reversals.count)
    (and_from _ _ (may_76 t.debits.count)
    (and_from _ _ (may_77 t.debit_reversals.count)
    (and_from _ _ (may_86 t.credits.amount)
    (and_from _ _ (may_87 t.credit_reversals.amount)
    (and_from _ _ (may_88 t.debits.amount)
    (and_from _ _ (may_89 t.debit_reversals.amount)
    (and_from _ _ (net_may (net_of t)) refl)))))))))
