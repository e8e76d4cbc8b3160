-- Setting an element's content: at its place, in a message that stays one, and looked up again.
use Rattle.std.proofs.Common.{◌≡◌, ◌≢◌, ℕ, ◌+◌, ◌<◌, ◌≤◌, true, cond, eqb, leb, List, [], ◌∷◌, ◌++◌}
use Rattle.std.proofs.Common.{length, take, drop, get_or, Option, Some, None, refl, sym, ap, subst}
use Rattle.std.proofs.Common.{◌∙◌, arith, add-one, inl, inr, Bor}
use Rattle.std.specs.Prelude.{IfSome, slice_set}
use Rattle.std.specs.Option.{option_copied}
use Rattle.std.specs.List.{list_all, insert}
use Rattle.std.proofs.lemmas.Bool.{and_parts, and_from, le-leb, lt-leb, ne_eqb, eq-eqb, ltb-true}
use Rattle.std.proofs.lemmas.Bool.{cases_eq, cases_lt, cases_order, cases_Bool, true≢false}
use Rattle.std.proofs.lemmas.List.{take-append-drop, drop_more, drop_all, set_split}
use Rattle.iso_codec.specs.Message.{numbers, is_element, Ascends, IsMessage, with_content}
use Rattle.iso_codec.specs.Message.{content_of}
use Rattle.iso_codec.specs.declared.element_format.ElementFormat.{ElementFormat}
use Rattle.iso_codec.specs.declared.set_fault.SetFault.TheVariants.{BadLength, BadContent}
use Rattle.iso_codec.specs.Table.{format_of}
use Rattle.iso_codec.specs.Content.{has_length, has_class, allows}
use Rattle.iso_codec.specs.Setting.{is_below, StartsFrom, IsPlace, set_fault, set_fault_by}
use Rattle.iso_codec.proofs.TableBounds.{format_in_bounds}
use Rattle.iso_codec.proofs.OneMessage.{format_of_element}

-- behind elements below n
pub with_after : (es fs : List (ℕ × List ℕ)) (n : ℕ) (text : List ℕ) →
    list_all (is_below n) es ≡ true
    → with_content (es ++ fs) n text ≡ es ++ with_content fs n text
with_after [] fs n text h = refl
with_after (e ∷ es) fs n text h =
    let parts = and_parts (is_below n e) (list_all (is_below n) es) h in
    let lt = ltb-true e.0 n parts.0 in
    rw (le-leb e.0 n (omega arith), ne_eqb n e.0 (omega arith))
    (ap (λ (l : List (ℕ × List ℕ)). e ∷ l) (with_after es fs n text parts.1))

pub with_at : (e : ℕ × List ℕ) (es : List (ℕ × List ℕ)) (n : ℕ) (text : List ℕ) → e.0 ≡ n
    → with_content (e ∷ es) n text ≡ (n, text) ∷ es
with_at e es n text h = rw (le-leb e.0 n (omega arith), eq-eqb n e.0 (sym h)) refl

pub with_before : (es : List (ℕ × List ℕ)) (n : ℕ) (text : List ℕ) → StartsFrom n es
    → ((e : ℕ × List ℕ) (fs : List (ℕ × List ℕ)) → es ≡ e ∷ fs → e.0 ≢ n) →
    with_content es n text ≡ (n, text) ∷ es
with_before [] n text h ne = refl
with_before (e ∷ es) n text h ne = let apart = ne e es refl in rw (lt-leb e.0 n (omega arith)) refl

-- ---- an element stays, and the order

pub all_with : (es : List (ℕ × List ℕ)) (n : ℕ) (text : List ℕ) → list_all is_element es ≡ true
    → is_element (n, text) ≡ true → list_all is_element (with_content es n text) ≡ true
all_with [] n text h k = and_from (is_element (n, text)) true k refl
all_with (e ∷ es) n text h k =
    let parts = and_parts (is_element e) (list_all is_element es) h in
    elim (cases_Bool (leb e.0 n)) [
      | inl low ↦ elim (cases_Bool (eqb n e.0)) [
        | inl same ↦ rw (low, same)
            (and_from (is_element (n, text)) (list_all is_element es) k parts.1)
        | inr other ↦ rw (low, other)
            (and_from (is_element e) (list_all is_element (with_content es n text)) parts.0
            (all_with es n text parts.1 k))
      ]
      | inr high ↦ rw high (and_from (is_element (n, text)) (list_all is_element (e ∷ es)) k h)
    ]

pub ascends_with : (low : ℕ) (es : List (ℕ × List ℕ)) (n : ℕ) (text : List ℕ) →
    Ascends low (numbers es) → low < n
    → Ascends low (numbers (with_content es n text))
ascends_with low [] n text h k = (k, tt)
ascends_with low (e ∷ es) n text h k =
    elim (cases_lt n e.0) [
      | inl high ↦ rw (lt-leb e.0 n high) (k, (high, h.1))
      | inr le ↦ elim (cases_eq n e.0) [
        | inl same ↦ rw (le-leb e.0 n le, eq-eqb n e.0 same)
            (k, subst (λ (m : ℕ). Ascends m (numbers es)) (sym same) h.1)
        | inr other ↦ rw (le-leb e.0 n le, ne_eqb n e.0 other)
            (h.0, ascends_with e.0 es n text h.1 (omega arith))
      ]
    ]

-- ---- a look-up

pub content_past : (es fs : List (ℕ × List ℕ)) (n : ℕ) → content_of es n ≡ None
    → content_of (es ++ fs) n ≡ content_of fs n
content_past [] fs n h = refl
content_past (e ∷ es) fs n h =
    elim (cases_Bool (eqb n e.0)) [
      | inl same ↦ let bad : Some e.1 ≡ None = rw same at h in absurd cc
      | inr other ↦ rw other (content_past es fs n (rw other at h))
    ]

-- where the element at a place is n, its content is changed there
pub with_content-same : (es : List (ℕ × List ℕ)) (n i : ℕ) (text : List ℕ) (d : ℕ × List ℕ) →
    IsPlace es n i
    → i < length es → (get_or es i d).0 ≡ n → slice_set es i (n, text) ≡ with_content es n text
with_content-same es n i text d p lt same =
    let left : slice_set es i (n, text) ≡ take i es ++ ((n, text) ∷ drop (i + 1) es) =
    set_split es i (n, text) lt ∙ ap (λ (k : ℕ). take i es ++ (n, text) ∷ drop k es)
    (sym (add-one i)) in
    let right : with_content es n text ≡ take i es ++ with_content (drop i es) n text =
    ap (λ (x : List (ℕ × List ℕ)). with_content x n text) (sym (take-append-drop i es))
    ∙ with_after (take i es) (drop i es) n text p.before in
    let here : with_content (drop i es) n text ≡ (n, text) ∷ drop (i + 1) es =
    ap (λ (x : List (ℕ × List ℕ)). with_content x n text) (drop_more es i d lt)
    ∙ with_at (get_or es i d) (drop (i + 1) es) n text same in
    left ∙ sym (right ∙ ap (λ (x : List (ℕ × List ℕ)). take i es ++ x) here)

not_there : (es : List (ℕ × List ℕ)) (i : ℕ) (d : ℕ × List ℕ) (n : ℕ) →
    (i < length es → (get_or es i d).0 ≢ n)
    → (e : ℕ × List ℕ) (fs : List (ℕ × List ℕ)) → drop i es ≡ e ∷ fs → e.0 ≢ n
not_there es i d n h e fs is same =
    elim (cases_lt i (length es)) [
      | inl lt ↦
          let both : get_or es i d ∷ drop (i + 1) es ≡ e ∷ fs = sym (drop_more es i d lt) ∙ is in
          let one : get_or es i d ≡ e = cc in
          h lt (ap (λ (x : ℕ × List ℕ). x.0) one ∙ same)
      | inr past ↦ let empty : [] ≡ e ∷ fs = sym (drop_all i es past) ∙ is in absurd cc
    ]

-- where it isn't, the element goes there
pub with_content-new : (es : List (ℕ × List ℕ)) (n i : ℕ) (text : List ℕ) (d : ℕ × List ℕ) →
    IsPlace es n i
    → (i < length es → (get_or es i d).0 ≢ n) → insert es i (n, text) ≡ with_content es n text
with_content-new es n i text d p ne =
    let right : with_content es n text ≡ take i es ++ with_content (drop i es) n text =
    ap (λ (x : List (ℕ × List ℕ)). with_content x n text) (sym (take-append-drop i es))
    ∙ with_after (take i es) (drop i es) n text p.before in
    let here : with_content (drop i es) n text ≡ (n, text) ∷ drop i es =
    with_before (drop i es) n text p.after (not_there es i d n ne) in
    sym (right ∙ ap (λ (x : List (ℕ × List ℕ)). take i es ++ x) here)

-- ---- the whole message

pub fits_by : (o : Option ElementFormat) (n : ℕ) (text : List ℕ) → set_fault_by o n text ≡ None →
    allows o text ≡ true
fits_by None n text h = absurd cc
fits_by (Some r) n text h =
    elim (cases_Bool (has_length r.form (length text))) [
      | inl long ↦ elim (cases_Bool (has_class r.class text)) [
        | inl good ↦ and_from _ _ long good
        | inr bad ↦ let e : Some (BadContent n) ≡ None = rw (long, bad) at h in absurd cc
      ]
      | inr short ↦ let e : Some (BadLength n) ≡ None = rw short at h in absurd cc
    ]

pub message_with : (kind : List ℕ) (es : List (ℕ × List ℕ)) (n : ℕ) (text : List ℕ)
    → IsMessage (record { kind = kind; elements = es }) → set_fault n text ≡ None
    → IsMessage (record { kind = kind; elements = with_content es n text })
message_with kind es n text l h =
    let fits : is_element (n, text) ≡ true = fits_by (format_of n) n text h in
    let format = format_of_element n text fits in
    let s = format_in_bounds n format.0 format.1 in
    record {
      kind_fits = l.kind_fits;
      each = all_with es n text l.each fits;
      ascends = ascends_with 1 es n text l.ascends s.1;
    }

-- ---- what a look-up gives after a change, and lists with the same look-ups

pub text_with : (es : List (ℕ × List ℕ)) (n : ℕ) (text : List ℕ) (k : ℕ)
    → content_of (with_content es n text) k ≡ cond (eqb k n) (Some text) (content_of es k)
text_with [] n text k = refl
text_with (e ∷ es) n text k =
    elim (cases_lt n e.0) [
      | inl high ↦ rw (lt-leb e.0 n high) refl
      | inr le ↦ elim (cases_eq n e.0) [
        | inl same ↦ elim (cases_eq k n) [
          | inl here ↦ rw (le-leb e.0 n le, eq-eqb n e.0 same, eq-eqb k n here) refl
          | inr there ↦ rw (
            le-leb e.0 n le,
            eq-eqb n e.0 same,
            ne_eqb k n there,
            ne_eqb k e.0 (λ x. there (x ∙ sym same)),
          ) refl
        ]
        | inr other ↦ elim (cases_eq k e.0) [
          | inl here ↦ rw (
            le-leb e.0 n le,
            ne_eqb n e.0 other,
            eq-eqb k e.0 here,
            ne_eqb k n (λ x. other (sym x ∙ here)),
          ) refl
          | inr there ↦ rw (le-leb e.0 n le, ne_eqb n e.0 other, ne_eqb k e.0 there)
              (text_with es n text k)
        ]
      ]
    ]

pub none_below : (low : ℕ) (es : List (ℕ × List ℕ)) (k : ℕ) → Ascends low (numbers es) → k ≤ low
    → content_of es k ≡ None
none_below low [] k h le = refl
none_below low (e ∷ es) k h le = rw (ne_eqb k e.0 (omega (arith, h.0)))
    (none_below e.0 es k h.1 (omega (arith, h.0)))

first_text : (e : ℕ × List ℕ) (es : List (ℕ × List ℕ)) → content_of (e ∷ es) e.0 ≡ Some e.1
first_text e es = rw (eq-eqb e.0 e.0 refl) refl

-- elements in order are determined by what look-ups give
pub same_texts : (low : ℕ) (es fs : List (ℕ × List ℕ)) → Ascends low (numbers es) →
    Ascends low (numbers fs)
    → ((k : ℕ) → content_of es k ≡ content_of fs k) → es ≡ fs
same_texts low [] [] a b h = refl
same_texts low [] (f ∷ fs) a b h = let e : None ≡ Some f.1 = h f.0 ∙ first_text f fs in absurd cc
same_texts low (e ∷ es) [] a b h = let d : Some e.1 ≡ None = sym (first_text e es) ∙ h e.0 in
    absurd cc
same_texts low (e ∷ es) (f ∷ fs) a b h =
    elim (cases_order e.0 f.0) [
      | inl same ↦
          let texts : Some e.1 ≡ Some f.1 = sym (first_text e es) ∙ h e.0
          ∙ ap (λ (k : ℕ). content_of (f ∷ fs) k) same ∙ first_text f fs in
          let text : e.1 ≡ f.1 = cc in
          let heads : e ≡ f = ap (λ (n : ℕ). (n, e.1)) same ∙ ap (λ (t : List ℕ). (f.0, t)) text in
          let later : Ascends e.0 (numbers fs) = subst (λ (n : ℕ). Ascends n (numbers fs))
          (sym same) b.1 in
          let rest = same_texts e.0 es fs a.1 later (λ k. elim (cases_lt e.0 k) [
            | inl above ↦ sym (rw (ne_eqb k e.0 (omega arith)) refl) ∙ h k
                ∙ rw (ne_eqb k f.0 (omega arith)) refl
            | inr le ↦ none_below e.0 es k a.1 le ∙ sym (none_below e.0 fs k later le)
          ]) in
          ap (λ (x : ℕ × List ℕ). x ∷ es) heads ∙ ap (λ (x : List (ℕ × List ℕ)). f ∷ x) rest
      | inr apart ↦ elim apart [
        | inl less ↦
            let gone : content_of (f ∷ fs) e.0 ≡ None =
            rw (ne_eqb e.0 f.0 (omega arith)) (none_below f.0 fs e.0 b.1 (omega arith)) in
            let d : Some e.1 ≡ None = sym (first_text e es) ∙ h e.0 ∙ gone in
            absurd cc
        | inr more ↦
            let gone : content_of (e ∷ es) f.0 ≡ None =
            rw (ne_eqb f.0 e.0 (omega arith)) (none_below e.0 es f.0 a.1 (omega arith)) in
            let d : Some f.1 ≡ None = sym (first_text f fs) ∙ sym (h f.0) ∙ gone in
            absurd cc
      ]
    ]

-- ---- what a message has may be set

allowed_by : (o : Option ElementFormat) (n : ℕ) (text : List ℕ) → allows o text ≡ true →
    set_fault_by o n text ≡ None
allowed_by None n text h = absurd (true≢false (sym h))
allowed_by (Some r) n text h = let parts = and_parts (has_length r.form (length text))
    (has_class r.class text) h in
    rw (parts.0, parts.1) refl

pub text_fits : (es : List (ℕ × List ℕ)) (n : ℕ) (text : List ℕ) → list_all is_element es ≡ true
    → content_of es n ≡ Some text → set_fault n text ≡ None
text_fits [] n text h k = absurd cc
text_fits (e ∷ es) n text h k =
    let parts = and_parts (is_element e) (list_all is_element es) h in
    elim (cases_eq n e.0) [
      | inl same ↦
          let both : Some e.1 ≡ Some text = sym (rw (eq-eqb n e.0 same) refl) ∙ k in
          let text-is : e.1 ≡ text = cc in
          allowed_by (format_of n) n text
          (subst (λ (t : List ℕ). allows (format_of n) t ≡ true) text-is
          (subst (λ (m : ℕ). allows (format_of m) e.1 ≡ true) (sym same) parts.0))
      | inr other ↦ text_fits es n text parts.1 (sym (rw (ne_eqb n e.0 other) refl) ∙ k)
    ]

pub got_fits : (es : List (ℕ × List ℕ)) (n : ℕ) (o : Option (Bor (List ℕ))) →
    list_all is_element es ≡ true
    → option_copied o ≡ content_of es n → IfSome o (λ t. set_fault n t.now ≡ None)
got_fits es n (Some t) h e = text_fits es n t.now h (sym e)
got_fits es n None h e = tt
