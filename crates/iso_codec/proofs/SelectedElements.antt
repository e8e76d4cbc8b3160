-- The elements of a message that pass a test are a message's, and are found one after the other.
use Rattle.std.proofs.Common.{◌≡◌, ℕ, ◌+◌, ◌<◌, ◌≤◌, Bool, true, false, List, [], ◌∷◌, ◌++◌, length}
use Rattle.std.proofs.Common.{take, get_or, refl, ap, ◌∙◌, arith, append-nil, inl, inr}
use Rattle.std.specs.List.{list_all, filter}
use Rattle.std.proofs.lemmas.Bool.{and_parts, and_from, cases_Bool}
use Rattle.std.proofs.lemmas.List.Elements.{filter-append}
use Rattle.iso_codec.specs.declared.span.Span.{Span}
use Rattle.iso_codec.specs.Message.{IsMessage, IsKind, numbers, Ascends, is_element}
use Rattle.iso_codec.specs.Span.{element_at, elements_in}
use Rattle.iso_codec.proofs.SpanElements.{elements_in-more}

pub elements-filter : (p : ℕ × List ℕ → Bool) (es : List (ℕ × List ℕ)) →
    list_all is_element es ≡ true
    → list_all is_element (filter p es) ≡ true
elements-filter p [] k = refl
elements-filter p (e ∷ es) k =
    let parts = and_parts (is_element e) (list_all is_element es) k in
    let rest = elements-filter p es parts.1 in
    elim (cases_Bool (p e)) [
      | inl kept ↦ rw kept (and_from (is_element e) _ parts.0 rest)
      | inr dropped ↦ rw dropped rest
    ]

ascends_lower : (low m : ℕ) (ns : List ℕ) → low ≤ m → Ascends m ns → Ascends low ns
ascends_lower low m [] le up = tt
ascends_lower low m (n ∷ ns) le up = let above = up.0 in (omega arith, up.1)

pub ascends-filter : (p : ℕ × List ℕ → Bool) (low : ℕ) (es : List (ℕ × List ℕ)) →
    Ascends low (numbers es)
    → Ascends low (numbers (filter p es))
ascends-filter p low [] up = tt
ascends-filter p low (e ∷ es) up =
    let above = up.0 in
    let rest = ascends-filter p e.0 es up.1 in
    elim (cases_Bool (p e)) [
      | inl kept ↦ rw kept (above, rest)
      | inr dropped ↦ rw dropped (ascends_lower low e.0 (numbers (filter p es)) (omega arith) rest)
    ]

pub message-filter : (p : ℕ × List ℕ → Bool) (kind other : List ℕ) (es : List (ℕ × List ℕ))
    → IsMessage (record { kind = kind; elements = es }) → IsKind other
    → IsMessage (record { kind = other; elements = filter p es })
message-filter p kind other es m k = record {
  kind_fits = k;
  each = elements-filter p es m.each;
  ascends = ascends-filter p 1 es m.ascends;
}

-- ---- one more element

more : (p : ℕ × List ℕ → Bool) (bytes : List ℕ) (spans : List Span) (i : ℕ) (s : Span) →
    i < length spans
    → s ≡ get_or spans i s
    → filter p (elements_in bytes (take (i + 1) spans))
    ≡ filter p (elements_in bytes (take i spans)) ++ filter p (element_at bytes s ∷ [])
more p bytes spans i s lt is =
    ap (filter p) (elements_in-more bytes spans i s lt is)
    ∙ filter-append p (elements_in bytes (take i spans)) (element_at bytes s ∷ [])

pub more-kept : (p : ℕ × List ℕ → Bool) (bytes : List ℕ) (spans : List Span) (i : ℕ) (s : Span) →
    i < length spans
    → s ≡ get_or spans i s → p (element_at bytes s) ≡ true
    → filter p (elements_in bytes (take (i + 1) spans))
    ≡ filter p (elements_in bytes (take i spans)) ++ element_at bytes s ∷ []
more-kept p bytes spans i s lt is kept = more p bytes spans i s lt is ∙ rw kept refl

pub more-dropped : (p : ℕ × List ℕ → Bool) (bytes : List ℕ) (spans : List Span) (i : ℕ) (s : Span)
    → i < length spans → s ≡ get_or spans i s → p (element_at bytes s) ≡ false
    → filter p (elements_in bytes (take (i + 1) spans)) ≡ filter p (elements_in bytes (take i spans))
more-dropped p bytes spans i s lt is dropped =
    more p bytes spans i s lt is
    ∙ rw dropped (append-nil (filter p (elements_in bytes (take i spans))))
