-- A message's elements, found one number after the other.
use Rattle.std.proofs.Common.{◌≡◌, ℕ, ◌+◌, ◌≤◌, true, false, ltb, nat_eq, List, [], ◌∷◌, ◌++◌}
use Rattle.std.proofs.Common.{Option, Some, None, refl, sym, ap, append_assoc, ◌∙◌, arith, inl, inr}
use Rattle.std.specs.Prelude.{filter, flat_map, nat_lt}
use Rattle.std.specs.List.{list_all}
use Rattle.std.proofs.lemmas.Bool.{lt-ltb, le-ltb, eq-eqb, ne_eqb, and_parts, cases_order}
use Rattle.std.proofs.lemmas.List.{append-nil}
use Rattle.std.proofs.lemmas.List.Concat.{flat_map-append}
use Rattle.iso_codec.specs.Message.{IsoMessage, IsMessage, Ascends, numbers, is_element, content_of}
use Rattle.iso_codec.proofs.OneMessage.{format_of_element}
use Rattle.iso_codec.proofs.TableBounds.{format_in_bounds}

abbrev Element : Type 0
Element = ℕ × List ℕ

-- the elements of lower numbers
abbrev pub below : ℕ → List Element → List Element
below n es = filter (λ e. nat_lt e.0 n) es

-- where all numbers are as great, none is below
pub none_below : (n low : ℕ) (es : List Element) → n ≤ low + 1 → Ascends low (numbers es) →
    below n es ≡ []
none_below n low [] le a = refl
none_below n low (e ∷ es) le a =
    rw (le-ltb e.0 n (omega (arith, le, a.0))) (none_below n e.0 es (omega (arith, le, a.0)) a.1)

-- the element n, if it is there
abbrev pub element_of : ℕ → Option (List ℕ) → List Element
element_of n None = []
element_of n (Some content) = (n, content) ∷ []

pub one_more : (n low : ℕ) (es : List Element) → Ascends low (numbers es)
    → below (n + 1) es ≡ below n es ++ element_of n (content_of es n)
one_more n low [] a = refl
one_more n low (e ∷ es) a =
    elim (cases_order e.0 n) [
      | inl same ↦
          let next : ltb e.0 (n + 1) ≡ true = lt-ltb e.0 (n + 1) (omega (arith, same)) in
          let past : ltb e.0 n ≡ false = le-ltb e.0 n (omega (arith, same)) in
          let here : nat_eq n e.0 ≡ true = eq-eqb n e.0 (sym same) in
          let none : below (n + 1) es ≡ [] = none_below (n + 1) e.0 es (omega (arith, same)) a.1 in
          let nothing : below n es ≡ [] = none_below n e.0 es (omega (arith, same)) a.1 in
          rw (next, past, here, none, nothing) (ap (λ (k : ℕ). (k, e.1) ∷ []) same)
      | inr (inl lower) ↦
          let next : ltb e.0 (n + 1) ≡ true = lt-ltb e.0 (n + 1) (omega (arith, lower)) in
          let past : ltb e.0 n ≡ true = lt-ltb e.0 n lower in
          let other : nat_eq n e.0 ≡ false =
          ne_eqb n e.0 (λ same. absurd (omega (arith, lower, same))) in
          rw (next, past, other) (ap (λ (x : List Element). e ∷ x) (one_more n e.0 es a.1))
      | inr (inr higher) ↦
          let next : ltb e.0 (n + 1) ≡ false = le-ltb e.0 (n + 1) (omega (arith, higher)) in
          let past : ltb e.0 n ≡ false = le-ltb e.0 n (omega (arith, higher)) in
          let other : nat_eq n e.0 ≡ false =
          ne_eqb n e.0 (λ same. absurd (omega (arith, higher, same))) in
          rw (next, past, other) (one_more n e.0 es a.1)
    ]

-- all elements are below 129
pub all_below : (es : List Element) → list_all is_element es ≡ true → below 129 es ≡ es
all_below [] h = refl
all_below (e ∷ es) h =
    let parts = and_parts (is_element e) (list_all is_element es) h in
    let format = format_of_element e.0 e.1 parts.0 in
    let bounds = format_in_bounds e.0 format.0 format.1 in
    let low : ltb e.0 129 ≡ true = lt-ltb e.0 129 (omega (arith, bounds.2)) in
    rw low (ap (λ (x : List Element). e ∷ x) (all_below es parts.1))

-- ---- their lines

abbrev pub Line : Type 0
Line = Element → List ℕ

pub lines_begin : (line : Line) (m : IsoMessage) (text front : List ℕ) → IsMessage m → text ≡ front
    → text ≡ front ++ flat_map line (below 2 m.elements)
lines_begin line m text front is h =
    rw (none_below 2 1 m.elements (omega arith) is.ascends) (h ∙ sym (append-nil front))

-- the line of element n goes behind the lines before it, where it is there
pub lines_go_on : (line : Line) (m : IsoMessage) (n : ℕ) (old new front : List ℕ)
    (o : Option (List ℕ)) → IsMessage m
    → content_of m.elements n ≡ o → old ≡ front ++ flat_map line (below n m.elements)
    → new ≡ old ++ flat_map line (element_of n o) →
    new ≡ front ++ flat_map line (below (n + 1) m.elements)
lines_go_on line m n old new front o is here so now =
    let next : below (n + 1) m.elements ≡ below n m.elements ++ element_of n o =
    one_more n 1 m.elements is.ascends
    ∙ ap (λ (x : Option (List ℕ)). below n m.elements ++ element_of n x) here in
    let all : flat_map line (below (n + 1) m.elements)
    ≡ flat_map line (below n m.elements) ++ flat_map line (element_of n o) =
    ap (flat_map line) next ∙ flat_map-append line (below n m.elements) (element_of n o) in
    now ∙ ap (λ (x : List ℕ). x ++ flat_map line (element_of n o)) so
    ∙ append_assoc front (flat_map line (below n m.elements)) (flat_map line (element_of n o))
    ∙ ap (λ (x : List ℕ). front ++ x) (sym all)

pub lines_more : (line : Line) (m : IsoMessage) (n : ℕ) (old new front content : List ℕ) →
    IsMessage m
    → Some content ≡ content_of m.elements n → old ≡ front ++ flat_map line (below n m.elements)
    → new ≡ old ++ line (n, content) → new ≡ front ++ flat_map line (below (n + 1) m.elements)
lines_more line m n old new front content is here so now =
    lines_go_on line m n old new front (Some content) is (sym here) so
    (now ∙ ap (λ (x : List ℕ). old ++ x) (sym (append-nil (line (n, content)))))

pub lines_same : (line : Line) (m : IsoMessage) (n : ℕ) (old front : List ℕ) → IsMessage m
    → None ≡ content_of m.elements n → old ≡ front ++ flat_map line (below n m.elements)
    → old ≡ front ++ flat_map line (below (n + 1) m.elements)
lines_same line m n old front is here so =
    lines_go_on line m n old old front None is (sym here) so (sym (append-nil old))

pub lines_end : (line : Line) (m : IsoMessage) (text front : List ℕ) → IsMessage m
    → text ≡ front ++ flat_map line (below 129 m.elements) →
    text ≡ front ++ flat_map line m.elements
lines_end line m text front is so =
    so ∙ ap (λ (x : List Element). front ++ flat_map line x) (all_below m.elements is.each)
