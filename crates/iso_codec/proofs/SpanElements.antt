-- The elements at spans: more bytes behind them, one span more, and the first that is looked for.
use Rattle.std.proofs.Common.{◌≡◌, ◌≢◌, ℕ, zero, suc, ◌+◌, ◌-◌, ◌<◌, ◌≤◌, true, leb, List, [], ◌∷◌}
use Rattle.std.proofs.Common.{◌++◌, length, take, drop, get_or, Some, None, refl, sym, ap, subst}
use Rattle.std.proofs.Common.{◌∙◌, arith}
use Rattle.std.specs.Prelude.{slice_set}
use Rattle.std.specs.List.{list_all, insert}
use Rattle.std.specs.Int.{is_in_range}
use Rattle.std.proofs.lemmas.Bool.{and_parts, and_from, le-leb, leb-true, eq-eqb, ne_eqb}
use Rattle.std.proofs.lemmas.List.{take-append-drop, take-append-le, drop-append-le, take-map}
use Rattle.std.proofs.lemmas.List.{drop-map, drop_more, length-map, map-append, map_push, take_more}
use Rattle.std.proofs.lemmas.List.{length-append, length-drop, take_all, drop_all, take_at, drop_at}
use Rattle.std.proofs.lemmas.List.{get_or-map, get_or_default, length-set, get_or-set_other}
use Rattle.std.proofs.lemmas.Grind.{get_or-set_at}
use Rattle.std.proofs.lemmas.List.{append-nil}
use Rattle.std.proofs.lemmas.List.Concat.{flat_map-append}
use Rattle.std.proofs.lemmas.List.Folds.{list_all-append}
use Rattle.iso_codec.specs.declared.span.Span.{Span}
use Rattle.iso_codec.specs.Message.{numbers, is_element, content_of, spelled, body}
use Rattle.iso_codec.specs.Setting.{is_below, StartsFrom, IsPlace}
use Rattle.iso_codec.specs.Span.{is_within, element_at, elements_in, numbers_of}
use Rattle.iso_codec.proofs.TableBounds.{format_in_bounds}
use Rattle.iso_codec.proofs.OneMessage.{format_of_element}
use Rattle.iso_codec.proofs.ElementPlaces.{content_past}

pub length-elements_in : (bytes : List ℕ) (spans : List Span) →
    length (elements_in bytes spans) ≡ length spans
length-elements_in bytes spans = length-map spans (element_at bytes)

-- ---- more bytes

taken_still : (bytes more : List ℕ) (start len : ℕ) → start + len ≤ length bytes
    → take len (drop start (bytes ++ more)) ≡ take len (drop start bytes)
taken_still bytes more start len h =
    let room : len ≤ length (drop start bytes) = omega (arith, length-drop start bytes) in
    ap (take len) (drop-append-le start bytes more (omega arith)) ∙ take-append-le len
    (drop start bytes) more room

-- what stands within bytes stays where more come
pub elements_in-append : (bytes more : List ℕ) (spans : List Span)
    → list_all (is_within (length bytes)) spans ≡ true →
    elements_in (bytes ++ more) spans ≡ elements_in bytes spans
elements_in-append bytes more [] h = refl
elements_in-append bytes more (s ∷ ss) h =
    let p = and_parts (is_within (length bytes) s) (list_all (is_within (length bytes)) ss) h in
    let here : element_at (bytes ++ more) s ≡ element_at bytes s =
    ap (λ (t : List ℕ). (s.number, t))
    (taken_still bytes more s.start s.len (leb-true (s.start + s.len) (length bytes) p.0)) in
    rw (here, elements_in-append bytes more ss p.1) refl

within_more : (size more : ℕ) (spans : List Span) → size ≤ more →
    list_all (is_within size) spans ≡ true
    → list_all (is_within more) spans ≡ true
within_more size more [] le h = refl
within_more size more (s ∷ ss) le h =
    let p = and_parts (is_within size s) (list_all (is_within size) ss) h in
    let here = leb-true (s.start + s.len) size p.0 in
    and_from (is_within more s) (list_all (is_within more) ss)
    (le-leb (s.start + s.len) more (omega arith))
    (within_more size more ss le p.1)

pub within_same : (bytes bytes' : List ℕ) (spans spans' : List Span) → bytes' ≡ bytes →
    spans' ≡ spans
    → list_all (is_within (length bytes)) spans ≡ true →
    list_all (is_within (length bytes')) spans' ≡ true
within_same bytes bytes' spans spans' e f h = rw (e, f) h

-- ---- a span of new bytes behind the others

pub record IsBehind (bytes content : List ℕ) (s : Span) : Type 0 where
  pub start_is : s.start ≡ length bytes
  pub len_is : s.len ≡ length content

behind_is : (bytes content : List ℕ) (s : Span) → IsBehind bytes content s
    → element_at (bytes ++ content) s ≡ (s.number, content)
behind_is bytes content s b =
    ap (λ (t : List ℕ). (s.number, t)) (
    ap (λ (k : ℕ). take s.len (drop k (bytes ++ content))) b.start_is
    ∙ ap (take s.len) (drop_at bytes content (length bytes) refl)
    ∙ ap (λ (k : ℕ). take k content) b.len_is
    ∙ take_all (length content) content (omega arith)
    )

behind_within : (bytes content : List ℕ) (s : Span) → IsBehind bytes content s
    → is_within (length (bytes ++ content)) s ≡ true
behind_within bytes content s b =
    le-leb (s.start + s.len) (length (bytes ++ content))
    (omega (arith, b.start_is, b.len_is, length-append bytes content))

-- the spans of either part, and one between them
pub insert_span : (bytes content : List ℕ) (spans : List Span) (at : ℕ) (s : Span) →
    IsBehind bytes content s
    → list_all (is_within (length bytes)) spans ≡ true
    → elements_in (bytes ++ content) (insert spans at s) ≡ insert (elements_in bytes spans) at
    (s.number, content)
insert_span bytes content spans at s b h =
    let f = element_at (bytes ++ content) in
    let whole : elements_in (bytes ++ content) (insert spans at s)
    ≡ elements_in (bytes ++ content) (take at spans)
    ++ (f s ∷ elements_in (bytes ++ content) (drop at spans)) =
    map-append f (take at spans) (s ∷ drop at spans) in
    let front : elements_in (bytes ++ content) (take at spans) ≡ take at (elements_in bytes spans) =
    sym (take-map f at spans) ∙ ap (take at) (elements_in-append bytes content spans h) in
    let back : elements_in (bytes ++ content) (drop at spans) ≡ drop at (elements_in bytes spans) =
    sym (drop-map f at spans) ∙ ap (drop at) (elements_in-append bytes content spans h) in
    whole ∙ rw (front, back, behind_is bytes content s b) refl

pub insert_within : (bytes content : List ℕ) (spans : List Span) (at : ℕ) (s : Span) →
    IsBehind bytes content s
    → list_all (is_within (length bytes)) spans ≡ true
    → list_all (is_within (length (bytes ++ content))) (insert spans at s) ≡ true
insert_within bytes content spans at s b h =
    let size = length-append bytes content in
    let more = within_more (length bytes) (length (bytes ++ content)) spans (omega arith) h in
    let halves = sym (list_all-append (is_within (length (bytes ++ content))) (take at spans)
    (drop at spans))
    ∙ ap (list_all (is_within (length (bytes ++ content)))) (take-append-drop at spans) ∙ more in
    let p = and_parts (list_all (is_within (length (bytes ++ content))) (take at spans)) _ halves in
    list_all-append (is_within (length (bytes ++ content))) (take at spans) (s ∷ drop at spans)
    ∙ rw (p.0, p.1, behind_within bytes content s b) refl

insert_last : {X : Type 0} (xs : List X) (n : ℕ) (x : X) → length xs ≤ n →
    insert xs n x ≡ xs ++ x ∷ []
insert_last xs n x h = rw (take_all n xs h, drop_all n xs h) refl

-- a span behind the others
pub push_span : (bytes content : List ℕ) (spans : List Span) (s : Span) → IsBehind bytes content s
    → list_all (is_within (length bytes)) spans ≡ true
    → elements_in (bytes ++ content) (spans ++ s ∷ []) ≡ elements_in bytes spans
    ++ (s.number, content) ∷ []
push_span bytes content spans s b h =
    map_push (element_at (bytes ++ content)) spans s
    ∙ rw (elements_in-append bytes content spans h, behind_is bytes content s b) refl

pub push_within : (bytes content : List ℕ) (spans : List Span) (s : Span) → IsBehind bytes content s
    → list_all (is_within (length bytes)) spans ≡ true
    → list_all (is_within (length (bytes ++ content))) (spans ++ s ∷ []) ≡ true
push_within bytes content spans s b h =
    ap (list_all (is_within (length (bytes ++ content))))
    (sym (insert_last spans (length spans) s (omega arith)))
    ∙ insert_within bytes content spans (length spans) s b h

-- one more of a list in which the element at a place was changed
pub set_more-same : (es : List (ℕ × List ℕ)) (at i : ℕ) (x : ℕ × List ℕ) → i < length es → i ≡ at
    → take (i + 1) (slice_set es at x) ≡ take i (slice_set es at x) ++ x ∷ []
set_more-same es at i x lt same =
    let room : i < length (slice_set es at x) = omega (arith, length-set es at x) in
    take_more (slice_set es at x) i x room
    ∙ ap (λ (y : ℕ × List ℕ). take i (slice_set es at x) ++ y ∷ [])
    (get_or-set_at es at i x x same (omega arith))

pub set_more-other : (es : List (ℕ × List ℕ)) (at i : ℕ) (x y : ℕ × List ℕ) → i < length es → i ≢ at
    → get_or es i y ≡ y → take (i + 1) (slice_set es at x) ≡ take i (slice_set es at x) ++ y ∷ []
set_more-other es at i x y lt other is =
    let room : i < length (slice_set es at x) = omega (arith, length-set es at x) in
    take_more (slice_set es at x) i y room
    ∙ ap (λ (z : ℕ × List ℕ). take i (slice_set es at x) ++ z ∷ [])
    (get_or-set_other es at i x y other ∙ is)

-- ---- a span of what stands there already

-- content between what stands before it and after it
pub content_between : (front before content after : List ℕ) → front ≡ before ++ (content ++ after)
    → take (length content) (drop (length front - length after - length content) front) ≡ content
content_between front before content after e =
    let size : length front ≡ length before + (length content + length after) =
    ap length e ∙ length-append before (content ++ after)
    ∙ ap (λ (n : ℕ). length before + n) (length-append content after) in
    let place : length front - length after - length content ≡ length before = omega arith in
    ap (λ (k : ℕ). take (length content) (drop k front)) place
    ∙ ap (λ (x : List ℕ). take (length content) (drop (length before) x)) e
    ∙ ap (take (length content)) (drop_at before (content ++ after) (length before) refl)
    ∙ take_at content after (length content) refl

pub between_within : (front before content after : List ℕ) (n : ℕ) →
    front ≡ before ++ (content ++ after)
    → is_within (length front)
    (record {
      number = n;
      start = length front - length after - length content;
      len =
          length content;
    }) ≡ true
between_within front before content after n e =
    let size : length front ≡ length before + (length content + length after) =
    ap length e ∙ length-append before (content ++ after)
    ∙ ap (λ (m : ℕ). length before + m) (length-append content after) in
    le-leb (length front - length after - length content + length content) (length front)
    (omega arith)

-- ---- one after the other

-- the span at an index
abbrev pub span_at : List Span → ℕ → Span
span_at spans i = get_or spans i (record { number = 0; start = 0; len = 0 })

pub span_at_is : (spans : List Span) (i : ℕ) → i < length spans →
    span_at spans i ≡ get_or spans i (span_at spans i)
span_at_is spans i lt = get_or_default spans i (record { number = 0; start = 0; len = 0 })
    (span_at spans i) lt

pub span_within : (size : ℕ) (spans : List Span) (i : ℕ) (s : Span) →
    list_all (is_within size) spans ≡ true
    → i < length spans → s ≡ get_or spans i s → is_within size s ≡ true
span_within size spans i s h lt is = subst (λ (x : Span). is_within size x ≡ true) (sym is)
    (at_index spans i h lt)
  where
    at_index : (ss : List Span) (i : ℕ) → list_all (is_within size) ss ≡ true → i < length ss
        → is_within size (get_or ss i s) ≡ true
    at_index [] i h lt = absurd (omega arith)
    at_index (x ∷ xs) zero h lt = (and_parts (is_within size x) (list_all (is_within size) xs) h).0
    at_index (x ∷ xs) (suc i) h lt =
        at_index xs i (and_parts (is_within size x) (list_all (is_within size) xs) h).1
        (omega arith)

-- the first i + 1 elements
pub elements_in-more : (bytes : List ℕ) (spans : List Span) (i : ℕ) (s : Span) → i < length spans
    → s ≡ get_or spans i s
    → elements_in bytes (take (i + 1) spans) ≡ elements_in bytes (take i spans)
    ++ element_at bytes s ∷ []
elements_in-more bytes spans i s lt is =
    ap (elements_in bytes) (take_more spans i s lt) ∙ map_push (element_at bytes) (take i spans)
    (get_or spans i s)
    ∙ ap (λ (x : Span). elements_in bytes (take i spans) ++ element_at bytes x ∷ []) (sym is)

-- the spelling of the first i + 1 elements
pub body-more : (bytes : List ℕ) (spans : List Span) (i : ℕ) (s : Span) → i < length spans →
    s ≡ get_or spans i s
    → body (elements_in bytes (take (i + 1) spans)) ≡ body (elements_in bytes (take i spans))
    ++ spelled (element_at bytes s)
body-more bytes spans i s lt is =
    let front = elements_in bytes (take i spans) in
    let e = element_at bytes s in
    ap body (elements_in-more bytes spans i s lt is) ∙ flat_map-append spelled front (e ∷ [])
    ∙ ap (λ (t : List ℕ). body front ++ t) (append-nil (spelled e))

pub numbers_of-more : (spans : List Span) (i : ℕ) (s : Span) → i < length spans →
    s ≡ get_or spans i s
    → numbers_of (take (i + 1) spans) ≡ numbers_of (take i spans) ++ s.number ∷ []
numbers_of-more spans i s lt is =
    ap numbers_of (take_more spans i s lt) ∙ map_push (λ (x : Span). x.number) (take i spans)
    (get_or spans i s)
    ∙ ap (λ (x : Span). numbers_of (take i spans) ++ x.number ∷ []) (sym is)

-- the element at an index
pub element_of_span : (bytes : List ℕ) (spans : List Span) (i : ℕ) (s : Span) (d : ℕ × List ℕ) →
    i < length spans
    → s ≡ get_or spans i s → get_or (elements_in bytes spans) i d ≡ element_at bytes s
element_of_span bytes spans i s d lt is =
    get_or-map (element_at bytes) spans i s d lt ∙ ap (element_at bytes) (sym is)

fits_at : (bytes : List ℕ) (spans : List Span) (i : ℕ) (d : Span) →
    list_all is_element (elements_in bytes spans) ≡ true
    → i < length spans → is_element (element_at bytes (get_or spans i d)) ≡ true
fits_at bytes [] i d h lt = absurd (omega arith)
fits_at bytes (x ∷ xs) zero d h lt =
    (and_parts (is_element (element_at bytes x)) (list_all is_element (elements_in bytes xs)) h).0
fits_at bytes (x ∷ xs) (suc i) d h lt =
    fits_at bytes xs i d (and_parts (is_element (element_at bytes x)) (list_all is_element
    (elements_in bytes xs)) h).1
    (omega arith)

pub element_fits : (bytes : List ℕ) (spans : List Span) (i : ℕ) (s : Span)
    → list_all is_element (elements_in bytes spans) ≡ true → i < length spans → s ≡ get_or spans i s
    → is_element (element_at bytes s) ≡ true
element_fits bytes spans i s h lt is =
    subst (λ (x : Span). is_element (element_at bytes x) ≡ true) (sym is)
    (fits_at bytes spans i s h lt)

pub numbers-elements_in : (bytes : List ℕ) (spans : List Span) →
    numbers (elements_in bytes spans) ≡ numbers_of spans
numbers-elements_in bytes [] = refl
numbers-elements_in bytes (s ∷ ss) = ap (λ (ns : List ℕ). s.number ∷ ns)
    (numbers-elements_in bytes ss)

-- the numbers of a message's elements
pub numbers_of_range : (bytes : List ℕ) (spans : List Span) →
    list_all is_element (elements_in bytes spans) ≡ true
    → list_all (is_in_range 2 128) (numbers_of spans) ≡ true
numbers_of_range bytes [] h = refl
numbers_of_range bytes (s ∷ ss) h =
    let p = and_parts (is_element (element_at bytes s)) (list_all is_element (elements_in bytes ss))
    h in
    let format = format_of_element s.number (take s.len (drop s.start bytes)) p.0 in
    let bounds = format_in_bounds s.number format.0 format.1 in
    and_from (is_in_range 2 128 s.number) (list_all (is_in_range 2 128) (numbers_of ss))
    (and_from (leb 2 s.number) (leb s.number 128) (le-leb 2 s.number bounds.1)
    (le-leb s.number 128 bounds.2))
    (numbers_of_range bytes ss p.1)

in_range_at : (spans : List Span) (i : ℕ) (d : Span) →
    list_all (is_in_range 2 128) (numbers_of spans) ≡ true
    → i < length spans → is_in_range 2 128 (get_or spans i d).number ≡ true
in_range_at [] i d h lt = absurd (omega arith)
in_range_at (x ∷ xs) zero d h lt =
    (and_parts (is_in_range 2 128 x.number) (list_all (is_in_range 2 128) (numbers_of xs)) h).0
in_range_at (x ∷ xs) (suc i) d h lt =
    in_range_at xs i d
    (and_parts (is_in_range 2 128 x.number) (list_all (is_in_range 2 128) (numbers_of xs)) h).1
    (omega arith)

pub number_in_range : (spans : List Span) (i : ℕ) (s : Span) →
    list_all (is_in_range 2 128) (numbers_of spans) ≡ true
    → i < length spans → s ≡ get_or spans i s → (2 ≤ s.number) × (s.number ≤ 128)
number_in_range spans i s h lt is =
    let here = subst (λ (x : Span). is_in_range 2 128 x.number ≡ true) (sym is)
    (in_range_at spans i s h lt) in
    let p = and_parts (leb 2 s.number) (leb s.number 128) here in
    (leb-true 2 s.number p.0, leb-true s.number 128 p.1)

-- ---- in order

dropped : (bytes : List ℕ) (spans : List Span) (i : ℕ) (d : Span) → i < length spans
    → elements_in bytes (drop i spans) ≡ element_at bytes (get_or spans i d) ∷ elements_in bytes
    (drop
    (i + 1) spans)
dropped bytes spans i d lt = ap (elements_in bytes) (drop_more spans i d lt)

halves : (bytes : List ℕ) (spans : List Span) (i : ℕ)
    → elements_in bytes spans ≡ elements_in bytes (take i spans) ++ elements_in bytes (drop i spans)
halves bytes spans i =
    ap (elements_in bytes) (sym (take-append-drop i spans))
    ∙ map-append (element_at bytes) (take i spans) (drop i spans)

pub place_at : (bytes : List ℕ) (spans : List Span) (n i : ℕ) (s : Span) → i < length spans →
    s ≡ get_or spans i s
    → list_all (is_below n) (elements_in bytes (take i spans)) ≡ true → n ≤ s.number
    → IsPlace (elements_in bytes spans) n i
place_at bytes spans n i s lt is h le = record {
  within = simp length-map (omega arith);
  before = rw (take-map (element_at bytes) i spans) h;
  after = subst (λ (x : List (ℕ × List ℕ)). StartsFrom n x)
      (sym (drop-map (element_at bytes) i spans ∙ dropped bytes spans i s lt))
      (subst (λ (x : Span). n ≤ x.number) is le);
}

pub found_at : (bytes : List ℕ) (spans : List Span) (i : ℕ) (s : Span) (n : ℕ)
    → content_of (elements_in bytes (take i spans)) n ≡ None → i < length spans →
    s ≡ get_or spans i s →
    s.number ≡ n
    → content_of (elements_in bytes spans) n ≡ Some (take s.len (drop s.start bytes))
found_at bytes spans i s n h lt is same =
    let there : elements_in bytes (drop i spans) ≡ element_at bytes s ∷ elements_in bytes
    (drop (i + 1) spans) =
    dropped bytes spans i s lt
    ∙ ap (λ (x : Span). element_at bytes x ∷ elements_in bytes (drop (i + 1) spans)) (sym is) in
    ap (λ (x : List (ℕ × List ℕ)). content_of x n) (halves bytes spans i)
    ∙ content_past (elements_in bytes (take i spans)) (elements_in bytes (drop i spans)) n h
    ∙ ap (λ (x : List (ℕ × List ℕ)). content_of x n) there ∙ rw (eq-eqb n s.number (sym same)) refl

pub past_at : (bytes : List ℕ) (spans : List Span) (i : ℕ) (s : Span) (n : ℕ)
    → content_of (elements_in bytes (take i spans)) n ≡ None → i < length spans →
    s ≡ get_or spans i s →
    s.number ≢ n
    → content_of (elements_in bytes (take (i + 1) spans)) n ≡ None
past_at bytes spans i s n h lt is other =
    let ne : n ≢ s.number = λ x. other (sym x) in
    ap (λ (x : List (ℕ × List ℕ)). content_of x n) (elements_in-more bytes spans i s lt is)
    ∙ content_past (elements_in bytes (take i spans)) (element_at bytes s ∷ []) n h
    ∙ rw (ne_eqb n s.number ne) refl

pub place_in : (bytes : List ℕ) (ss spans : List Span) (n i : ℕ) → ss ≡ spans →
    IsPlace (elements_in bytes ss) n i
    → IsPlace (elements_in bytes spans) n i
place_in bytes ss spans n i e p = subst (λ (x : List Span). IsPlace (elements_in bytes x) n i) e p
