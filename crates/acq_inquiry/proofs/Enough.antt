-- A search that is known to find more requests than so many.
use Rattle.std.proofs.Common.{◌≡◌, ◌∙◌, ◌++◌, ◌∷◌, ◌+◌, ◌≤◌, ◌<◌, ◌*◌, ℕ, Bool, true, false, List}
use Rattle.std.proofs.Common.{[], cond, refl, sym, ap, arith, length, take, drop, take-append-drop}
use Rattle.std.specs.Prelude.{◌==◌, ◌&&◌, ◌||◌, flat_map, nat_lt, Option, Some, None}
use Rattle.std.specs.Str.{bytes_eq}
use Rattle.std.proofs.lemmas.Bool.Decides.{nat_tests}
use Rattle.std.proofs.lemmas.List.{length-append}
use Rattle.std.proofs.lemmas.List.Concat.{flat_map-append}
use Rattle.std.proofs.lemmas.List.Folds.{list_any-append}
use Rattle.acq_core.specs.declared.request.Request.{Request}
use Rattle.acq_core.specs.Tables.{Tables}
use Rattle.acq_inquiry.specs.declared.inquiry.Inquiry.{Inquiry}
use Rattle.acq_inquiry.specs.declared.search.Search.{Search}
use Rattle.acq_inquiry.specs.Gathering.{place_if, references_if, row_if}
use Rattle.acq_inquiry.specs.Inquiries.{found_at, is_asked, is_found, is_one_of, reference_if}
use Rattle.acq_inquiry.specs.Inquiries.{references_of}
use Rattle.acq_inquiry.specs.Searching.{IsSearched, IsWhole, given_from}
use Rattle.acq_inquiry.proofs.Gathered.{given_twice}
use Rattle.acq_inquiry.proofs.Searched.{as_many, related_whole, rows_among, whole_many}

-- ---- by more references more are found

one_of_more : (some more : List ℕ) (o : Option ℕ) → is_one_of some o ≡ true →
    is_one_of (some ++ more) o ≡ true
one_of_more some more None is = is
one_of_more some more (Some n) is =
    list_any-append (λ other. other == n) some more
    ∙ ap (λ b. b || is_one_of more (Some n)) is

found_by_more : (inquiry : Inquiry) (some more : List ℕ) (row : Request) →
    is_found inquiry some row ≡ true → is_found inquiry (some ++ more) row ≡ true
found_by_more inquiry some more row =
    go (is_asked inquiry row) (is_one_of some row.reference) (is_one_of some row.follows)
    (is_one_of (some ++ more) row.reference) (is_one_of (some ++ more) row.follows)
    (one_of_more some more row.reference) (one_of_more some more row.follows)
  where
    go : (a b c d e : Bool) → (b ≡ true → d ≡ true) → (c ≡ true → e ≡ true) →
        (a || b || c) ≡ true → (a || d || e) ≡ true
    go true b c d e first second is = refl
    go false true c d e first second is = ap (λ x. x || e) (first refl)
    go false false c true e first second is = refl
    go false false c false e first second is = second is

module _ (merchant : List ℕ) (inquiry : Inquiry) where
  abbrev mine : Request → Bool
  mine row = bytes_eq row.key.merchant merchant

  abbrev rows_by : List ℕ → List Request → List Request
  rows_by references = flat_map (row_if merchant inquiry references)

  abbrev referred : List Request → List ℕ
  referred = flat_map (references_if merchant inquiry)

  more_rows : (some more : List ℕ) (rows : List Request) →
      length (rows_by some rows) ≤ length (rows_by (some ++ more) rows)
  more_rows some more [] = omega arith
  more_rows some more (row ∷ rows) =
      go (mine row) (is_found inquiry some row) (is_found inquiry (some ++ more) row)
      (found_by_more inquiry some more row) (more_rows some more rows)
    where
      go : (a b c : Bool) → (b ≡ true → c ≡ true) →
          length (rows_by some rows) ≤ length (rows_by (some ++ more) rows) →
          length (cond (a && b) (row ∷ []) [] ++ rows_by some rows)
          ≤ length (cond (a && c) (row ∷ []) [] ++ rows_by (some ++ more) rows)
      go true true true still rest = omega (arith, rest)
      go true true false still rest = absurd (let no = still refl in cc)
      go true false true still rest = omega (arith, rest)
      go true false false still rest = rest
      go false b c still rest = rest

  -- and among more rows
  first_rows : (references : List ℕ) (n : ℕ) (rows : List Request) →
      length (rows_by references (take n rows)) ≤ length (rows_by references rows)
  first_rows references n rows =
      let f = row_if merchant inquiry references in
      let whole :
      length (rows_by references (take n rows)) + length (rows_by references (drop n rows))
      ≡ length (rows_by references rows) =
      sym (length-append (rows_by references (take n rows)) (rows_by references (drop n rows)))
      ∙ ap length (sym (flat_map-append f (take n rows) (drop n rows))
      ∙ ap (flat_map f) (take-append-drop n rows)) in
      omega (arith, whole)

  -- ---- a request has two references at most

  two_at_most : (a b : Option ℕ) → length (reference_if a ++ reference_if b) ≤ 2
  two_at_most None None = omega arith
  two_at_most None (Some y) = omega arith
  two_at_most (Some x) None = omega arith
  two_at_most (Some x) (Some y) = omega arith

  twice_as_many : (references : List ℕ) (rows : List Request) →
      length (referred rows) ≤ 2 * length (rows_by references rows)
  twice_as_many references [] = omega arith
  twice_as_many references (row ∷ rows) =
      go (mine row) (is_asked inquiry row) (is_one_of references row.reference)
      (is_one_of references row.follows) (twice_as_many references rows)
    where
      go : (a b c d : Bool) →
          length (referred rows) ≤ 2 * length (rows_by references rows) →
          length (cond (a && b) (references_of row) [] ++ referred rows)
          ≤ 2 * length (cond (a && (b || c || d)) (row ∷ []) [] ++ rows_by references rows)
      go true true c d rest =
          let both = length-append (references_of row) (referred rows) in
          let two = two_at_most row.reference row.follows in
          omega (arith, both, two, rest)
      go true false true d rest = omega (arith, rest)
      go true false false true rest = omega (arith, rest)
      go true false false false rest = rest
      go false b c d rest = rest

-- ---- what is known of a search

module _ (t : Tables) (s : Search) (is : IsSearched t s) where
  abbrev found : List Request
  found = found_at t s.merchant s.inquiry

  -- the references of the requests that it has not seen
  abbrev unseen : List ℕ
  unseen = referred s.merchant s.inquiry (drop s.seen t.requests)

  all_references : s.references.items ++ unseen ≡ referred s.merchant s.inquiry t.requests
  all_references =
      ap (λ xs. xs ++ unseen) is.references
      ∙ sym (flat_map-append (references_if s.merchant s.inquiry) (take s.seen t.requests)
      (drop s.seen t.requests))
      ∙ ap (referred s.merchant s.inquiry) (take-append-drop s.seen t.requests)

  found_rows : rows_by s.merchant s.inquiry (s.references.items ++ unseen) t.requests ≡ found
  found_rows = rows_among t s.merchant s.inquiry (s.references.items ++ unseen)
      (all_references ∙ related_whole t s.merchant s.inquiry)

  places_found : length s.places.items ≤ length found
  places_found =
      let places = ap length is.places
      ∙ as_many s.merchant s.inquiry s.references.items 0 (take s.looked t.requests) in
      let some = first_rows s.merchant s.inquiry s.references.items s.looked t.requests in
      let more = more_rows s.merchant s.inquiry s.references.items unseen t.requests in
      let all = ap length found_rows in
      omega (arith, places, some, more, all)

  references_found : length s.references.items ≤ 2 * length found
  references_found =
      let twice = twice_as_many s.merchant s.inquiry (s.references.items ++ unseen) t.requests in
      let parts = ap length (sym all_references) ∙ length-append s.references.items unseen in
      let all = ap length found_rows in
      omega (arith, twice, parts, all)

  pub more_places : (most : ℕ) → nat_lt most (length s.places.items) ≡ true →
      nat_lt most (length found) ≡ true
  more_places most h = let l = places_found in grind (arith, nat_tests, h, l)

  pub more_references : (most : ℕ) → 2 * most < length s.references.items →
      nat_lt most (length found) ≡ true
  more_references most h = let l = references_found in grind (arith, nat_tests, h, l)

-- a search that has gone over all requests has as many places
pub finds_no_more : (t : Tables) (s : Search) → IsWhole t s → (most : ℕ) →
    nat_lt most (length s.places.items) ≡ false →
    nat_lt most (length (found_at t s.merchant s.inquiry)) ≡ false
finds_no_more t s is most h = ap (nat_lt most) (sym (whole_many t s is)) ∙ h
