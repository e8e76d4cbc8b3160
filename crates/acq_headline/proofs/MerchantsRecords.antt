-- A merchant's records in a clearing file are its postings of the day, in another order.
use Rattle.std.proofs.Common.{◌≡◌, ℕ, List, [], ◌∷◌, Bool, true, false, cond, map, filter, refl}
use Rattle.std.proofs.Common.{sym, ap, subst, ◌∙◌, inl, inr, arith}
use Rattle.std.specs.Prelude.{◌==◌, IsPermutation}
use Rattle.std.specs.List.{Contains}
use Rattle.std.specs.Str.{bytes_eq}
use Rattle.std.proofs.lemmas.Bool.Decides.{nat_tests}
use Rattle.std.proofs.lemmas.List.Sorted.{IsPermutation-refl, IsPermutation-cons}
use Rattle.std.proofs.lemmas.List.Sorted.{IsPermutation-trans, IsPermutation-middle}
use Rattle.std.proofs.lemmas.List.Sorted.{IsPermutation-map, Contains-permutation}
use Rattle.acq_core.specs.declared.posting.Posting.{Posting}
use Rattle.acq_core.specs.Tables.{Tables, postings_of}
use Rattle.acq_soundness.proofs.Lookups.{map-both}
use Rattle.acq_soundness.proofs.Members.{In, In-filter, from_In, filter-filter}
use Rattle.acq_book.specs.Lookups.{is_posting_before, postings_at}
use Rattle.acq_book.specs.Order.{put_in_order, in_order}
use Rattle.acq_clearing.specs.ClearingFile.{posting_fields}
use Rattle.acq_clearing.proofs.ReadBack.{reads_back}
use Rattle.acq_history.specs.DaySums.{postings_on}
use Rattle.acq_headline.specs.ClearedAsTold.{is_record_of, records_at, unnumbered, record_of}

-- ---- what passes a test, in order

module _ {X : Type 0} (p : X → Bool) where
  in_front : (b : Bool) (x : X) (xs ys : List X) → IsPermutation xs ys →
      IsPermutation (cond b (x ∷ xs) xs) (cond b (x ∷ ys) ys)
  in_front true x xs ys same = IsPermutation-cons x xs ys same
  in_front false x xs ys same = same

  behind : (a b : Bool) (x y : X) (xs ys : List X) → IsPermutation (cond a (x ∷ xs) xs) ys →
      IsPermutation (cond a (x ∷ cond b (y ∷ xs) xs) (cond b (y ∷ xs) xs)) (cond b (y ∷ ys) ys)
  behind true true x y xs ys same =
      IsPermutation-trans (x ∷ y ∷ xs) (y ∷ x ∷ xs) (y ∷ ys)
      (IsPermutation-middle (x ∷ []) y xs) (IsPermutation-cons y (x ∷ xs) ys same)
  behind true false x y xs ys same = same
  behind false true x y xs ys same = IsPermutation-cons y xs ys same
  behind false false x y xs ys same = same

  put : (before : X → X → Bool) (x : X) (ys : List X) →
      IsPermutation (filter p (x ∷ ys)) (filter p (put_in_order before x ys))
  put before x [] = IsPermutation-refl (filter p (x ∷ []))
  put before x (y ∷ ys) =
      elim (before y x) as (λ b. IsPermutation (filter p (x ∷ y ∷ ys))
      (filter p (cond b (y ∷ put_in_order before x ys) (x ∷ y ∷ ys)))) [
        | true ↦
            behind (p x) (p y) x y (filter p ys) (filter p (put_in_order before x ys))
            (put before x ys)
        | false ↦ IsPermutation-refl (filter p (x ∷ y ∷ ys))
      ]

  ordered : (before : X → X → Bool) (xs : List X) →
      IsPermutation (filter p xs) (filter p (in_order before xs))
  ordered before [] = IsPermutation-refl []
  ordered before (x ∷ xs) =
      IsPermutation-trans (filter p (x ∷ xs)) (filter p (x ∷ in_order before xs))
      (filter p (put_in_order before x (in_order before xs)))
      (in_front (p x) x (filter p xs) (filter p (in_order before xs)) (ordered before xs))
      (put before x (in_order before xs))

-- ---- what is in a list

in_map : {X Y : Type 0} (f : X → Y) (x : X) (xs : List X) → In x xs → In (f x) (map f xs)
in_map f x [] there = there
in_map f x (y ∷ ys) (inl is) = inl (ap f is)
in_map f x (y ∷ ys) (inr later) = inr (in_map f x ys later)

same_day : (n : ℕ) → (n == n) ≡ true
same_day n = grind (arith, nat_tests)

-- ---- a merchant's records

module _ (m : List ℕ) where
  records_are : (rows : List (ℕ × Posting)) →
      filter (is_record_of m) (map posting_fields rows) ≡ map posting_fields (postings_of m rows)
  records_are [] = refl
  records_are (row ∷ rows) =
      elim (bytes_eq row.1.merchant m) as
      (λ b. cond b (posting_fields row ∷ filter (is_record_of m) (map posting_fields rows))
      (filter (is_record_of m) (map posting_fields rows))
      ≡ map posting_fields (cond b (row ∷ postings_of m rows) (postings_of m rows))) [
        | true ↦ ap (λ l. posting_fields row ∷ l) (records_are rows)
        | false ↦ records_are rows
      ]

  pub in_the_file : (t : Tables) (day : ℕ) →
      IsPermutation (map posting_fields (postings_on day (postings_of m t.postings)))
      (records_at t day m)
  in_the_file t day =
      let mine : ℕ × Posting → Bool = λ row. bytes_eq row.1.merchant m in
      let of_day : ℕ × Posting → Bool = λ row. row.1.day == day in
      let rows = postings_on day (postings_of m t.postings) in
      let shuffled : IsPermutation rows (postings_of m (postings_at t day)) =
      subst (λ l. IsPermutation l (postings_of m (postings_at t day)))
      (filter-filter mine of_day t.postings)
      (ordered mine is_posting_before (postings_on day t.postings)) in
      subst (IsPermutation (map posting_fields rows))
      (sym (ap (filter (is_record_of m)) (reads_back t day) ∙ records_are (postings_at t day)))
      (IsPermutation-map posting_fields rows (postings_of m (postings_at t day)) shuffled)

  -- without their numbers
  pub unnumbered_in_the_file : (t : Tables) (day : ℕ) →
      IsPermutation
      (map record_of (map (λ (row : ℕ × Posting). row.1)
      (postings_on day (postings_of m t.postings))))
      (map unnumbered (records_at t day m))
  unnumbered_in_the_file t day =
      let rows = postings_on day (postings_of m t.postings) in
      subst (λ l. IsPermutation l (map unnumbered (records_at t day m)))
      (map-both unnumbered posting_fields rows
      ∙ sym (map-both record_of (λ (row : ℕ × Posting). row.1) rows))
      (IsPermutation-map unnumbered (map posting_fields rows) (records_at t day m)
      (in_the_file t day))

  -- a posting of the merchant's has its record
  pub has_its_record : (t : Tables) (row : ℕ × Posting) → In row (postings_of m t.postings) →
      Contains (map unnumbered (records_at t row.1.day m)) (record_of row.1)
  has_its_record t row there =
      let day = row.1.day in
      let rows = postings_on day (postings_of m t.postings) in
      let postings = map (λ (x : ℕ × Posting). x.1) rows in
      let of_day = In-filter (λ (x : ℕ × Posting). x.1.day == day) row (postings_of m t.postings)
      there (same_day day) in
      Contains-permutation (map record_of postings) (map unnumbered (records_at t day m))
      (record_of row.1) (unnumbered_in_the_file t day)
      (from_In (record_of row.1) (map record_of postings)
      (in_map record_of row.1 postings (in_map (λ (x : ℕ × Posting). x.1) row rows of_day)))
