-- Numbered rows that pass, each with its rowid, in the order of their list.
use Rattle.std.proofs.Common.{◌≡◌, ◌<◌, ◌≤◌, ◌+◌, ℕ, zero, suc, pos, Bool, true, false}
use Rattle.std.proofs.Common.{cond, List, [], ◌∷◌, drop, map, filter, nat_lt, refl, ap}
use Rattle.std.proofs.Common.{◌∙◌, arith}
use Rattle.std.specs.List.{AllByRecursion}
use Rattle.std.proofs.lemmas.Bool.Decides.{nat_tests}
use Rattle.sqlite_value.specs.declared.value.Value.TheVariants.{Int}
use Rattle.sqlite_value.specs.Order.{Row}
use Rattle.sqlite_trees.specs.Tree.{IsAscending}
use Rattle.sqlite_trees.proofs.ListLemmas.{ascending-filter}
use Rattle.row_lemmas.specs.Numbered.{numbered_from}
use Rattle.acq_sql_reads.proofs.RisingNumbers.{Precedes}

is_before : (m n : ℕ) → m < n → nat_lt m n ≡ true
is_before m n low = grind (arith, nat_tests)

not_before : (m n : ℕ) → m ≤ n → nat_lt n m ≡ false
not_before m n low = grind (arith, nat_tests)

module _ {X : Type 0} where
  -- the elements, each with the rowid of its row
  abbrev pub placed_from : ℕ → List X → List (ℕ × X)
  placed_from n [] = []
  placed_from n (x ∷ xs) = (n, x) ∷ placed_from (suc n) xs

  abbrev pub placed_row : (X → Row) → ℕ × X → Row
  placed_row row_of p = Int (pos p.0) ∷ row_of p.1

  pub rows_placed : (row_of : X → Row) (n : ℕ) (xs : List X)
      → numbered_from n (map row_of xs) ≡ map (placed_row row_of) (placed_from n xs)
  rows_placed row_of n [] = refl
  rows_placed row_of n (x ∷ xs) =
      ap (λ l. (Int (pos n) ∷ row_of x) ∷ l) (rows_placed row_of (suc n) xs)

  -- what is shown of those that pass has nothing of the rowids
  pub passing_placed : {A : Type 0} (g : X → A) (q : X → Bool) (n : ℕ) (xs : List X)
      → map (λ p. g p.1) (filter (λ p. q p.1) (placed_from n xs)) ≡ map g (filter q xs)
  passing_placed g q n [] = refl
  passing_placed g q n (x ∷ xs) =
      let later = passing_placed g q (suc n) xs in
      let those = filter (λ (p : ℕ × X). q p.1) (placed_from (suc n) xs) in
      elim (q x)
      as (λ b. map (λ (p : ℕ × X). g p.1) (cond b ((n, x) ∷ those) those)
      ≡ map g (cond b (x ∷ filter q xs) (filter q xs)))
      [ true ↦ ap (λ l. g x ∷ l) later | false ↦ later ]

  -- those behind so many rows have rowids above that number
  all_behind : (n k : ℕ) (xs : List X) → n < k
      → filter (λ p. nat_lt n p.0) (placed_from k xs) ≡ placed_from k xs
  all_behind n k [] low = refl
  all_behind n k (x ∷ xs) low =
      rw (is_before n k low) (ap (λ l. (k, x) ∷ l) (all_behind n (suc k) xs (omega arith)))

  all_placed : {A : Type 0} (g : X → A) (k : ℕ) (xs : List X)
      → map (λ p. g p.1) (placed_from k xs) ≡ map g xs
  all_placed g k [] = refl
  all_placed g k (x ∷ xs) = ap (λ l. g x ∷ l) (all_placed g (suc k) xs)

  pub behind_placed : {A : Type 0} (g : X → A) (rows n k : ℕ) (xs : List X) → n ≡ rows + k
      → map (λ p. g p.1) (filter (λ p. nat_lt n p.0) (placed_from (suc k) xs))
      ≡ map g (drop rows xs)
  behind_placed g zero n k xs is =
      ap (map (λ (p : ℕ × X). g p.1)) (all_behind n (suc k) xs (omega arith))
      ∙ all_placed g (suc k) xs
  behind_placed g (suc rows) n k [] is = refl
  behind_placed g (suc rows) n k (x ∷ xs) is =
      rw (not_before (suc k) n (omega arith)) (behind_placed g rows n (suc k) xs (omega arith))

  -- ---- the rowids rise

  abbrev Rises : List (ℕ × X) → Type 0
  Rises = IsAscending (Precedes (λ (p : ℕ × X). p.0))

  all_after : (m n : ℕ) (xs : List X) → m < n → AllByRecursion (λ (p : ℕ × X). m < p.0)
      (placed_from n xs)
  all_after m n [] low = tt
  all_after m n (x ∷ xs) low = (low, all_after m (suc n) xs (omega arith))

  placed_rise : (n : ℕ) (xs : List X) → Rises (placed_from n xs)
  placed_rise n [] = tt
  placed_rise n (x ∷ xs) = (all_after n (suc n) xs (omega arith), placed_rise (suc n) xs)

  pub passing_rise : (q : ℕ × X → Bool) (n : ℕ) (xs : List X)
      → Rises (filter q (placed_from n xs))
  passing_rise q n xs =
      ascending-filter (Precedes (λ (p : ℕ × X). p.0)) q (placed_from n xs) (placed_rise n xs)
