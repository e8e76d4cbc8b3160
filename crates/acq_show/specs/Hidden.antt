-- What two messages that are shown alike may differ in.
use Rattle.std.specs.Prelude.{◌≡◌, ℕ, ◌-◌, ◌⊎◌, List, [], ◌∷◌, length, take, drop, Option, Some}
use Rattle.std.specs.Prelude.{None}
use Rattle.card_no.specs.Track2.{track2_of}

-- as many digits, and the same first six and last four
pub record LookAlike (number other : List ℕ) : Type 0 where
  pub size : length number ≡ length other
  pub first : take 6 number ≡ take 6 other
  pub last : drop (length number - 4) number ≡ drop (length other - 4) other

-- card numbers that look alike, and as many bytes behind them; or no card number in either
abbrev pub PartsLookAlike : Option (List ℕ × List ℕ) → Option (List ℕ × List ℕ) → Type 0
PartsLookAlike None None = Unit {0}
PartsLookAlike (Some p) (Some q) = LookAlike p.0 q.0 × (length p.1 ≡ length q.1)
PartsLookAlike None (Some q) = ⊥
PartsLookAlike (Some p) None = ⊥

-- Two contents of element n differ in what is hidden alone: the digits of a card number (2), track
-- 2 (35), track 1 (45), the PIN block (52), chip data (55).
pub data DifferHidden (n : ℕ) (content other : List ℕ) : Type 0 where
  Equal : (content ≡ other) → DifferHidden n content other
  CardNumbers : (n ≡ 2) → LookAlike content other → DifferHidden n content other
  Tracks : (n ≡ 35) → (length content ≡ length other)
      → PartsLookAlike (track2_of content) (track2_of other) → DifferHidden n content other
  Lengths : ((n ≡ 45) ⊎ ((n ≡ 52) ⊎ (n ≡ 55))) → (length content ≡ length other)
      → DifferHidden n content other

-- the same elements, each of contents that differ in what is hidden alone
abbrev pub EachDiffersHidden : List (ℕ × List ℕ) → List (ℕ × List ℕ) → Type 0
EachDiffersHidden [] [] = Unit {0}
EachDiffersHidden (e ∷ es) (f ∷ fs) =
    (e.0 ≡ f.0) × DifferHidden e.0 e.1 f.1 × EachDiffersHidden es fs
EachDiffersHidden [] (f ∷ fs) = ⊥
EachDiffersHidden (e ∷ es) [] = ⊥
