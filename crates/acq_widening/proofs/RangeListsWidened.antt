-- Widened ranges overlap, stand in order and have their ends just as the ranges do.
use Rattle.std.proofs.Common.{◌≡◌, ℕ, ◌+◌, ◌*◌, ◌<◌, Bool, true, false, ◌&&◌, List, [], ◌∷◌, map}
use Rattle.std.proofs.Common.{Option, Some, None, option_map, find, cond, filter, refl, ap, ap₂, ◌∙◌}
use Rattle.std.proofs.Common.{arith}
use Rattle.std.specs.Prelude.{nat_le, nat_lt, ◌==◌, not}
use Rattle.std.specs.List.{list_all}
use Rattle.std.proofs.lemmas.Bool.{and_parts}
use Rattle.std.proofs.lemmas.Bool.Decides.{nat_tests}
use Rattle.card_no.specs.Prefix.{six_digits, eight_digits}
use Rattle.card_no.specs.declared.range.Range.{Range}
use Rattle.card_no.specs.Ranges.{is_valid_range_under, is_issuer, least_hold_days}
use Rattle.card_no.specs.Ranges.{greatest_hold_days, between, overlaps, overlapped_by, has_ends}
use Rattle.card_no.specs.Ranges.{with_range, without_range}
use Rattle.card_no.specs.Widening.{widened, widened_ranges}

-- ---- numbers

low_below_high : (low high : ℕ) → nat_le (low * 100) (high * 100 + 99) ≡ nat_le low high
low_below_high low high = grind (arith, nat_tests)

still_prefix : (high : ℕ) → nat_le (high * 100 + 99) 99_999_999 ≡ nat_le high 999_999
still_prefix high = grind (arith, nat_tests)

lower : (a b : ℕ) → nat_lt (a * 100) (b * 100) ≡ nat_lt a b
lower a b = grind (arith, nat_tests)

same_low : (a b : ℕ) → (a * 100 == b * 100) ≡ (a == b)
same_low a b = grind (arith, nat_tests)

same_high : (a b : ℕ) → (a * 100 + 99 == b * 100 + 99) ≡ (a == b)
same_high a b = grind (arith, nat_tests)

-- ---- a range

pub valid_widened : (r : Range) →
    is_valid_range_under eight_digits (widened r) ≡ is_valid_range_under six_digits r
valid_widened r =
    ap₂ (λ a b. a && b && is_issuer r.issuer && nat_le least_hold_days r.hold_days
    && nat_le r.hold_days greatest_hold_days) (low_below_high r.low r.high) (still_prefix r.high)

-- the range between two widened ends is what the widened one overlaps alike
pub overlaps_widened : (low high : ℕ) (r : Range) →
    overlaps (between (low * 100) (high * 100 + 99)) (widened r) ≡ overlaps (between low high) r
overlaps_widened low high r =
    ap₂ (λ a b. a && b) (low_below_high low r.high) (low_below_high r.low high)

pub ends_widened : (low high : ℕ) (r : Range) →
    has_ends (low * 100) (high * 100 + 99) (widened r) ≡ has_ends low high r
ends_widened low high r = ap₂ (λ a b. a && b) (same_low r.low low) (same_high r.high high)

-- ---- a list of them

pub overlapped_widened : (low high : ℕ) (rs : List Range) →
    overlapped_by (between (low * 100) (high * 100 + 99)) (widened_ranges rs)
    ≡ option_map widened (overlapped_by (between low high) rs)
overlapped_widened low high [] = refl
overlapped_widened low high (r ∷ rs) =
    let later = overlapped_by (between (low * 100) (high * 100 + 99)) (widened_ranges rs) in
    ap (λ b. cond b (Some (widened r)) later) (overlaps_widened low high r)
    ∙ elim (overlaps (between low high) r)
    as (λ b. cond b (Some (widened r)) later
    ≡ option_map widened (cond b (Some r) (overlapped_by (between low high) rs))) [
      | true ↦ refl
      | false ↦ overlapped_widened low high rs
    ]

pub with_widened : (rs : List Range) (r : Range) →
    with_range (widened_ranges rs) (widened r) ≡ widened_ranges (with_range rs r)
with_widened [] r = refl
with_widened (s ∷ rs) r =
    ap (λ b. cond b (widened s ∷ with_range (widened_ranges rs) (widened r))
    (widened r ∷ widened s ∷ widened_ranges rs)) (lower s.low r.low)
    ∙ elim (nat_lt s.low r.low)
    as (λ b. cond b (widened s ∷ with_range (widened_ranges rs) (widened r))
    (widened r ∷ widened s ∷ widened_ranges rs)
    ≡ widened_ranges (cond b (s ∷ with_range rs r) (r ∷ s ∷ rs))) [
      | true ↦ ap (λ later. widened s ∷ later) (with_widened rs r)
      | false ↦ refl
    ]

pub without_widened : (rs : List Range) (low high : ℕ) →
    without_range (widened_ranges rs) (low * 100) (high * 100 + 99)
    ≡ widened_ranges (without_range rs low high)
without_widened [] low high = refl
without_widened (r ∷ rs) low high =
    let later = without_range (widened_ranges rs) (low * 100) (high * 100 + 99) in
    ap (λ b. cond (not b) (widened r ∷ later) later) (ends_widened low high r)
    ∙ elim (has_ends low high r)
    as (λ b. cond (not b) (widened r ∷ later) later
    ≡ widened_ranges (cond (not b) (r ∷ without_range rs low high) (without_range rs low high))) [
      | true ↦ without_widened rs low high
      | false ↦ ap (λ l. widened r ∷ l) (without_widened rs low high)
    ]

-- ---- what holds of each range holds of each after a change

pub all_with : (p : Range → Bool) (rs : List Range) (r : Range) →
    list_all p rs ≡ true → p r ≡ true → list_all p (with_range rs r) ≡ true
all_with p [] r all new = rw new refl
all_with p (s ∷ rs) r all new =
    let parts = and_parts (p s) (list_all p rs) all in
    elim (nat_lt s.low r.low)
    as (λ b. list_all p (cond b (s ∷ with_range rs r) (r ∷ s ∷ rs)) ≡ true) [
      | true ↦ rw parts.0 (all_with p rs r parts.1 new)
      | false ↦ rw new all
    ]

pub all_without : (p : Range → Bool) (rs : List Range) (low high : ℕ) →
    list_all p rs ≡ true → list_all p (without_range rs low high) ≡ true
all_without p [] low high all = refl
all_without p (r ∷ rs) low high all =
    let parts = and_parts (p r) (list_all p rs) all in
    elim (has_ends low high r)
    as (λ b. list_all p (cond (not b) (r ∷ without_range rs low high) (without_range rs low high))
    ≡ true) [
      | true ↦ all_without p rs low high parts.1
      | false ↦ rw parts.0 (all_without p rs low high parts.1)
    ]
