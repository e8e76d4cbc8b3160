-- A list without a range is a list of ranges.
use Rattle.std.proofs.Common.{◌≡◌, ℕ, ◌≤◌, true, Bool, eqb, List, [], ◌∷◌}
use Rattle.std.proofs.Common.{Some, refl, sym, ap, arith, inl}
use Rattle.std.proofs.Common.{inr}
use Rattle.std.specs.Prelude.{not}
use Rattle.std.specs.List.{list_all, filter, position, remove}
use Rattle.std.proofs.lemmas.Bool.{and_parts, and_from, cases_Bool}
use Rattle.std.proofs.lemmas.Bool.{eqb-true, ne_eqb}
use Rattle.card_no.specs.declared.range.Range.{Range}
use Rattle.card_no.proofs.RangeEnds.{ends_in_order, before_lt}
use Rattle.card_no.specs.Ranges.{is_valid_range, has_ends, is_before, are_apart}
use Rattle.card_no.specs.Ranges.{are_ranges, without_range}
use Rattle.card_no.proofs.ElementsThatPass.{all-weaker, all-filter, filter-all}
use Rattle.card_no.proofs.FirstThatPasses.{position-cons}
use Rattle.card_no.proofs.FirstThatPasses.{position-first}

apart_filter : (q : Range → Bool) (rs : List Range) → are_apart rs ≡ true →
    are_apart (filter q rs) ≡ true
apart_filter q [] h = refl
apart_filter q (r ∷ rs) h =
    let parts = and_parts (list_all (is_before r) rs) (are_apart rs) h in
    elim (cases_Bool (q r)) [
      | inl kept ↦ rw kept
          (and_from (list_all (is_before r) (filter q rs)) (are_apart (filter q rs))
          (all-filter (is_before r) q rs parts.0) (apart_filter q rs parts.1))
      | inr gone ↦ rw gone (apart_filter q rs parts.1)
    ]

pub ranges_without : (rs : List Range) (low high : ℕ) → are_ranges rs ≡ true →
    are_ranges (without_range rs low high)
    ≡ true
ranges_without rs low high h =
    let parts = and_parts (list_all is_valid_range rs) (are_apart rs) h in
    and_from (list_all is_valid_range (without_range rs low high))
    (are_apart (without_range rs low high))
    (all-filter is_valid_range (λ r. not (has_ends low high r)) rs parts.0)
    (apart_filter (λ r. not (has_ends low high r)) rs parts.1)

-- a range behind one with these ends has others
other_ends : (low high : ℕ) (r s : Range) → has_ends low high r ≡ true → r.low ≤ r.high →
    is_before r s ≡ true
    → not (has_ends low high s) ≡ true
other_ends low high r s h le before =
    let same = eqb-true r.low low (and_parts (eqb r.low low) (eqb r.high high) h).0 in
    let lt = before_lt r s before in
    rw (ne_eqb s.low low (omega arith)) refl

pub removed_at : (rs : List Range) (low high i : ℕ) → are_ranges rs ≡ true →
    position (has_ends low high) rs ≡ Some i
    → remove rs i ≡ without_range rs low high
removed_at [] low high i h at = absurd cc
removed_at (r ∷ rs) low high i h at =
    let parts = and_parts (list_all is_valid_range (r ∷ rs)) (are_apart (r ∷ rs)) h in
    let valid = and_parts (is_valid_range r) (list_all is_valid_range rs) parts.0 in
    let apart = and_parts (list_all (is_before r) rs) (are_apart rs) parts.1 in
    elim (cases_Bool (has_ends low high r)) [
      | inl here ↦
          let first : i ≡ 0 = position-first (has_ends low high) r rs i at here in
          let le = ends_in_order r valid.0 in
          let others : filter (λ s. not (has_ends low high s)) rs ≡ rs =
          filter-all (λ s. not (has_ends low high s)) rs
          (all-weaker (is_before r) (λ s. not (has_ends low high s)) rs
          (λ s before. other_ends low high r s here le before) apart.0) in
          rw (first, here) (sym others)
      | inr past ↦
          let next = position-cons (has_ends low high) r rs i at past in
          rw (next.1, past) (ap (λ (l : List Range). r ∷ l)
          (removed_at rs low high next.0
          (and_from (list_all is_valid_range rs) (are_apart rs) valid.1 apart.1)
          next.2))
    ]
