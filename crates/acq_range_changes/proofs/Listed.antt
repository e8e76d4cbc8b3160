-- Ranges of a list hold prefixes alone.
use Rattle.std.proofs.Common.{◌≡◌, ℕ, ◌≤◌, true, leb, List, [], ◌∷◌, None, refl, inl, inr}
use Rattle.std.proofs.Common.{◌<◌, arith, get_or, length, subst, sym}
use Rattle.std.specs.Prelude.{◌&&◌}
use Rattle.std.specs.List.{list_all, find}
use Rattle.std.proofs.lemmas.Bool.{and_parts, cases_Bool, leb-true}
use Rattle.card_no.specs.declared.range.Range.{Range}
use Rattle.card_no.specs.Prefix.{IsPrefix, greatest_prefix}
use Rattle.card_no.specs.Ranges.{are_apart, are_ranges, holds_prefix, is_issuer, is_valid_range}
use Rattle.card_no.specs.Ranges.{range_of_prefix}
use Rattle.card_no.proofs.ElementsThatPass.{all-at}
use Rattle.card_no.proofs.RangeEnds.{ends_in_order, holds_parts}

pub ends_at_prefix : (r : Range) → is_valid_range r ≡ true → r.high ≤ greatest_prefix
ends_at_prefix r valid =
    let a = and_parts
    (leb r.low r.high && leb r.high greatest_prefix && is_issuer r.issuer && leb 1 r.hold_days)
    (leb r.hold_days 31) valid in
    let b = and_parts (leb r.low r.high && leb r.high greatest_prefix && is_issuer r.issuer)
    (leb 1 r.hold_days) a.0 in
    let c = and_parts (leb r.low r.high && leb r.high greatest_prefix) (is_issuer r.issuer) b.0 in
    leb-true _ _ (and_parts (leb r.low r.high) (leb r.high greatest_prefix) c.0).1

none_holds : (rs : List Range) (p : ℕ) → list_all is_valid_range rs ≡ true → ¬ (IsPrefix p) →
    find (holds_prefix p) rs ≡ None
none_holds [] p valid over = refl
none_holds (r ∷ rs) p valid over =
    let parts = and_parts (is_valid_range r) (list_all is_valid_range rs) valid in
    elim (cases_Bool (holds_prefix p r)) [
      | inl here ↦
          let end = ends_at_prefix r parts.0 in
          let within = (holds_parts p r here).1 in
          absurd (over (omega arith))
      | inr past ↦ rw past (none_holds rs p parts.1 over)
    ]

pub no_range_above : (rs : List Range) (p : ℕ) → are_ranges rs ≡ true → ¬ (IsPrefix p) →
    range_of_prefix rs p ≡ None
no_range_above rs p ranges over =
    none_holds rs p (and_parts (list_all is_valid_range rs) (are_apart rs) ranges).0 over

-- a range begins at one
begins_at_prefix : (r : Range) → is_valid_range r ≡ true → IsPrefix r.low
begins_at_prefix r valid =
    let end = ends_at_prefix r valid in
    let order = ends_in_order r valid in
    omega arith

-- so does each range of a list
pub begins_at_prefix_at : (rs : List Range) (r : Range) (k : ℕ) → are_ranges rs ≡ true →
    k < length rs → r ≡ get_or rs k r → IsPrefix r.low
begins_at_prefix_at rs r k ranges within is =
    let valid = (and_parts (list_all is_valid_range rs) (are_apart rs) ranges).0 in
    begins_at_prefix r (subst (λ (x : Range). is_valid_range x ≡ true) (sym is)
    (all-at is_valid_range rs k r valid within))
