-- What the tests of ranges say of their ends.
use Rattle.std.proofs.Common.{◌≡◌, ℕ, ◌<◌, ◌≤◌, true, leb}
use Rattle.std.specs.Prelude.{◌&&◌}
use Rattle.std.proofs.lemmas.Bool.{and_parts, ltb-true, leb-true}
use Rattle.card_no.specs.declared.range.Range.{Range}
use Rattle.card_no.specs.Prefix.{greatest_prefix}
use Rattle.card_no.specs.Ranges.{is_issuer, is_valid_range, holds_prefix, is_before}

pub ends_in_order : (r : Range) → is_valid_range r ≡ true → r.low ≤ r.high
ends_in_order r h =
    let a = and_parts
    (leb r.low r.high && leb r.high greatest_prefix && is_issuer r.issuer && leb 1 r.hold_days)
    (leb r.hold_days 31) h in
    let b = and_parts (leb r.low r.high && leb r.high greatest_prefix && is_issuer r.issuer)
    (leb 1 r.hold_days) a.0 in
    let c = and_parts (leb r.low r.high && leb r.high greatest_prefix) (is_issuer r.issuer) b.0 in
    leb-true _ _ (and_parts (leb r.low r.high) (leb r.high greatest_prefix) c.0).0

pub holds_parts : (p : ℕ) (r : Range) → holds_prefix p r ≡ true → (r.low ≤ p) × (p ≤ r.high)
holds_parts p r h = let parts = and_parts (leb r.low p) (leb p r.high) h in
    (leb-true _ _ parts.0, leb-true _ _ parts.1)

pub before_lt : (a b : Range) → is_before a b ≡ true → a.high < b.low
before_lt a b h = ltb-true _ _ h
