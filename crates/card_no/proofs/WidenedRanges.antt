-- A widened range holds the prefixes of eight digits that begin as one that it held by six.
use Rattle.std.proofs.Common.{◌≡◌, ℕ, ◌+◌, ◌-◌, ◌*◌, ◌<◌, true, false, List, [], ◌∷◌, get_or, cond}
use Rattle.std.proofs.Common.{Some, refl, ap, ap₂, ◌∙◌, arith}
use Rattle.std.specs.Prelude.{◌&&◌, nat_le, option_map}
use Rattle.std.proofs.lemmas.Bool.Decides.{nat_tests}
use Rattle.card_no.specs.declared.range.Range.{Range}
use Rattle.card_no.specs.Prefix.{six_digits, eight_digits}
use Rattle.card_no.specs.CardNumbers.{is_valid_card, prefix_of_under}
use Rattle.card_no.specs.Ranges.{holds_prefix, range_of_prefix}
use Rattle.card_no.specs.Widening.{widened, widened_ranges, FindsWidened}
use Rattle.card_no.proofs.DigitPlaces.{digit_at, digits_value-take, valid_digits}

-- ---- numbers

low_widened : (low prefix more : ℕ) → more < 100
    → nat_le (low * 100) (prefix * 100 + more) ≡ nat_le low prefix
low_widened low prefix more few = grind (arith, nat_tests, few)

high_widened : (high prefix more : ℕ) → more < 100
    → nat_le (prefix * 100 + more) (high * 100 + 99) ≡ nat_le prefix high
high_widened high prefix more few = grind (arith, nat_tests, few)

pub holds_widened : (r : Range) (prefix more : ℕ) → more < 100
    → holds_prefix (prefix * 100 + more) (widened r) ≡ holds_prefix prefix r
holds_widened r prefix more few =
    ap₂ (λ low high. low && high) (low_widened r.low prefix more few)
    (high_widened r.high prefix more few)

-- a prefix with two digits more finds in the widened ranges what it found without them
pub finds_widened : (ranges : List Range) (prefix more : ℕ) → more < 100
    → range_of_prefix (widened_ranges ranges) (prefix * 100 + more)
    ≡ option_map widened (range_of_prefix ranges prefix)
finds_widened [] prefix more few = refl
finds_widened (r ∷ ranges) prefix more few =
    ap
    (λ holds. cond holds (Some (widened r))
    (range_of_prefix (widened_ranges ranges) (prefix * 100 + more)))
    (holds_widened r prefix more few)
    ∙ elim (holds_prefix prefix r)
    as (λ holds. cond holds (Some (widened r))
    (range_of_prefix (widened_ranges ranges) (prefix * 100 + more))
    ≡ option_map widened (cond holds (Some r) (range_of_prefix ranges prefix))) [
      | true ↦ refl
      | false ↦ finds_widened ranges prefix more few
    ]

-- ---- cards

-- a card's prefix of eight digits is that of six with two digits more
pub prefix_widened : (digits : List ℕ) → is_valid_card digits ≡ true
    → (more : ℕ) × (more < 100)
    × (prefix_of_under eight_digits digits ≡ prefix_of_under six_digits digits * 100 + more)
prefix_widened digits valid =
    let are = valid_digits digits valid in
    let seventh = digit_at digits 6 0 are.2 (omega (arith, are.0)) in
    let eighth = digit_at digits 7 0 are.2 (omega (arith, are.0)) in
    let seven = digits_value-take digits 6 are.2 (omega (arith, are.0)) in
    let eight = digits_value-take digits 7 are.2 (omega (arith, are.0)) in (
      (get_or digits 6 0 - 48) * 10 + (get_or digits 7 0 - 48),
      omega (arith, seventh.1, eighth.1),
      omega (arith, seven, eight),
    )

pub card_finds_widened : FindsWidened
card_finds_widened ranges digits valid =
    let (more, few, is) = prefix_widened digits valid in
    ap (range_of_prefix (widened_ranges ranges)) is
    ∙ finds_widened ranges (prefix_of_under six_digits digits) more few
