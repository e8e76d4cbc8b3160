-- The ranges that a walk gathers, and what it takes that one lies behind them.
use Rattle.std.proofs.Common.{◌≡◌, ℕ, ◌<◌, true, false, leb, ltb, List, [], ◌∷◌, ◌++◌, inl}
use Rattle.std.proofs.Common.{inr, refl, sym, ap, ◌∙◌, append_assoc, append-nil, arith}
use Rattle.std.specs.List.{find, list_all}
use Rattle.std.specs.Option.{is_none}
use Rattle.std.proofs.lemmas.Bool.{and_parts, cases_Bool, le-leb, ltb-false, ltb-true, lt-ltb}
use Rattle.std.proofs.lemmas.Bool.{leb-true}
use Rattle.card_no.specs.declared.range.Range.{Range}
use Rattle.card_no.specs.Prefix.{greatest_prefix}
use Rattle.card_no.specs.Ranges.{between, is_before, is_valid_range, overlaps, with_range}
use Rattle.card_no.proofs.RangeEnds.{ends_in_order}
use Rattle.acq_book.specs.Visits.{SawAll}
use Rattle.acq_range_changes.specs.Gathering.{GathersOne}
use Rattle.acq_range_changes.specs.declared.gathering.Gathered.{Gathered}
use Rattle.acq_range_changes.proofs.Apart.{all_before}
use Rattle.acq_range_changes.proofs.Listed.{ends_at_prefix}

pub all_gathered : (rows : List Range) (v w : Gathered) → SawAll GathersOne rows v w →
    w.is_short ≡ false → w.ranges ≡ v.ranges ++ rows
all_gathered [] v w same short = ap (λ u. u.ranges) (sym same) ∙ sym (append-nil v.ranges)
all_gathered (row ∷ rows) v w (inl (u, seen, rest)) short =
    all_gathered rows u w rest short ∙ ap (λ ranges. ranges ++ rows) seen.0
    ∙ append_assoc v.ranges (row ∷ []) rows
all_gathered (row ∷ rows) v w (inr seen) short = absurd (let a = seen in let b = short in cc)

-- a range that ends before a prefix doesn't reach it
short_of : (low high : ℕ) → high < low → leb low high ≡ false
short_of low high lt = elim (cases_Bool (leb low high)) [
  | inl reaches ↦ let le = leb-true _ _ reaches in absurd (omega arith)
  | inr short ↦ short
]

-- none reaches it, just where each ends before it
pub none_reaches : (xs : List Range) (r : Range) → list_all is_valid_range xs ≡ true →
    is_none (find (overlaps (between r.low greatest_prefix)) xs) ≡ all_before r xs
none_reaches [] r valid = refl
none_reaches (x ∷ xs) r valid =
    let valids = and_parts (is_valid_range x) (list_all is_valid_range xs) valid in
    elim (cases_Bool (ltb x.high r.low)) [
      | inl before ↦
          rw (short_of r.low x.high (ltb-true _ _ before), before) (none_reaches xs r valids.1)
      | inr not_before ↦
          let end = ends_at_prefix x valids.0 in
          let order = ends_in_order x valids.0 in
          rw (
            le-leb r.low x.high (ltb-false _ _ not_before),
            le-leb x.low greatest_prefix (omega arith),
            not_before,
          ) refl
    ]

-- a range behind all is added at the end
pub with_last : (xs : List Range) (r : Range) → list_all is_valid_range xs ≡ true →
    all_before r xs ≡ true → with_range xs r ≡ xs ++ r ∷ []
with_last [] r valid before = refl
with_last (x ∷ xs) r valid before =
    let valids = and_parts (is_valid_range x) (list_all is_valid_range xs) valid in
    let befores = and_parts (is_before x r) (all_before r xs) before in
    let order = ends_in_order x valids.0 in
    let lt = ltb-true _ _ befores.0 in
    rw (lt-ltb x.low r.low (omega arith))
    (ap (λ rest. x ∷ rest) (with_last xs r valids.1 befores.1))
