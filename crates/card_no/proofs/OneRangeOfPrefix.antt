-- In a list of ranges at most one holds a prefix.
use Rattle.std.proofs.Common.{◌≡◌, ℕ, zero, suc, true, List, [], ◌∷◌}
use Rattle.std.proofs.Common.{Option, Some, None, sym, subst, ◌∙◌, arith}
use Rattle.std.specs.List.{list_all, Contains}
use Rattle.std.proofs.lemmas.Bool.{and_parts}
use Rattle.card_no.specs.declared.range.Range.{Range}
use Rattle.card_no.proofs.RangeEnds.{holds_parts, before_lt}
use Rattle.card_no.specs.Ranges.{is_valid_range, holds_prefix, is_before, are_apart}
use Rattle.card_no.specs.Ranges.{are_ranges, range_of_prefix, IsRangeOf}
use Rattle.card_no.proofs.ElementsThatPass.{all-contains}
use Rattle.card_no.proofs.FirstThatPasses.{find-none, find-passes, find-contains}

-- two ranges that hold a prefix are one
pub holds_one : (rs : List Range) (p : ℕ) (r s : Range) → are_apart rs ≡ true → Contains rs r →
    Contains rs s
    → holds_prefix p r ≡ true → holds_prefix p s ≡ true → s ≡ r
holds_one [] p r s apart (k, lt, e) b h g = absurd (omega arith)
holds_one (x ∷ rs) p r s apart (zero, lt, e) (zero, lt2, e2) h g = sym e2 ∙ e
holds_one (x ∷ rs) p r s apart (zero, lt, e) (suc j, lt2, e2) h g =
    let parts = and_parts (list_all (is_before x) rs) (are_apart rs) apart in
    let first = before_lt x s (all-contains (is_before x) rs s parts.0 (j, omega arith, e2)) in
    let high = (holds_parts p x (subst (λ (y : Range). holds_prefix p y ≡ true) (sym e) h)).1 in
    let low = (holds_parts p s g).0 in
    absurd (omega arith)
holds_one (x ∷ rs) p r s apart (suc k, lt, e) (zero, lt2, e2) h g =
    let parts = and_parts (list_all (is_before x) rs) (are_apart rs) apart in
    let first = before_lt x r (all-contains (is_before x) rs r parts.0 (k, omega arith, e)) in
    let high = (holds_parts p x (subst (λ (y : Range). holds_prefix p y ≡ true) (sym e2) g)).1 in
    let low = (holds_parts p r h).0 in
    absurd (omega arith)
holds_one (x ∷ rs) p r s apart (suc k, lt, e) (suc j, lt2, e2) h g =
    let parts = and_parts (list_all (is_before x) rs) (are_apart rs) apart in
    holds_one rs p r s parts.1 (k, omega arith, e) (j, omega arith, e2) h g

pub range_is_one : (rs : List Range) (p : ℕ) (o : Option Range) → are_ranges rs ≡ true →
    o ≡ range_of_prefix rs p
    → IsRangeOf rs p o
range_is_one rs p None h e = find-none (holds_prefix p) rs (sym e)
range_is_one rs p (Some r) h e =
    let apart = (and_parts (list_all is_valid_range rs) (are_apart rs) h).1 in
    let there = find-contains (holds_prefix p) rs r (sym e) in
    let here = find-passes (holds_prefix p) rs r (sym e) in
    (there, here, λ s in-list holds. holds_one rs p r s apart there in-list here holds)
