use Rattle.std.proofs.Common.{◌≡◌, ◌∙◌, sym, ap, subst, true, List, None}
use Rattle.std.specs.List.{insert}
use Rattle.card_no.specs.declared.range.Range.{Range}
use Rattle.card_no.specs.Ranges.{are_ranges, is_valid_range, overlapped_by, with_range}
use Rattle.card_no.proofs.OneRangeMore.{ranges_with}
use Rattle.card_no.proofs.range_list.RangeList.add.Goals as goal

pub invariant_of-self-2 : goal.invariant_of-self-2
invariant_of-self-2 c =
    let rs = c.self.inside.ranges.items in
    let r = c.args.range in
    let valid : is_valid_range r ≡ true = sym c.is_valid.ensures ∙ c.if-not-is_valid.false in
    let free : overlapped_by r rs ≡ None = ap (overlapped_by r) c.self.view_is
    ∙ sym c.in_default.ensures in
    let put : insert rs c.place-place.result r ≡ with_range rs r =
    subst (λ (l : List Range). insert l c.place-place.result r ≡ with_range l r)
    c.as_slice.ensures.value
    c.place-place.ensures.put in
    let items = c.in_ok-insert.ensures.items ∙ put in
    subst (λ (l : List Range). are_ranges l ≡ true) (sym items)
    (ranges_with rs r c.self.invariant valid free)
