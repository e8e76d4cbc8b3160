use Rattle.std.proofs.Common.{◌≡◌, ◌∙◌, sym, ap, refl, subst, true, false, List, Some}
use Rattle.std.specs.List.{position}
use Rattle.std.proofs.lemmas.Bool.{true≢false}
use Rattle.card_no.specs.declared.range.Range.{Range}
use Rattle.card_no.specs.Ranges.{are_ranges, has_ends, has_range}
use Rattle.card_no.proofs.FirstThatPasses.{position-none, position-any}
use Rattle.card_no.proofs.OneRangeLess.{ranges_without, removed_at}
use Rattle.card_no.proofs.range_list.RangeList.remove.Goals as goal

no_range : (c : goal.In_default) → has_range c.args.self.now c.args.low c.args.high ≡ false
no_range c =
    let at = ap (λ (rs : List Range). position (has_ends c.args.low c.args.high) rs)
    (sym c.as_slice.ensures.value)
    ∙ sym c.place_with_ends.ensures ∙ c.in_default.is in
    rw (← c.self.view_is)
    (position-none (has_ends c.args.low c.args.high) c.self.inside.ranges.items at)

pub returns-in_default-clause-there : goal.returns-in_default-clause-there
returns-in_default-clause-there c = ((λ e. absurd (true≢false (sym e))), rw (no_range c) (λ e. cc))

pub returns-in_default-clause-fault : goal.returns-in_default-clause-fault
returns-in_default-clause-fault c = rw (no_range c) refl

found_at : (c : goal.After-drop-remove) →
    position (has_ends c.args.low c.args.high) c.self.inside.ranges.items
    ≡ Some c.in-Some.place
found_at c = ap (λ (rs : List Range). position (has_ends c.args.low c.args.high) rs)
    (sym c.as_slice.ensures.value)
    ∙ sym c.place_with_ends.ensures ∙ c.in-Some.is

pub invariant_of-self : goal.invariant_of-self
invariant_of-self c =
    let rs = c.self.inside.ranges.items in
    let items = c.remove.ensures.items ∙ removed_at rs c.args.low c.args.high c.in-Some.place
    c.self.invariant
    (found_at c) in
    subst (λ (l : List Range). are_ranges l ≡ true) (sym items)
    (ranges_without rs c.args.low c.args.high c.self.invariant)

pub returns-clause-ok : goal.returns-clause-ok
returns-clause-ok c = rw (← c.self.view_is) (c.remove.ensures.items
    ∙ removed_at c.self.inside.ranges.items c.args.low c.args.high c.in-Some.place c.self.invariant
    (found_at c))

pub returns-clause-there : goal.returns-clause-there
returns-clause-there c =
    let there : has_range c.args.self.now c.args.low c.args.high ≡ true =
    rw (← c.self.view_is)
    (position-any (has_ends c.args.low c.args.high) c.self.inside.ranges.items c.in-Some.place
    (found_at c)) in
    ((λ e. rw there refl), (λ e. refl))
