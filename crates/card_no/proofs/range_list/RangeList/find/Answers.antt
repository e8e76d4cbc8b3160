use Rattle.std.proofs.Common.{◌∙◌, ap, List}
use Rattle.card_no.specs.declared.range.Range.{Range}
use Rattle.card_no.specs.Ranges.{range_of_prefix}
use Rattle.card_no.proofs.OneRangeOfPrefix.{range_is_one}
use Rattle.card_no.proofs.range_list.RangeList.find.Goals as goal

pub returns-clause-only : goal.returns-clause-only
returns-clause-only c =
    let is = c.holding.ensures ∙ ap (λ (rs : List Range). range_of_prefix rs c.args.prefix)
    c.as_slice.ensures.value in
    rw (← c.self.view_is)
    (range_is_one c.self.inside.ranges.items c.args.prefix _ c.self.invariant is)
