use Rattle.std.proofs.Common.{◌∙◌, ap, sym}
use Rattle.std.specs.Option.{option_copied}
use Rattle.std.proofs.lemmas.Bool.{ltb-true, ltb-false}
use Rattle.card_no.proofs.FirstInOrder.{first_overlaps, first_fails, none_overlaps, not_below}
use Rattle.card_no.proofs.range_list.overlapping_in.Goals as goal

pub returns-in_err-nearest : goal.returns-in_err-nearest
returns-in_err-nearest c =
    let past = ltb-false _ _ (sym c.in_err-nearest.ensures.lookup.0) in
    ap option_copied c.from_residual.ensures
    ∙ sym (none_overlaps c.args.ranges.now c.args.low c.args.high c.ended_below.result past
    c.ended_below.ensures.ended)

pub returns-then-overlaps : goal.returns-then-overlaps
returns-then-overlaps c =
    let found = c.in_ok-nearest.ensures.lookup in
    let r = c.in_ok-nearest.nearest.now in
    sym (first_overlaps c.args.ranges.now c.args.low c.args.high c.ended_below.result r r
    (ltb-true _ _ (sym found.0)) c.ended_below.ensures.ended found.1 (sym c.if-overlaps.ensures))

pub returns-else-overlaps : goal.returns-else-overlaps
returns-else-overlaps c =
    let found = c.in_ok-nearest.ensures.lookup in
    let r = c.in_ok-nearest.nearest.now in
    let within = ltb-true _ _ (sym found.0) in
    let later = not_below c.args.ranges.now c.args.low c.ended_below.result r r within
    c.ended_below.ensures.later found.1 in
    sym (first_fails c.args.ranges.now c.args.low c.args.high c.ended_below.result r r c.requires
    within c.ended_below.ensures.ended later found.1 (sym c.if-overlaps.ensures))
