use Rattle.std.proofs.Common.{◌∙◌, sym}
use Rattle.std.proofs.lemmas.Bool.{ltb-true, ltb-false}
use Rattle.card_no.proofs.FirstInOrder.{first_has_ends, first_has_other, none_has_ends}
use Rattle.card_no.proofs.FirstInOrder.{not_begun}
use Rattle.card_no.proofs.range_list.place_with_ends.Goals as goal

pub returns-in_err-get : goal.returns-in_err-get
returns-in_err-get c =
    let past = ltb-false _ _ (sym c.in_err-get.ensures.lookup.0) in
    c.from_residual.ensures
    ∙ sym (none_has_ends c.args.ranges.now c.args.low c.args.high c.begun_below-place.result past
    c.begun_below-place.ensures.begun)

pub returns-then-has_ends : goal.returns-then-has_ends
returns-then-has_ends c =
    let found = c.in_ok-get.ensures.lookup in
    let r = c.in_ok-get.field-0.now in
    sym (first_has_ends c.args.ranges.now c.args.low c.args.high c.begun_below-place.result r r
    (ltb-true _ _ (sym found.0)) c.begun_below-place.ensures.begun found.1
    (sym c.if-has_ends.ensures))

pub returns-else-has_ends : goal.returns-else-has_ends
returns-else-has_ends c =
    let found = c.in_ok-get.ensures.lookup in
    let r = c.in_ok-get.field-0.now in
    let within = ltb-true _ _ (sym found.0) in
    let later = not_begun c.args.ranges.now c.args.low c.begun_below-place.result r r within
    c.begun_below-place.ensures.later found.1 in
    sym (first_has_other c.args.ranges.now c.args.low c.args.high c.begun_below-place.result r r
    c.requires within c.begun_below-place.ensures.begun later found.1 (sym c.if-has_ends.ensures))
