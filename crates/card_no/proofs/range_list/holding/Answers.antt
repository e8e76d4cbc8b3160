use Rattle.std.proofs.Common.{◌<◌, ◌∙◌, ap, arith, sym, get_or, ℕ, inl, inr}
use Rattle.std.specs.Option.{option_copied}
use Rattle.std.proofs.lemmas.Bool.{cases_lt, ltb-true, ltb-false}
use Rattle.card_no.proofs.NearestRange.{none_begun, last_fails, last_holds}
use Rattle.card_no.proofs.range_list.holding.Goals as goal

pub returns-in_err-checked_sub : goal.returns-in_err-checked_sub
returns-in_err-checked_sub c =
    let none : c.begun_at.result < 1 =
    elim (cases_lt c.begun_at.result 1) [
      | inl lt ↦ lt
      | inr ge ↦ absurd (c.in_err-checked_sub.ensures (omega arith))
    ] in
    let begun = c.begun_at.ensures in
    ap option_copied c.from_residual.ensures
    ∙ sym (none_begun c.args.ranges.now c.args.prefix c.begun_at.result c.requires begun.within
    begun.begun begun.above
    none)

pub returns-in_err-nearest : goal.returns-in_err-nearest
returns-in_err-nearest c =
    let at = c.in_ok-checked_sub.ensures in
    let past = ltb-false _ _ (sym c.in_err-nearest.ensures.lookup.0) in
    absurd (omega (arith, at.0, at.1, past, c.begun_at.ensures.within))

pub returns-then-holds : goal.returns-then-holds
returns-then-holds c =
    let found = c.in_ok-nearest.ensures.lookup in
    sym (last_holds c.args.ranges.now c.args.prefix c.in_ok-checked_sub.field-0
    c.in_ok-nearest.nearest.now _ c.requires
    (ltb-true _ _ (sym found.0)) found.1 (sym c.if-holds.ensures))

pub returns-else-holds : goal.returns-else-holds
returns-else-holds c =
    let begun = c.begun_at.ensures in
    let at = c.in_ok-checked_sub.ensures.1 in
    let r = c.in_ok-nearest.nearest.now in
    let last = c.in_ok-nearest.ensures.lookup.1 ∙ ap (λ (i : ℕ). get_or c.args.ranges.now i r) at in
    sym (last_fails c.args.ranges.now c.args.prefix c.begun_at.result r r c.requires begun.within
    begun.begun
    begun.above last (sym c.if-holds.ensures))
