use Rattle.std.proofs.Common.{◌-◌, ◌+◌, min, sym, ◌∙◌, ap, arith, below_more}
use Rattle.std.specs.Str.{bytes_eq}
use Rattle.day_totals.specs.Day.{days_back, mmdd_of, resolved}
use Rattle.day_totals.proofs.FirstOfRange.{find-first, find-none}
use Rattle.day_totals.proofs.day.Day.resolve.Goals as goal

pub returns-then-eq : goal.returns-then-eq
unfolding resolved
returns-then-eq c =
    let n = c.number-number.result in
    let same = ap (λ text. bytes_eq text c.args.mmdd) (sym c.mmdd.ensures.text) ∙ sym c.eq.ensures
    ∙ c.if-eq.true in
    rw (← c.number-number.ensures.value)
    (sym (find-first (λ day. bytes_eq (mmdd_of day) c.args.mmdd) (λ back. n - back)
    (min n days_back + 1)
    c.loop-back.back (omega arith) c.loop-back.invariant same))

pub loop-back-preserved : goal.loop-back-preserved
loop-back-preserved c =
    below_more _ _ c.loop-back.invariant
    (ap (λ text. bytes_eq text c.args.mmdd) (sym c.mmdd.ensures.text) ∙ sym c.eq.ensures
    ∙ c.if-eq.false)

pub returns : goal.returns
unfolding resolved
returns c =
    let n = c.number-number.result in
    rw (← c.number-number.ensures.value)
    (sym (find-none (λ day. bytes_eq (mmdd_of day) c.args.mmdd) (λ back. n - back)
    (min n days_back + 1)
    (λ j less. c.loop-back.invariant j (omega arith))))
