use Rattle.std.proofs.Common.{sym, ◌∙◌, arith}
use Rattle.acq_sql.proofs.Showing.{used_one, used_same}
use Rattle.acq_sql.proofs.once_book.showing.used_with.Goals as goal

pub returns-then-not-counts_on : goal.returns-then-not-counts_on
returns-then-not-counts_on c t new was =
    was
    ∙ used_same t c.args.request.now c.args.merchant c.in-Some-Some.merchant c.in-Some-Some.is-0
    c.args.day c.in-Some-Some.day c.in-Some-Some.is-1
    (sym c.counts_on.ensures ∙ c.if-not-counts_on.true)

pub returns-in-Some : goal.returns-in-Some
returns-in-Some c t new was =
    let one = used_one t c.args.request.now c.args.merchant c.in-Some-Some.merchant
    c.in-Some-Some.is-0 c.args.day c.in-Some-Some.day c.in-Some-Some.is-1
    (sym c.counts_on.ensures ∙ c.if-not-counts_on.false) in
    grind (arith, one, was, c.in-Some.ensures, c.number.ensures.value)
