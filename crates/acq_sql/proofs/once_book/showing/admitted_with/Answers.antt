use Rattle.std.proofs.Common.{sym, ◌∙◌, arith}
use Rattle.acq_sql.proofs.Showing.{admitted_one, admitted_same}
use Rattle.acq_sql.proofs.once_book.showing.admitted_with.Goals as goal

pub returns-then-not-is_admitted_of : goal.returns-then-not-is_admitted_of
returns-then-not-is_admitted_of c t new was =
    was
    ∙ admitted_same t c.args.request.now c.args.merchant c.in-Some.merchant c.in-Some.is
    c.args.is_wanted
    (sym c.is_admitted_of.ensures ∙ c.if-not-is_admitted_of.true)

pub returns-in-Some-from_number : goal.returns-in-Some-from_number
returns-in-Some-from_number c t new was =
    let one = admitted_one t c.args.request.now c.args.merchant c.in-Some.merchant c.in-Some.is
    c.args.is_wanted c.if-not-is_wanted.false
    (sym c.is_admitted_of.ensures ∙ c.if-not-is_admitted_of.false) in
    grind (arith, one, was, c.in-Some-from_number.ensures, c.number.ensures.value)
