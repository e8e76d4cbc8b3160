use Rattle.std.proofs.Common.{ap, sym, ◌∙◌, Some}
use Rattle.acq_sql.proofs.Showing.{referred_found, referred_other, referred_own}
use Rattle.acq_sql.proofs.once_book.showing.show_referred.Goals as goal

pub returns-then-is_some : goal.returns-then-is_some
returns-then-is_some c t was =
    referred_found t c.args.request.now c.args.merchant c.args.reference c.in-Some-Some.merchant
    c.in-Some-Some.reference c.in-Some-Some.is-0 c.in-Some-Some.is-1 c.args.place.now was
    (sym c.is_some.ensures ∙ c.if-is_some.true)

pub returns-then-not-is_referred : goal.returns-then-not-is_referred
returns-then-not-is_referred c t was =
    referred_other t c.args.request.now c.args.merchant c.args.reference c.in-Some-Some.merchant
    c.in-Some-Some.reference c.in-Some-Some.is-0 c.in-Some-Some.is-1 c.args.place.now was
    (sym c.is_some.ensures ∙ c.if-is_some.false)
    (sym c.is_referred.ensures ∙ c.if-not-is_referred.true)

pub returns : goal.returns
returns c t was =
    c.put.ensures ∙ ap Some c.in_ok-copied.ensures
    ∙ referred_own t c.args.request.now c.args.merchant c.args.reference c.in-Some-Some.merchant
    c.in-Some-Some.reference c.in-Some-Some.is-0 c.in-Some-Some.is-1 c.args.place.now was
    (sym c.is_some.ensures ∙ c.if-is_some.false)
    (sym c.is_referred.ensures ∙ c.if-not-is_referred.false)
