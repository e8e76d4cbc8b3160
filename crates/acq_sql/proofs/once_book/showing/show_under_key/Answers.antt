use Rattle.std.proofs.Common.{ap, sym, ◌∙◌, Some}
use Rattle.acq_book.proofs.KeyTests.{key_eq-same}
use Rattle.acq_sql.proofs.Showing.{key_found, key_other, key_own}
use Rattle.acq_sql.proofs.once_book.showing.show_under_key.Goals as goal

pub returns-then-is_some : goal.returns-then-is_some
returns-then-is_some c t was =
    key_found t c.args.request.now c.args.key c.in-Some.key c.in-Some.is c.args.place.now was
    (sym c.is_some.ensures ∙ c.if-is_some.true)

pub returns-then-not-eq : goal.returns-then-not-eq
returns-then-not-eq c t was =
    key_other t c.args.request.now c.args.key c.in-Some.key c.in-Some.is c.args.place.now was
    (sym c.is_some.ensures ∙ c.if-is_some.false)
    (sym (key_eq-same c.in-Some.key c.args.request.now.key) ∙ sym c.eq.ensures
    ∙ c.if-not-eq.true)

pub returns : goal.returns
returns c t was =
    c.put.ensures ∙ ap Some c.in_ok-copied.ensures
    ∙ key_own t c.args.request.now c.args.key c.in-Some.key c.in-Some.is c.args.place.now was
    (sym c.is_some.ensures ∙ c.if-is_some.false)
    (sym (key_eq-same c.in-Some.key c.args.request.now.key) ∙ sym c.eq.ensures
    ∙ c.if-not-eq.false)
