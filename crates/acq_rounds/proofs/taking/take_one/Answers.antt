use Rattle.std.proofs.Common.{[], ◌∷◌, ap, subst, sym}
use Rattle.acq_rounds.specs.Said.{told_by, turn_in}
use Rattle.acq_rounds.specs.Within.{TookAnswer, TookWithin}
use Rattle.acq_rounds.proofs.WithinGroups.{if_both, took_answered}
use Rattle.acq_rounds.proofs.taking.take_one.Goals as goal

pub returns-in-Answer-clause-took : goal.returns-in-Answer-clause-took
returns-in-Answer-clause-took g c began n h w =
    let book = g.B.Book in
    let may_give = g.C.Clock.may_give c.args.clock.now in
    let may_say = g.I.Issuer.may_say c.args.issuer.now in
    let old = c.args.host.now in
    let new = c.take_answer.new.host in
    let query = c.in-Answer.query.now in
    if_both (TookAnswer may_give may_say (book.tables old) (book.tables new) query)
    (λ s. TookWithin book may_give may_say old new (turn_in c.args.turn ∷ []) (told_by s ∷ []))
    c.take_answer.result
    (λ s took. subst
    (λ u. TookWithin book may_give may_say old new (u ∷ []) (told_by s ∷ []))
    (ap turn_in (sym c.in-Answer.is)) (took_answered book may_give may_say old new query s took))
    (c.take_answer.ensures.took began n h w)
