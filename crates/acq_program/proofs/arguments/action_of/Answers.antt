-- what clap found is what the program's arguments are read by
use Rattle.std.proofs.Common.{◌≡◌, ◌∙◌, map, [], ap, subst}
use Rattle.std.proofs.lemmas.Result.{err_from_is_err_and}
use Rattle.clap.specs.Words.{App, HasKind, HasMatchesOf, fault_of, is_simple_and_free}
use Rattle.acq_program.proofs.ProgramIsSimple.{is_simple_and_free-program}
use Rattle.acq_program.proofs.arguments.action_of.Goals as goal

pub returns-in_err-matches : goal.returns-in_err-matches
returns-in_err-matches g c =
    let made = c.in_ok-program.ensures in
    let words = map g.W.AsStr.text c.args.args.now in
    let turned = c.from_residual-in_err-matches in
    let p = err_from_is_err_and turned.result turned.ensures.1 in
    rw (p.1, p.2)
    (subst (λ (a : App). HasKind (fault_of a words) c.in_err-matches.field-0.0) made
    (c.in_err-matches.ensures.kinds (ap is_simple_and_free made ∙ is_simple_and_free-program)))

pub returns : goal.returns
returns g c =
    let made = c.in_ok-program.ensures in
    let words = map g.W.AsStr.text c.args.args.now in
    c.asked_in-asked.ensures words
    (subst (λ (a : App). fault_of a words ≡ []) made
    (c.in_ok-matches.ensures.kinds (ap is_simple_and_free made ∙ is_simple_and_free-program)))
    (subst (λ (a : App). HasMatchesOf a words c.in_ok-matches.matches) made
    c.in_ok-matches.ensures.matches)
