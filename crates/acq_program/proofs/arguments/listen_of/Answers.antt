use Rattle.std.proofs.Common.{sym, ap, ◌∙◌}
use Rattle.std.proofs.lemmas.Result.{err_from_is_err_and}
use Rattle.std.specs.Prelude.{Err, Ok}
use Rattle.clap.specs.Words.{found_of}
use Rattle.acq_program.specs.declared.action.Action.TheVariants.{Listen}
use Rattle.acq_program.specs.declared.usage_fault.UsageFault.TheVariants.{BadValue}
use Rattle.acq_program.specs.Arguments.{IsListen, ListenedIs, unless_clash}
use Rattle.acq_program.specs.Options.{found_texts}
use Rattle.acq_program.proofs.OptionsRead.{first_fails, then_rest}
use Rattle.acq_program.proofs.arguments.listen_of.Goals as goal

pub returns-in_err-asked : goal.returns-in_err-asked
returns-in_err-asked c =
    let texts = found_texts (found_of c.args.options.now) in
    let p = err_from_is_err_and c.from_residual.result c.from_residual.ensures.1 in
    rw (p.1, p.2)
    (first_fails (ListenedIs texts) IsListen c.in_err-asked.field-0.0 c.in_err-asked.ensures)

pub returns-in-None : goal.returns-in-None
returns-in-None c =
    let texts = found_texts (found_of c.args.options.now) in
    let asked = c.in_ok-asked.asked in
    then_rest (ListenedIs texts) IsListen asked (Ok (Listen asked)) c.in_ok-asked.ensures
    (ap (λ o. unless_clash o asked) (sym c.in-None.is ∙ c.clash_in.ensures))

pub returns-in-Some : goal.returns-in-Some
returns-in-Some c =
    let texts = found_texts (found_of c.args.options.now) in
    let asked = c.in_ok-asked.asked in
    then_rest (ListenedIs texts) IsListen asked (Err (BadValue c.in-Some.name))
    c.in_ok-asked.ensures (ap (λ o. unless_clash o asked) (sym c.in-Some.is ∙ c.clash_in.ensures))
