use Rattle.std.proofs.lemmas.Result.{err_from_is_err_and}
use Rattle.std.proofs.Common.{ap}
use Rattle.std.specs.Prelude.{Ok}
use Rattle.clap.specs.Words.{found_of}
use Rattle.acq_program.specs.declared.action.Action.TheVariants.{Make}
use Rattle.acq_program.specs.Arguments.{IsMake}
use Rattle.acq_program.specs.Options.{MadeFormIs, found_texts, said_by}
use Rattle.acq_commands.specs.declared.said_form.SaidForm.{SaidForm}
use Rattle.acq_program.proofs.OptionsRead.{first_fails, then_rest}
use Rattle.acq_program.proofs.arguments.make_of.Goals as goal

pub returns-in_err-form : goal.returns-in_err-form
returns-in_err-form c =
    let texts = found_texts (found_of c.args.options.now) in
    let p = err_from_is_err_and c.from_residual.result c.from_residual.ensures.1 in
    rw (p.1, p.2)
    (first_fails (MadeFormIs texts) (IsMake (said_by texts.json)) c.in_err-form.field-0.0
    c.in_err-form.ensures)

pub returns : goal.returns
returns c =
    let texts = found_texts (found_of c.args.options.now) in
    then_rest (MadeFormIs texts) (IsMake (said_by texts.json)) c.in_ok-form.form
    (Ok (Make c.said_form_of.result c.in_ok-form.form)) c.in_ok-form.ensures
    (ap (λ (x : SaidForm). Ok (Make x c.in_ok-form.form)) c.said_form_of.ensures)
