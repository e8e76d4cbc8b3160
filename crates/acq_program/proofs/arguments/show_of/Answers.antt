use Rattle.std.proofs.Common.{ap}
use Rattle.std.proofs.lemmas.Result.{err_from_is_err_and}
use Rattle.std.specs.Prelude.{Ok}
use Rattle.clap.specs.Words.{found_of}
use Rattle.acq_commands.specs.declared.input_form.InputForm.{InputForm}
use Rattle.acq_program.specs.declared.action.Action.TheVariants.{Show}
use Rattle.acq_program.specs.Arguments.{IsShow}
use Rattle.acq_program.specs.Options.{ShownFormIs, form_of_flag, found_texts}
use Rattle.acq_program.proofs.OptionsRead.{first_fails, then_rest}
use Rattle.acq_program.proofs.arguments.show_of.Goals as goal

pub returns-in_err-how : goal.returns-in_err-how
returns-in_err-how c =
    let texts = found_texts (found_of c.args.options.now) in
    let p = err_from_is_err_and c.from_residual.result c.from_residual.ensures.1 in
    rw (p.1, p.2)
    (first_fails (ShownFormIs texts) (IsShow (form_of_flag texts.hex)) c.in_err-how.field-0.0
    c.in_err-how.ensures)

pub returns : goal.returns
returns c =
    let texts = found_texts (found_of c.args.options.now) in
    then_rest (ShownFormIs texts) (IsShow (form_of_flag texts.hex)) c.in_ok-how.how
    (Ok (Show c.in_ok-how.how c.form_of.result)) c.in_ok-how.ensures
    (ap (λ (x : InputForm). Ok (Show c.in_ok-how.how x)) c.form_of.ensures)
