use Rattle.std.proofs.lemmas.Result.{err_from_is_err_and}
use Rattle.std.proofs.Common.{refl}
use Rattle.std.specs.Prelude.{Err, Ok, Result}
use Rattle.clap.specs.Words.{found_of}
use Rattle.acq_program.specs.declared.action.Action.{Action}
use Rattle.acq_program.specs.declared.action.Action.TheVariants.{Tell}
use Rattle.acq_program.specs.declared.usage_fault.UsageFault.{UsageFault}
use Rattle.acq_program.specs.Arguments.{IsTell, PathIs, TellAt}
use Rattle.acq_program.specs.Options.{WithinIs, found_texts}
use Rattle.acq_program.proofs.OptionsRead.{first_fails, then_rest}
use Rattle.acq_program.proofs.arguments.tell_of.Goals as goal

pub returns-in_err-path : goal.returns-in_err-path
returns-in_err-path c =
    let texts = found_texts (found_of c.args.options.now) in
    let p = err_from_is_err_and c.from_residual.result c.from_residual.ensures.1 in
    rw (p.1, p.2)
    (first_fails (PathIs texts) (TellAt texts) c.in_err-path.field-0.0 c.in_err-path.ensures)

pub returns-in_err-within : goal.returns-in_err-within
returns-in_err-within c =
    let texts = found_texts (found_of c.args.options.now) in
    let p = err_from_is_err_and c.from_residual-in_err-within.result
    c.from_residual-in_err-within.ensures.1 in
    rw (p.1, p.2)
    (then_rest (PathIs texts) (TellAt texts) c.in_ok-path.path (Err c.in_err-within.field-0.0)
    c.in_ok-path.ensures
    (first_fails (WithinIs texts) (IsTell c.in_ok-path.path) c.in_err-within.field-0.0
    c.in_err-within.ensures))

pub returns : goal.returns
returns c =
    let texts = found_texts (found_of c.args.options.now) in
    let read : Result Action UsageFault =
    Ok (Tell (record { path = c.in_ok-path.path; within = c.in_ok-within.within })) in
    then_rest (PathIs texts) (TellAt texts) c.in_ok-path.path read c.in_ok-path.ensures
    (then_rest (WithinIs texts) (IsTell c.in_ok-path.path) c.in_ok-within.within read
    c.in_ok-within.ensures refl)
