use Rattle.std.proofs.lemmas.Result.{err_from_is_err_and}
use Rattle.std.proofs.Common.{refl}
use Rattle.std.specs.Prelude.{Err, Ok, Result}
use Rattle.clap.specs.Words.{found_of}
use Rattle.acq_program.specs.declared.action.Action.{Action}
use Rattle.acq_program.specs.declared.action.Action.TheVariants.{Page}
use Rattle.acq_program.specs.declared.usage_fault.UsageFault.{UsageFault}
use Rattle.acq_program.specs.Arguments.{IsPage, PageOf}
use Rattle.acq_program.specs.Options.{ControlIs, PortIs, found_texts}
use Rattle.acq_program.proofs.OptionsRead.{first_fails, then_rest}
use Rattle.acq_program.proofs.arguments.page_of.Goals as goal

pub returns-in_err-control : goal.returns-in_err-control
returns-in_err-control c =
    let texts = found_texts (found_of c.args.options.now) in
    let p = err_from_is_err_and c.from_residual.result c.from_residual.ensures.1 in
    rw (p.1, p.2)
    (first_fails (ControlIs texts) (PageOf texts) c.in_err-control.field-0.0 c.in_err-control.ensures)

pub returns-in_err-port : goal.returns-in_err-port
returns-in_err-port c =
    let texts = found_texts (found_of c.args.options.now) in
    let p = err_from_is_err_and c.from_residual-in_err-port.result
    c.from_residual-in_err-port.ensures.1 in
    rw (p.1, p.2)
    (then_rest (ControlIs texts) (PageOf texts) c.in_ok-control.control (Err c.in_err-port.field-0.0)
    c.in_ok-control.ensures
    (first_fails (PortIs texts) (IsPage c.in_ok-control.control) c.in_err-port.field-0.0
    c.in_err-port.ensures))

pub returns : goal.returns
returns c =
    let texts = found_texts (found_of c.args.options.now) in
    let read : Result Action UsageFault =
    Ok (Page (record { control = c.in_ok-control.control; port = c.in_ok-port.port })) in
    then_rest (ControlIs texts) (PageOf texts) c.in_ok-control.control read c.in_ok-control.ensures
    (then_rest (PortIs texts) (IsPage c.in_ok-control.control) c.in_ok-port.port read
    c.in_ok-port.ensures refl)
