use Rattle.std.proofs.Common.{refl}
use Rattle.std.proofs.lemmas.Result.{err_from_is_err_and}
use Rattle.std.specs.Prelude.{Ok, Result}
use Rattle.clap.specs.Words.{found_of}
use Rattle.acq_program.specs.declared.action.Action.{Action}
use Rattle.acq_program.specs.declared.action.Action.TheVariants as actions
use Rattle.acq_program.specs.declared.usage_fault.UsageFault.{UsageFault}
use Rattle.acq_program.specs.Arguments.{AsksAudit, IsAudit}
use Rattle.acq_program.specs.Options.{FileIs, found_texts}
use Rattle.acq_program.proofs.OptionsRead.{first_fails, no_memory, then_rest}
use Rattle.acq_program.proofs.arguments.audit_of.Goals as goal

pub returns-in_err-path : goal.returns-in_err-path
returns-in_err-path c =
    let texts = found_texts (found_of c.args.options.now) in
    let p = err_from_is_err_and c.from_residual.result c.from_residual.ensures.1 in
    rw (p.1, p.2)
    (first_fails (FileIs texts) (IsAudit texts) c.in_err-path.field-0.0 c.in_err-path.ensures)

pub returns-in_err-events : goal.returns-in_err-events
returns-in_err-events c =
    let texts = found_texts (found_of c.args.options.now) in
    let p = err_from_is_err_and c.from_residual-in_err-events.result
    c.from_residual-in_err-events.ensures.1 in
    rw (p.1, p.2)
    (no_memory (AsksAudit texts) c.in_err-events.field-0.0 c.in_err-events.ensures.refused)

pub returns : goal.returns
returns c =
    let texts = found_texts (found_of c.args.options.now) in
    let read : Result Action UsageFault = Ok (actions.Audit (record {
      path = c.in_ok-path.path;
      events = c.in_ok-events.events;
    })) in
    then_rest (FileIs texts) (IsAudit texts) c.in_ok-path.path read c.in_ok-path.ensures
    (refl, c.in_ok-events.ensures.given)
