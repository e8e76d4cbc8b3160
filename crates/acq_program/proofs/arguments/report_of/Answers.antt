use Rattle.std.proofs.lemmas.Result.{err_from_is_err_and}
use Rattle.std.proofs.Common.{◌∙◌, ap, Bool}
use Rattle.std.specs.Prelude.{Err, Ok, Result}
use Rattle.clap.specs.Words.{found_of}
use Rattle.acq_program.specs.declared.action.Action.{Action}
use Rattle.acq_program.specs.declared.usage_fault.UsageFault.{UsageFault}
use Rattle.acq_program.specs.Arguments.{IsReport, ReportIn, settlement_by}
use Rattle.acq_program.specs.Options.{DayIs, FileIs, found_texts}
use Rattle.acq_program.proofs.OptionsRead.{first_fails, then_rest}
use Rattle.acq_program.proofs.arguments.report_of.Goals as goal

pub returns-in_err-path : goal.returns-in_err-path
returns-in_err-path c =
    let texts = found_texts (found_of c.args.options.now) in
    let p = err_from_is_err_and c.from_residual.result c.from_residual.ensures.1 in
    rw (p.1, p.2)
    (first_fails (FileIs texts) (ReportIn texts) c.in_err-path.field-0.0 c.in_err-path.ensures)

pub returns-in_err-day : goal.returns-in_err-day
returns-in_err-day c =
    let texts = found_texts (found_of c.args.options.now) in
    let p = err_from_is_err_and c.from_residual-in_err-day.result c.from_residual-in_err-day.ensures.1 in
    rw (p.1, p.2)
    (then_rest (FileIs texts) (ReportIn texts) c.in_ok-path.path (Err c.in_err-day.field-0.0)
    c.in_ok-path.ensures
    (first_fails (DayIs texts) (IsReport texts c.in_ok-path.path) c.in_err-day.field-0.0 c.in_err-day.ensures))

pub returns : goal.returns
returns c =
    let texts = found_texts (found_of c.args.options.now) in
    let read : Result Action UsageFault = Ok c.settlement_by.result in
    then_rest (FileIs texts) (ReportIn texts) c.in_ok-path.path read
    c.in_ok-path.ensures
    (then_rest (DayIs texts) (IsReport texts c.in_ok-path.path) c.in_ok-day.day read
    c.in_ok-day.ensures
    (ap (λ (x : Action). Ok x)
    (c.settlement_by.ensures ∙ ap (λ (csv : Bool). settlement_by csv c.in_ok-path.path c.in_ok-day.day) c.is_set.ensures)))
