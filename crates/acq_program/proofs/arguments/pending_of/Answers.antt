use Rattle.std.proofs.Common.{refl}
use Rattle.std.proofs.lemmas.Result.{err_from_is_err_and}
use Rattle.std.specs.Prelude.{Err, Ok, Result}
use Rattle.clap.specs.Words.{found_of}
use Rattle.acq_program.specs.declared.action.Action.{Action}
use Rattle.acq_program.specs.declared.action.Action.TheVariants.{Pending}
use Rattle.acq_program.specs.declared.usage_fault.UsageFault.{UsageFault}
use Rattle.acq_program.specs.Arguments.{AsksPending, IsPending}
use Rattle.acq_program.specs.Options.{DayIfThere, FileIs}
use Rattle.acq_program.specs.Arguments.{PendingIn, PendingOn}
use Rattle.acq_program.specs.Options.{MomentIfThere, found_texts}
use Rattle.acq_program.proofs.OptionsRead.{first_fails, no_memory, then_rest}
use Rattle.acq_program.proofs.arguments.pending_of.Goals as goal

pub returns-in_err-path : goal.returns-in_err-path
returns-in_err-path c =
    let texts = found_texts (found_of c.args.options.now) in
    let p = err_from_is_err_and c.from_residual.result c.from_residual.ensures.1 in
    rw (p.1, p.2)
    (first_fails (FileIs texts) (PendingIn texts) c.in_err-path.field-0.0 c.in_err-path.ensures)

pub returns-in_err-day : goal.returns-in_err-day
returns-in_err-day c =
    let texts = found_texts (found_of c.args.options.now) in
    let p = err_from_is_err_and c.from_residual-in_err-day.result
    c.from_residual-in_err-day.ensures.1 in
    rw (p.1, p.2)
    (then_rest (FileIs texts) (PendingIn texts) c.in_ok-path.path (Err c.in_err-day.field-0.0)
    c.in_ok-path.ensures
    (first_fails (DayIfThere texts) (PendingOn texts c.in_ok-path.path) c.in_err-day.field-0.0
    c.in_err-day.ensures))

pub returns-in_err-moment : goal.returns-in_err-moment
returns-in_err-moment c =
    let texts = found_texts (found_of c.args.options.now) in
    let p = err_from_is_err_and c.from_residual-in_err-moment.result
    c.from_residual-in_err-moment.ensures.1 in
    rw (p.1, p.2)
    (then_rest (FileIs texts) (PendingIn texts) c.in_ok-path.path (Err c.in_err-moment.field-0.0)
    c.in_ok-path.ensures
    (then_rest (DayIfThere texts) (PendingOn texts c.in_ok-path.path) c.in_ok-day.day
    (Err c.in_err-moment.field-0.0) c.in_ok-day.ensures
    (first_fails (MomentIfThere texts)
    (IsPending c.in_ok-path.path c.in_ok-day.day texts.issuers)
    c.in_err-moment.field-0.0 c.in_err-moment.ensures)))

pub returns-in_err-issuers : goal.returns-in_err-issuers
returns-in_err-issuers c =
    let texts = found_texts (found_of c.args.options.now) in
    let p = err_from_is_err_and c.from_residual-in_err-issuers.result
    c.from_residual-in_err-issuers.ensures.1 in
    rw (p.1, p.2)
    (no_memory (AsksPending texts) c.in_err-issuers.field-0.0 c.in_err-issuers.ensures.refused)

pub returns : goal.returns
returns c =
    let texts = found_texts (found_of c.args.options.now) in
    let read : Result Action UsageFault = Ok (Pending (record {
      path = c.in_ok-path.path;
      day = c.in_ok-day.day;
      issuers = c.in_ok-issuers.issuers;
      moment = c.in_ok-moment.moment;
    })) in
    then_rest (FileIs texts) (PendingIn texts) c.in_ok-path.path read c.in_ok-path.ensures
    (then_rest (DayIfThere texts) (PendingOn texts c.in_ok-path.path) c.in_ok-day.day read
    c.in_ok-day.ensures
    (then_rest (MomentIfThere texts) (IsPending c.in_ok-path.path c.in_ok-day.day texts.issuers)
    c.in_ok-moment.moment read c.in_ok-moment.ensures
    (refl, refl, c.in_ok-issuers.ensures.given, refl)))
