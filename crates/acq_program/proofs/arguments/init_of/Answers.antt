use Rattle.std.proofs.lemmas.Result.{err_from_is_err_and}
use Rattle.std.specs.Prelude.{Err, Ok, Result}
use Rattle.clap.specs.Words.{found_of}
use Rattle.std.proofs.Common.{ap}
use Rattle.acq_program.specs.declared.action.Action.{Action}
use Rattle.acq_program.specs.declared.action.Action.TheVariants.{Init}
use Rattle.acq_program.specs.declared.page_sums.PageSums.{PageSums}
use Rattle.acq_program.specs.declared.usage_fault.UsageFault.{UsageFault}
use Rattle.acq_program.specs.Arguments.{InitIn, InitWith, IsInit}
use Rattle.acq_program.specs.Options.{DayIs, FileIs, LimitIs, found_texts}
use Rattle.acq_program.proofs.OptionsRead.{first_fails, then_rest}
use Rattle.acq_program.proofs.arguments.init_of.Goals as goal

pub returns-in_err-path : goal.returns-in_err-path
returns-in_err-path c =
    let texts = found_texts (found_of c.args.options.now) in
    let p = err_from_is_err_and c.from_residual.result c.from_residual.ensures.1 in
    rw (p.1, p.2)
    (first_fails (FileIs texts) (InitIn texts) c.in_err-path.field-0.0 c.in_err-path.ensures)

pub returns-in_err-limit : goal.returns-in_err-limit
returns-in_err-limit c =
    let texts = found_texts (found_of c.args.options.now) in
    let p = err_from_is_err_and c.from_residual-in_err-limit.result c.from_residual-in_err-limit.ensures.1 in
    rw (p.1, p.2)
    (then_rest (FileIs texts) (InitIn texts) c.in_ok-path.path (Err c.in_err-limit.field-0.0)
    c.in_ok-path.ensures
    (first_fails (LimitIs texts) (InitWith texts c.in_ok-path.path) c.in_err-limit.field-0.0 c.in_err-limit.ensures))

pub returns-in_err-first_day : goal.returns-in_err-first_day
returns-in_err-first_day c =
    let texts = found_texts (found_of c.args.options.now) in
    let p = err_from_is_err_and c.from_residual-in_err-first_day.result c.from_residual-in_err-first_day.ensures.1 in
    rw (p.1, p.2)
    (then_rest (FileIs texts) (InitIn texts) c.in_ok-path.path (Err c.in_err-first_day.field-0.0)
    c.in_ok-path.ensures
    (then_rest (LimitIs texts) (InitWith texts c.in_ok-path.path) c.in_ok-limit.limit (Err c.in_err-first_day.field-0.0)
    c.in_ok-limit.ensures
    (first_fails (DayIs texts) (IsInit texts c.in_ok-path.path c.in_ok-limit.limit) c.in_err-first_day.field-0.0 c.in_err-first_day.ensures)))

pub returns : goal.returns
returns c =
    let texts = found_texts (found_of c.args.options.now) in
    let read : Result Action UsageFault = Ok (Init (record { path = c.in_ok-path.path; limit = c.in_ok-limit.limit; first_day = c.in_ok-first_day.first_day })
    c.page_sums_of.result) in
    then_rest (FileIs texts) (InitIn texts) c.in_ok-path.path read
    c.in_ok-path.ensures
    (then_rest (LimitIs texts) (InitWith texts c.in_ok-path.path) c.in_ok-limit.limit read
    c.in_ok-limit.ensures
    (then_rest (DayIs texts) (IsInit texts c.in_ok-path.path c.in_ok-limit.limit) c.in_ok-first_day.first_day read
    c.in_ok-first_day.ensures
    (ap (λ (x : PageSums). Ok (Init (record { path = c.in_ok-path.path; limit = c.in_ok-limit.limit; first_day = c.in_ok-first_day.first_day }) x))
    c.page_sums_of.ensures)))
