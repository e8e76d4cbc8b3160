use Rattle.std.proofs.lemmas.Result.{err_from_is_err_and}
use Rattle.std.specs.Prelude.{Err}
use Rattle.clap.specs.Words.{found_of}
use Rattle.acq_program.specs.Arguments.{AreDays, DaysFrom}
use Rattle.acq_program.specs.Options.{DayIs, LastDayIfThere, found_texts}
use Rattle.acq_program.proofs.OptionsRead.{first_fails, then_rest}
use Rattle.acq_program.proofs.arguments.days_of.Goals as goal

pub returns-in_err-first : goal.returns-in_err-first
returns-in_err-first c =
    let texts = found_texts (found_of c.args.options.now) in
    let p = err_from_is_err_and c.from_residual.result c.from_residual.ensures.1 in
    rw (p.1, p.2)
    (first_fails (DayIs texts) (DaysFrom texts) c.in_err-first.field-0.0 c.in_err-first.ensures)

pub returns-in_err-last : goal.returns-in_err-last
returns-in_err-last c =
    let texts = found_texts (found_of c.args.options.now) in
    let p = err_from_is_err_and c.from_residual-in_err-last.result c.from_residual-in_err-last.ensures.1 in
    rw (p.1, p.2)
    (then_rest (DayIs texts) (DaysFrom texts) c.in_ok-first.first (Err c.in_err-last.field-0.0)
    c.in_ok-first.ensures
    (first_fails (LastDayIfThere texts) (AreDays c.in_ok-first.first) c.in_err-last.field-0.0 c.in_err-last.ensures))
