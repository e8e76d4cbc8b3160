use Rattle.std.proofs.Common.{refl}
use Rattle.std.proofs.lemmas.Result.{err_from_is_err_and}
use Rattle.std.specs.Prelude.{Err, Ok, Result}
use Rattle.clap.specs.Words.{found_of}
use Rattle.acq_commands.specs.declared.explain_options.ExplainOptions.{ExplainOptions}
use Rattle.acq_program.specs.declared.usage_fault.UsageFault.{UsageFault}
use Rattle.acq_program.specs.Arguments.{ExplainOn, ExplainUpTo, ExplainedIs, IsExplained}
use Rattle.acq_program.specs.Options.{DayIs}
use Rattle.acq_program.specs.Options.{LimitIs, MomentIfThere, found_texts}
use Rattle.acq_program.proofs.OptionsRead.{first_fails, no_memory, then_rest}
use Rattle.acq_program.proofs.arguments.explain_options.Goals as goal

pub returns-in_err-limit : goal.returns-in_err-limit
returns-in_err-limit c =
    let texts = found_texts (found_of c.args.options.now) in
    let p = err_from_is_err_and c.from_residual.result c.from_residual.ensures.1 in
    rw (p.1, p.2)
    (first_fails (LimitIs texts) (ExplainUpTo texts) c.in_err-limit.field-0.0
    c.in_err-limit.ensures)

pub returns-in_err-first_day : goal.returns-in_err-first_day
returns-in_err-first_day c =
    let texts = found_texts (found_of c.args.options.now) in
    let p = err_from_is_err_and c.from_residual-in_err-first_day.result
    c.from_residual-in_err-first_day.ensures.1 in
    rw (p.1, p.2)
    (then_rest (LimitIs texts) (ExplainUpTo texts) c.in_ok-limit.limit
    (Err c.in_err-first_day.field-0.0) c.in_ok-limit.ensures
    (first_fails (DayIs texts) (ExplainOn texts c.in_ok-limit.limit) c.in_err-first_day.field-0.0
    c.in_err-first_day.ensures))

pub returns-in_err-moment : goal.returns-in_err-moment
returns-in_err-moment c =
    let texts = found_texts (found_of c.args.options.now) in
    let p = err_from_is_err_and c.from_residual-in_err-moment.result
    c.from_residual-in_err-moment.ensures.1 in
    rw (p.1, p.2)
    (then_rest (LimitIs texts) (ExplainUpTo texts) c.in_ok-limit.limit
    (Err c.in_err-moment.field-0.0) c.in_ok-limit.ensures
    (then_rest (DayIs texts) (ExplainOn texts c.in_ok-limit.limit) c.in_ok-first_day.first_day
    (Err c.in_err-moment.field-0.0) c.in_ok-first_day.ensures
    (first_fails (MomentIfThere texts)
    (IsExplained texts c.in_ok-limit.limit c.in_ok-first_day.first_day)
    c.in_err-moment.field-0.0 c.in_err-moment.ensures)))

pub returns-in_err-book : goal.returns-in_err-book
returns-in_err-book c =
    let texts = found_texts (found_of c.args.options.now) in
    let p = err_from_is_err_and c.from_residual-in_err-book.result
    c.from_residual-in_err-book.ensures.1 in
    rw (p.1, p.2)
    (no_memory (ExplainedIs texts) c.in_err-book.field-0.0 c.in_err-book.ensures.refused)

pub returns-in_err-events : goal.returns-in_err-events
returns-in_err-events c =
    let texts = found_texts (found_of c.args.options.now) in
    let p = err_from_is_err_and c.from_residual-in_err-events.result
    c.from_residual-in_err-events.ensures.1 in
    rw (p.1, p.2)
    (no_memory (ExplainedIs texts) c.in_err-events.field-0.0 c.in_err-events.ensures.refused)

pub returns : goal.returns
returns c =
    let texts = found_texts (found_of c.args.options.now) in
    let read : Result ExplainOptions UsageFault = Ok (record {
      book = c.in_ok-book.book;
      events = c.in_ok-events.events;
      limit = c.in_ok-limit.limit;
      first_day = c.in_ok-first_day.first_day;
      form = c.form_of.result;
      moment = c.in_ok-moment.moment;
    }) in
    then_rest (LimitIs texts) (ExplainUpTo texts) c.in_ok-limit.limit read c.in_ok-limit.ensures
    (then_rest (DayIs texts) (ExplainOn texts c.in_ok-limit.limit) c.in_ok-first_day.first_day read
    c.in_ok-first_day.ensures
    (then_rest (MomentIfThere texts)
    (IsExplained texts c.in_ok-limit.limit c.in_ok-first_day.first_day) c.in_ok-moment.moment read
    c.in_ok-moment.ensures (
      c.in_ok-book.ensures.given,
      c.in_ok-events.ensures.given,
      refl,
      refl,
      c.form_of.ensures,
      refl,
    )))
