use Rattle.std.proofs.lemmas.Result.{err_from_is_err_and}
use Rattle.std.proofs.Common.{refl}
use Rattle.std.specs.Prelude.{Err, Ok, Result}
use Rattle.clap.specs.Words.{found_of}
use Rattle.acq_program.specs.declared.usage_fault.UsageFault.{UsageFault}
use Rattle.acq_program.specs.declared.sought.Sought.{Sought}
use Rattle.acq_program.specs.Arguments.{IsSought, SoughtAt, SoughtBy, SoughtOn, SoughtWith}
use Rattle.acq_program.specs.Options.{CardEndsIfThere, DayIfThere, ReferenceIfThere}
use Rattle.acq_program.specs.Options.{TerminalIfThere, TraceIfThere, found_texts}
use Rattle.acq_program.proofs.OptionsRead.{first_fails, then_rest}
use Rattle.acq_program.proofs.arguments.sought_of.Goals as goal

pub returns-in_err-reference : goal.returns-in_err-reference
returns-in_err-reference c =
    let texts = found_texts (found_of c.args.options.now) in
    let p = err_from_is_err_and c.from_residual.result c.from_residual.ensures.1 in
    rw (p.1, p.2)
    (first_fails (ReferenceIfThere texts) (SoughtBy texts) c.in_err-reference.field-0.0 c.in_err-reference.ensures)

pub returns-in_err-terminal : goal.returns-in_err-terminal
returns-in_err-terminal c =
    let texts = found_texts (found_of c.args.options.now) in
    let p = err_from_is_err_and c.from_residual-in_err-terminal.result c.from_residual-in_err-terminal.ensures.1 in
    rw (p.1, p.2)
    (then_rest (ReferenceIfThere texts) (SoughtBy texts) c.in_ok-reference.reference (Err c.in_err-terminal.field-0.0)
    c.in_ok-reference.ensures
    (first_fails (TerminalIfThere texts) (SoughtAt texts c.in_ok-reference.reference) c.in_err-terminal.field-0.0 c.in_err-terminal.ensures))

pub returns-in_err-trace : goal.returns-in_err-trace
returns-in_err-trace c =
    let texts = found_texts (found_of c.args.options.now) in
    let p = err_from_is_err_and c.from_residual-in_err-trace.result c.from_residual-in_err-trace.ensures.1 in
    rw (p.1, p.2)
    (then_rest (ReferenceIfThere texts) (SoughtBy texts) c.in_ok-reference.reference (Err c.in_err-trace.field-0.0)
    c.in_ok-reference.ensures
    (then_rest (TerminalIfThere texts) (SoughtAt texts c.in_ok-reference.reference) c.in_ok-terminal.terminal (Err c.in_err-trace.field-0.0)
    c.in_ok-terminal.ensures
    (first_fails (TraceIfThere texts) (SoughtWith texts c.in_ok-reference.reference c.in_ok-terminal.terminal) c.in_err-trace.field-0.0 c.in_err-trace.ensures)))

pub returns-in_err-card_ends : goal.returns-in_err-card_ends
returns-in_err-card_ends c =
    let texts = found_texts (found_of c.args.options.now) in
    let p = err_from_is_err_and c.from_residual-in_err-card_ends.result c.from_residual-in_err-card_ends.ensures.1 in
    rw (p.1, p.2)
    (then_rest (ReferenceIfThere texts) (SoughtBy texts) c.in_ok-reference.reference (Err c.in_err-card_ends.field-0.0)
    c.in_ok-reference.ensures
    (then_rest (TerminalIfThere texts) (SoughtAt texts c.in_ok-reference.reference) c.in_ok-terminal.terminal (Err c.in_err-card_ends.field-0.0)
    c.in_ok-terminal.ensures
    (then_rest (TraceIfThere texts) (SoughtWith texts c.in_ok-reference.reference c.in_ok-terminal.terminal) c.in_ok-trace.trace (Err c.in_err-card_ends.field-0.0)
    c.in_ok-trace.ensures
    (first_fails (CardEndsIfThere texts) (SoughtOn texts c.in_ok-reference.reference c.in_ok-terminal.terminal c.in_ok-trace.trace) c.in_err-card_ends.field-0.0 c.in_err-card_ends.ensures))))

pub returns-in_err-day : goal.returns-in_err-day
returns-in_err-day c =
    let texts = found_texts (found_of c.args.options.now) in
    let p = err_from_is_err_and c.from_residual-in_err-day.result c.from_residual-in_err-day.ensures.1 in
    rw (p.1, p.2)
    (then_rest (ReferenceIfThere texts) (SoughtBy texts) c.in_ok-reference.reference (Err c.in_err-day.field-0.0)
    c.in_ok-reference.ensures
    (then_rest (TerminalIfThere texts) (SoughtAt texts c.in_ok-reference.reference) c.in_ok-terminal.terminal (Err c.in_err-day.field-0.0)
    c.in_ok-terminal.ensures
    (then_rest (TraceIfThere texts) (SoughtWith texts c.in_ok-reference.reference c.in_ok-terminal.terminal) c.in_ok-trace.trace (Err c.in_err-day.field-0.0)
    c.in_ok-trace.ensures
    (then_rest (CardEndsIfThere texts) (SoughtOn texts c.in_ok-reference.reference c.in_ok-terminal.terminal c.in_ok-trace.trace) c.in_ok-card_ends.card_ends (Err c.in_err-day.field-0.0)
    c.in_ok-card_ends.ensures
    (first_fails (DayIfThere texts) (IsSought c.in_ok-reference.reference c.in_ok-terminal.terminal c.in_ok-trace.trace c.in_ok-card_ends.card_ends) c.in_err-day.field-0.0 c.in_err-day.ensures)))))

pub returns : goal.returns
returns c =
    let texts = found_texts (found_of c.args.options.now) in
    let read : Result Sought UsageFault = Ok (record {
      reference = c.in_ok-reference.reference;
      terminal = c.in_ok-terminal.terminal;
      trace = c.in_ok-trace.trace;
      card_ends = c.in_ok-card_ends.card_ends;
      day = c.in_ok-day.day;
    }) in
    then_rest (ReferenceIfThere texts) (SoughtBy texts) c.in_ok-reference.reference read
    c.in_ok-reference.ensures
    (then_rest (TerminalIfThere texts) (SoughtAt texts c.in_ok-reference.reference) c.in_ok-terminal.terminal read
    c.in_ok-terminal.ensures
    (then_rest (TraceIfThere texts) (SoughtWith texts c.in_ok-reference.reference c.in_ok-terminal.terminal) c.in_ok-trace.trace read
    c.in_ok-trace.ensures
    (then_rest (CardEndsIfThere texts) (SoughtOn texts c.in_ok-reference.reference c.in_ok-terminal.terminal c.in_ok-trace.trace) c.in_ok-card_ends.card_ends read
    c.in_ok-card_ends.ensures
    (then_rest (DayIfThere texts) (IsSought c.in_ok-reference.reference c.in_ok-terminal.terminal c.in_ok-trace.trace c.in_ok-card_ends.card_ends) c.in_ok-day.day read
    c.in_ok-day.ensures
    refl))))
