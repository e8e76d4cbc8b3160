use Rattle.std.proofs.lemmas.Result.{err_from_is_err_and}
use Rattle.std.proofs.Common.{refl}
use Rattle.std.specs.Prelude.{Err, Ok, Result}
use Rattle.clap.specs.Words.{found_of}
use Rattle.acq_faults.specs.declared.patience.Patience.{Patience}
use Rattle.acq_program.specs.declared.usage_fault.UsageFault.{UsageFault}
use Rattle.acq_program.specs.Arguments.{IsPatience}
use Rattle.acq_program.specs.Options.{AnswerWithinIs, FrameWithinIs, GatewayWithinIs, IdleIs}
use Rattle.acq_program.specs.Arguments.{PatienceBeside, PatienceFor, PatienceUpTo, PatienceWith}
use Rattle.acq_program.specs.Options.{StopWithinIs}
use Rattle.acq_program.specs.Options.{found_texts}
use Rattle.acq_program.proofs.OptionsRead.{first_fails, then_rest}
use Rattle.acq_program.proofs.arguments.patience_of.Goals as goal

pub returns-in_err-idle : goal.returns-in_err-idle
returns-in_err-idle c =
    let texts = found_texts (found_of c.args.options.now) in
    let p = err_from_is_err_and c.from_residual.result c.from_residual.ensures.1 in
    rw (p.1, p.2)
    (first_fails (IdleIs texts) (PatienceFor texts) c.in_err-idle.field-0.0 c.in_err-idle.ensures)

pub returns-in_err-frame_within : goal.returns-in_err-frame_within
returns-in_err-frame_within c =
    let texts = found_texts (found_of c.args.options.now) in
    let p = err_from_is_err_and c.from_residual-in_err-frame_within.result
    c.from_residual-in_err-frame_within.ensures.1 in
    rw (p.1, p.2)
    (then_rest (IdleIs texts) (PatienceFor texts) c.in_ok-idle.idle
    (Err c.in_err-frame_within.field-0.0) c.in_ok-idle.ensures
    (first_fails (FrameWithinIs texts) (PatienceWith texts c.in_ok-idle.idle)
    c.in_err-frame_within.field-0.0 c.in_err-frame_within.ensures))

pub returns-in_err-stop_within : goal.returns-in_err-stop_within
returns-in_err-stop_within c =
    let texts = found_texts (found_of c.args.options.now) in
    let p = err_from_is_err_and c.from_residual-in_err-stop_within.result
    c.from_residual-in_err-stop_within.ensures.1 in
    rw (p.1, p.2)
    (then_rest (IdleIs texts) (PatienceFor texts) c.in_ok-idle.idle
    (Err c.in_err-stop_within.field-0.0) c.in_ok-idle.ensures
    (then_rest (FrameWithinIs texts) (PatienceWith texts c.in_ok-idle.idle)
    c.in_ok-frame_within.frame_within (Err c.in_err-stop_within.field-0.0)
    c.in_ok-frame_within.ensures
    (first_fails (StopWithinIs texts)
    (PatienceUpTo texts c.in_ok-idle.idle c.in_ok-frame_within.frame_within)
    c.in_err-stop_within.field-0.0 c.in_err-stop_within.ensures)))

pub returns-in_err-answer_within : goal.returns-in_err-answer_within
returns-in_err-answer_within c =
    let texts = found_texts (found_of c.args.options.now) in
    let p = err_from_is_err_and c.from_residual-in_err-answer_within.result
    c.from_residual-in_err-answer_within.ensures.1 in
    rw (p.1, p.2)
    (then_rest (IdleIs texts) (PatienceFor texts) c.in_ok-idle.idle
    (Err c.in_err-answer_within.field-0.0) c.in_ok-idle.ensures
    (then_rest (FrameWithinIs texts) (PatienceWith texts c.in_ok-idle.idle)
    c.in_ok-frame_within.frame_within (Err c.in_err-answer_within.field-0.0)
    c.in_ok-frame_within.ensures
    (then_rest (StopWithinIs texts)
    (PatienceUpTo texts c.in_ok-idle.idle c.in_ok-frame_within.frame_within)
    c.in_ok-stop_within.stop_within (Err c.in_err-answer_within.field-0.0)
    c.in_ok-stop_within.ensures
    (first_fails (AnswerWithinIs texts)
    (PatienceBeside texts c.in_ok-idle.idle c.in_ok-frame_within.frame_within
    c.in_ok-stop_within.stop_within)
    c.in_err-answer_within.field-0.0 c.in_err-answer_within.ensures))))

pub returns-in_err-gateway_within : goal.returns-in_err-gateway_within
returns-in_err-gateway_within c =
    let texts = found_texts (found_of c.args.options.now) in
    let p = err_from_is_err_and c.from_residual-in_err-gateway_within.result
    c.from_residual-in_err-gateway_within.ensures.1 in
    rw (p.1, p.2)
    (then_rest (IdleIs texts) (PatienceFor texts) c.in_ok-idle.idle
    (Err c.in_err-gateway_within.field-0.0) c.in_ok-idle.ensures
    (then_rest (FrameWithinIs texts) (PatienceWith texts c.in_ok-idle.idle)
    c.in_ok-frame_within.frame_within (Err c.in_err-gateway_within.field-0.0)
    c.in_ok-frame_within.ensures
    (then_rest (StopWithinIs texts)
    (PatienceUpTo texts c.in_ok-idle.idle c.in_ok-frame_within.frame_within)
    c.in_ok-stop_within.stop_within (Err c.in_err-gateway_within.field-0.0)
    c.in_ok-stop_within.ensures
    (then_rest (AnswerWithinIs texts)
    (PatienceBeside texts c.in_ok-idle.idle c.in_ok-frame_within.frame_within
    c.in_ok-stop_within.stop_within)
    c.in_ok-answer_within.answer_within (Err c.in_err-gateway_within.field-0.0)
    c.in_ok-answer_within.ensures
    (first_fails (GatewayWithinIs texts)
    (IsPatience c.in_ok-idle.idle c.in_ok-frame_within.frame_within c.in_ok-stop_within.stop_within
    c.in_ok-answer_within.answer_within)
    c.in_err-gateway_within.field-0.0 c.in_err-gateway_within.ensures)))))

pub returns : goal.returns
returns c =
    let texts = found_texts (found_of c.args.options.now) in
    let read : Result Patience UsageFault = Ok (record {
      idle = c.in_ok-idle.idle;
      frame_within = c.in_ok-frame_within.frame_within;
      stop_within = c.in_ok-stop_within.stop_within;
      answer_within = c.in_ok-answer_within.answer_within;
      gateway_within = c.in_ok-gateway_within.gateway_within;
    }) in
    then_rest (IdleIs texts) (PatienceFor texts) c.in_ok-idle.idle read c.in_ok-idle.ensures
    (then_rest (FrameWithinIs texts) (PatienceWith texts c.in_ok-idle.idle)
    c.in_ok-frame_within.frame_within read c.in_ok-frame_within.ensures
    (then_rest (StopWithinIs texts)
    (PatienceUpTo texts c.in_ok-idle.idle c.in_ok-frame_within.frame_within)
    c.in_ok-stop_within.stop_within read c.in_ok-stop_within.ensures
    (then_rest (AnswerWithinIs texts)
    (PatienceBeside texts c.in_ok-idle.idle c.in_ok-frame_within.frame_within
    c.in_ok-stop_within.stop_within)
    c.in_ok-answer_within.answer_within read c.in_ok-answer_within.ensures
    (then_rest (GatewayWithinIs texts)
    (IsPatience c.in_ok-idle.idle c.in_ok-frame_within.frame_within c.in_ok-stop_within.stop_within
    c.in_ok-answer_within.answer_within)
    c.in_ok-gateway_within.gateway_within read c.in_ok-gateway_within.ensures
    refl))))
