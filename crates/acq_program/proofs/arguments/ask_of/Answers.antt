use Rattle.std.proofs.lemmas.Result.{err_from_is_err_and}
use Rattle.std.proofs.Common.{refl}
use Rattle.std.specs.Prelude.{Err, Ok, Result}
use Rattle.clap.specs.Words.{found_of}
use Rattle.acq_program.specs.declared.action.Action.{Action}
use Rattle.acq_program.specs.declared.action.Action.TheVariants.{Ask}
use Rattle.acq_program.specs.declared.usage_fault.UsageFault.{UsageFault}
use Rattle.acq_program.specs.Arguments.{AskAt, AskWithin, EndpointIs, IsAsk}
use Rattle.acq_program.specs.Options.{RepeatIfThere}
use Rattle.acq_program.specs.Options.{ReplyWithinIs, found_texts}
use Rattle.acq_program.proofs.OptionsRead.{first_fails, then_rest}
use Rattle.acq_program.proofs.arguments.ask_of.Goals as goal

pub returns-in_err-endpoint : goal.returns-in_err-endpoint
returns-in_err-endpoint c =
    let texts = found_texts (found_of c.args.options.now) in
    let p = err_from_is_err_and c.from_residual.result c.from_residual.ensures.1 in
    rw (p.1, p.2)
    (first_fails (EndpointIs texts) (AskAt texts) c.in_err-endpoint.field-0.0
    c.in_err-endpoint.ensures)

pub returns-in_err-within : goal.returns-in_err-within
returns-in_err-within c =
    let texts = found_texts (found_of c.args.options.now) in
    let p = err_from_is_err_and c.from_residual-in_err-within.result
    c.from_residual-in_err-within.ensures.1 in
    rw (p.1, p.2)
    (then_rest (EndpointIs texts) (AskAt texts) c.in_ok-endpoint.endpoint
    (Err c.in_err-within.field-0.0) c.in_ok-endpoint.ensures
    (first_fails (ReplyWithinIs texts) (AskWithin texts c.in_ok-endpoint.endpoint)
    c.in_err-within.field-0.0 c.in_err-within.ensures))

pub returns-in_err-repeat : goal.returns-in_err-repeat
returns-in_err-repeat c =
    let texts = found_texts (found_of c.args.options.now) in
    let p = err_from_is_err_and c.from_residual-in_err-repeat.result
    c.from_residual-in_err-repeat.ensures.1 in
    rw (p.1, p.2)
    (then_rest (EndpointIs texts) (AskAt texts) c.in_ok-endpoint.endpoint
    (Err c.in_err-repeat.field-0.0) c.in_ok-endpoint.ensures
    (then_rest (ReplyWithinIs texts) (AskWithin texts c.in_ok-endpoint.endpoint)
    c.in_ok-within.within (Err c.in_err-repeat.field-0.0) c.in_ok-within.ensures
    (first_fails (RepeatIfThere texts) (IsAsk c.in_ok-endpoint.endpoint c.in_ok-within.within)
    c.in_err-repeat.field-0.0 c.in_err-repeat.ensures)))

pub returns : goal.returns
returns c =
    let texts = found_texts (found_of c.args.options.now) in
    let read : Result Action UsageFault = Ok (Ask (record {
      endpoint = c.in_ok-endpoint.endpoint;
      within = c.in_ok-within.within;
      repeat = c.in_ok-repeat.repeat;
    })) in
    then_rest (EndpointIs texts) (AskAt texts) c.in_ok-endpoint.endpoint read
    c.in_ok-endpoint.ensures
    (then_rest (ReplyWithinIs texts) (AskWithin texts c.in_ok-endpoint.endpoint)
    c.in_ok-within.within read c.in_ok-within.ensures
    (then_rest (RepeatIfThere texts) (IsAsk c.in_ok-endpoint.endpoint c.in_ok-within.within)
    c.in_ok-repeat.repeat read c.in_ok-repeat.ensures refl))
