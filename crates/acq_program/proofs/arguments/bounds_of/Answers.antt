use Rattle.std.proofs.lemmas.Result.{err_from_is_err_and}
use Rattle.std.proofs.Common.{refl}
use Rattle.std.specs.Prelude.{Err, Ok, Result}
use Rattle.clap.specs.Words.{found_of}
use Rattle.acq_program.specs.declared.bounds.Bounds.{Bounds}
use Rattle.acq_program.specs.declared.usage_fault.UsageFault.{UsageFault}
use Rattle.acq_program.specs.Arguments.{AreBounds, BoundsUpTo, BoundsWith}
use Rattle.acq_program.specs.Options.{FromOneAddressIs}
use Rattle.acq_program.specs.Options.{LogBytesIs, TogetherIs, found_texts}
use Rattle.acq_program.proofs.OptionsRead.{first_fails, then_rest}
use Rattle.acq_program.proofs.arguments.bounds_of.Goals as goal

pub returns-in_err-together : goal.returns-in_err-together
returns-in_err-together c =
    let texts = found_texts (found_of c.args.options.now) in
    let p = err_from_is_err_and c.from_residual.result c.from_residual.ensures.1 in
    rw (p.1, p.2)
    (first_fails (TogetherIs texts) (BoundsWith texts) c.in_err-together.field-0.0
    c.in_err-together.ensures)

pub returns-in_err-from_one_address : goal.returns-in_err-from_one_address
returns-in_err-from_one_address c =
    let texts = found_texts (found_of c.args.options.now) in
    let p = err_from_is_err_and c.from_residual-in_err-from_one_address.result
    c.from_residual-in_err-from_one_address.ensures.1 in
    rw (p.1, p.2)
    (then_rest (TogetherIs texts) (BoundsWith texts) c.in_ok-together.together
    (Err c.in_err-from_one_address.field-0.0) c.in_ok-together.ensures
    (first_fails (FromOneAddressIs texts) (BoundsUpTo texts c.in_ok-together.together)
    c.in_err-from_one_address.field-0.0 c.in_err-from_one_address.ensures))

pub returns-in_err-log_bytes : goal.returns-in_err-log_bytes
returns-in_err-log_bytes c =
    let texts = found_texts (found_of c.args.options.now) in
    let p = err_from_is_err_and c.from_residual-in_err-log_bytes.result
    c.from_residual-in_err-log_bytes.ensures.1 in
    rw (p.1, p.2)
    (then_rest (TogetherIs texts) (BoundsWith texts) c.in_ok-together.together
    (Err c.in_err-log_bytes.field-0.0) c.in_ok-together.ensures
    (then_rest (FromOneAddressIs texts) (BoundsUpTo texts c.in_ok-together.together)
    c.in_ok-from_one_address.from_one_address (Err c.in_err-log_bytes.field-0.0)
    c.in_ok-from_one_address.ensures
    (first_fails (LogBytesIs texts)
    (AreBounds c.in_ok-together.together c.in_ok-from_one_address.from_one_address)
    c.in_err-log_bytes.field-0.0 c.in_err-log_bytes.ensures)))

pub returns : goal.returns
returns c =
    let texts = found_texts (found_of c.args.options.now) in
    let read : Result Bounds UsageFault = Ok (record {
      together = c.in_ok-together.together;
      from_one_address = c.in_ok-from_one_address.from_one_address;
      log_bytes = c.in_ok-log_bytes.log_bytes;
    }) in
    then_rest (TogetherIs texts) (BoundsWith texts) c.in_ok-together.together read
    c.in_ok-together.ensures
    (then_rest (FromOneAddressIs texts) (BoundsUpTo texts c.in_ok-together.together)
    c.in_ok-from_one_address.from_one_address read c.in_ok-from_one_address.ensures
    (then_rest (LogBytesIs texts)
    (AreBounds c.in_ok-together.together c.in_ok-from_one_address.from_one_address)
    c.in_ok-log_bytes.log_bytes read c.in_ok-log_bytes.ensures refl))
