use Rattle.std.proofs.lemmas.Result.{err_from_is_err_and}
use Rattle.std.proofs.Common.{ap, Bool}
use Rattle.std.specs.Prelude.{Err, Ok, Result}
use Rattle.clap.specs.Words.{found_of}
use Rattle.acq_program.specs.declared.action.Action.{Action}
use Rattle.acq_program.specs.declared.action.Action.TheVariants.{HostRanges}
use Rattle.acq_program.specs.declared.usage_fault.UsageFault.{UsageFault}
use Rattle.acq_program.specs.Arguments.{HostRangesAt, HostRangesFor, IsHostRanges}
use Rattle.acq_program.specs.Options.{ControlIs, ListFileIs, WithinIs, found_texts}
use Rattle.acq_program.proofs.OptionsRead.{first_fails, then_rest}
use Rattle.acq_program.proofs.arguments.host_ranges_of.Goals as goal

pub returns-in_err-path : goal.returns-in_err-path
returns-in_err-path c =
    let texts = found_texts (found_of c.args.options.now) in
    let p = err_from_is_err_and c.from_residual.result c.from_residual.ensures.1 in
    rw (p.1, p.2)
    (first_fails (ControlIs texts) (HostRangesAt texts) c.in_err-path.field-0.0
    c.in_err-path.ensures)

pub returns-in_err-within : goal.returns-in_err-within
returns-in_err-within c =
    let texts = found_texts (found_of c.args.options.now) in
    let path = c.in_ok-path.path in
    let p = err_from_is_err_and c.from_residual-in_err-within.result
    c.from_residual-in_err-within.ensures.1 in
    rw (p.1, p.2)
    (then_rest (ControlIs texts) (HostRangesAt texts) path (Err c.in_err-within.field-0.0)
    c.in_ok-path.ensures
    (first_fails (WithinIs texts) (HostRangesFor texts path) c.in_err-within.field-0.0
    c.in_err-within.ensures))

pub returns-in_err-list : goal.returns-in_err-list
returns-in_err-list c =
    let texts = found_texts (found_of c.args.options.now) in
    let path = c.in_ok-path.path in
    let within = c.in_ok-within.within in
    let p = err_from_is_err_and c.from_residual-in_err-list.result
    c.from_residual-in_err-list.ensures.1 in
    rw (p.1, p.2)
    (then_rest (ControlIs texts) (HostRangesAt texts) path (Err c.in_err-list.field-0.0)
    c.in_ok-path.ensures
    (then_rest (WithinIs texts) (HostRangesFor texts path) within (Err c.in_err-list.field-0.0)
    c.in_ok-within.ensures
    (first_fails (ListFileIs texts) (IsHostRanges texts path within) c.in_err-list.field-0.0
    c.in_err-list.ensures)))

pub returns : goal.returns
returns c =
    let texts = found_texts (found_of c.args.options.now) in
    let path = c.in_ok-path.path in
    let within = c.in_ok-within.within in
    let list = c.in_ok-list.list in
    let read : Result Action UsageFault = Ok (HostRanges (record {
      path = path;
      within = within;
      list = list;
      is_dry = c.is_set.result;
    })) in
    then_rest (ControlIs texts) (HostRangesAt texts) path read c.in_ok-path.ensures
    (then_rest (WithinIs texts) (HostRangesFor texts path) within read c.in_ok-within.ensures
    (then_rest (ListFileIs texts) (IsHostRanges texts path within) list read c.in_ok-list.ensures
    (ap (λ (x : Bool). Ok (HostRanges (record {
      path = path;
      within = within;
      list = list;
      is_dry = x;
    }))) c.is_set.ensures)))
