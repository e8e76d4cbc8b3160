use Rattle.std.proofs.lemmas.Result.{err_from_is_err_and}
use Rattle.std.proofs.Common.{ap, Bool}
use Rattle.std.specs.Prelude.{Err, Ok, Result}
use Rattle.clap.specs.Words.{found_of}
use Rattle.acq_program.specs.declared.action.Action.{Action}
use Rattle.acq_program.specs.declared.action.Action.TheVariants.{Ranges}
use Rattle.acq_program.specs.declared.usage_fault.UsageFault.{UsageFault}
use Rattle.acq_program.specs.Arguments.{IsRanges, RangesIn}
use Rattle.acq_program.specs.Options.{FileIs, ListFileIs, found_texts}
use Rattle.acq_program.proofs.OptionsRead.{first_fails, then_rest}
use Rattle.acq_program.proofs.arguments.book_ranges_of.Goals as goal

pub returns-in_err-path : goal.returns-in_err-path
returns-in_err-path c =
    let texts = found_texts (found_of c.args.options.now) in
    let p = err_from_is_err_and c.from_residual.result c.from_residual.ensures.1 in
    rw (p.1, p.2)
    (first_fails (FileIs texts) (RangesIn texts) c.in_err-path.field-0.0 c.in_err-path.ensures)

pub returns-in_err-list : goal.returns-in_err-list
returns-in_err-list c =
    let texts = found_texts (found_of c.args.options.now) in
    let p = err_from_is_err_and c.from_residual-in_err-list.result
    c.from_residual-in_err-list.ensures.1 in
    rw (p.1, p.2)
    (then_rest (FileIs texts) (RangesIn texts) c.in_ok-path.path (Err c.in_err-list.field-0.0)
    c.in_ok-path.ensures
    (first_fails (ListFileIs texts) (IsRanges texts c.in_ok-path.path) c.in_err-list.field-0.0
    c.in_err-list.ensures))

pub returns : goal.returns
returns c =
    let texts = found_texts (found_of c.args.options.now) in
    let read : Result Action UsageFault = Ok (Ranges (record {
      path = c.in_ok-path.path;
      list = c.in_ok-list.list;
      is_dry = c.is_set.result;
    })) in
    then_rest (FileIs texts) (RangesIn texts) c.in_ok-path.path read c.in_ok-path.ensures
    (then_rest (ListFileIs texts) (IsRanges texts c.in_ok-path.path) c.in_ok-list.list read
    c.in_ok-list.ensures
    (ap (λ (x : Bool). Ok (Ranges (record {
      path = c.in_ok-path.path;
      list = c.in_ok-list.list;
      is_dry = x;
    }))) c.is_set.ensures))
