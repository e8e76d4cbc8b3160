use Rattle.std.proofs.lemmas.Result.{err_from_is_err_and}
use Rattle.std.proofs.Common.{refl}
use Rattle.std.specs.Prelude.{Err, Ok, Result}
use Rattle.clap.specs.Words.{found_of}
use Rattle.acq_program.specs.declared.action.Action.{Action}
use Rattle.acq_program.specs.declared.action.Action.TheVariants as actions
use Rattle.acq_program.specs.declared.usage_fault.UsageFault.{UsageFault}
use Rattle.acq_program.specs.Arguments.{IsList, ListIn}
use Rattle.acq_program.specs.Options.{FileIs, ListingIs, found_texts}
use Rattle.acq_program.proofs.OptionsRead.{first_fails, then_rest}
use Rattle.acq_program.proofs.arguments.list_of.Goals as goal

pub returns-in_err-path : goal.returns-in_err-path
returns-in_err-path c =
    let texts = found_texts (found_of c.args.options.now) in
    let p = err_from_is_err_and c.from_residual.result c.from_residual.ensures.1 in
    rw (p.1, p.2)
    (first_fails (FileIs texts) (ListIn texts) c.in_err-path.field-0.0 c.in_err-path.ensures)

pub returns-in_err-listing : goal.returns-in_err-listing
returns-in_err-listing c =
    let texts = found_texts (found_of c.args.options.now) in
    let p = err_from_is_err_and c.from_residual-in_err-listing.result
    c.from_residual-in_err-listing.ensures.1 in
    rw (p.1, p.2)
    (then_rest (FileIs texts) (ListIn texts) c.in_ok-path.path (Err c.in_err-listing.field-0.0)
    c.in_ok-path.ensures
    (first_fails (ListingIs texts) (IsList c.in_ok-path.path) c.in_err-listing.field-0.0
    c.in_err-listing.ensures))

pub returns : goal.returns
returns c =
    let texts = found_texts (found_of c.args.options.now) in
    let read : Result Action UsageFault =
    Ok (actions.List (record { path = c.in_ok-path.path; listing = c.in_ok-listing.listing })) in
    then_rest (FileIs texts) (ListIn texts) c.in_ok-path.path read c.in_ok-path.ensures
    (then_rest (ListingIs texts) (IsList c.in_ok-path.path) c.in_ok-listing.listing read
    c.in_ok-listing.ensures refl)
