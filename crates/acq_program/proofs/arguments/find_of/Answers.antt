use Rattle.std.proofs.lemmas.Result.{err_from_is_err_and}
use Rattle.std.proofs.Common.{◌∙◌, ap, sym}
use Rattle.std.specs.Prelude.{Err, Ok, Result}
use Rattle.clap.specs.Words.{found_of}
use Rattle.acq_program.specs.declared.action.Action.{Action}
use Rattle.acq_program.specs.declared.action.Action.TheVariants.{Find}
use Rattle.acq_program.specs.declared.usage_fault.UsageFault.{UsageFault}
use Rattle.acq_program.specs.declared.usage_fault.UsageFault.TheVariants.{BadValue}
use Rattle.acq_program.specs.declared.option_name.OptionName.TheVariants as option
use Rattle.acq_program.specs.Arguments.{FindIn, FindOf, IsFind, SoughtIs, find_by}
use Rattle.acq_program.specs.Options.{FileIs, MerchantIs, found_texts}
use Rattle.acq_program.proofs.OptionsRead.{first_fails, then_rest}
use Rattle.acq_program.proofs.arguments.find_of.Goals as goal

pub returns-in_err-path : goal.returns-in_err-path
returns-in_err-path c =
    let texts = found_texts (found_of c.args.options.now) in
    let p = err_from_is_err_and c.from_residual.result c.from_residual.ensures.1 in
    rw (p.1, p.2)
    (first_fails (FileIs texts) (FindIn texts) c.in_err-path.field-0.0 c.in_err-path.ensures)

pub returns-in_err-merchant : goal.returns-in_err-merchant
returns-in_err-merchant c =
    let texts = found_texts (found_of c.args.options.now) in
    let p = err_from_is_err_and c.from_residual-in_err-merchant.result c.from_residual-in_err-merchant.ensures.1 in
    rw (p.1, p.2)
    (then_rest (FileIs texts) (FindIn texts) c.in_ok-path.path (Err c.in_err-merchant.field-0.0)
    c.in_ok-path.ensures
    (first_fails (MerchantIs texts) (FindOf texts c.in_ok-path.path) c.in_err-merchant.field-0.0 c.in_err-merchant.ensures))

pub returns-in_err-sought : goal.returns-in_err-sought
returns-in_err-sought c =
    let texts = found_texts (found_of c.args.options.now) in
    let p = err_from_is_err_and c.from_residual-in_err-sought.result c.from_residual-in_err-sought.ensures.1 in
    rw (p.1, p.2)
    (then_rest (FileIs texts) (FindIn texts) c.in_ok-path.path (Err c.in_err-sought.field-0.0)
    c.in_ok-path.ensures
    (then_rest (MerchantIs texts) (FindOf texts c.in_ok-path.path) c.in_ok-merchant.merchant (Err c.in_err-sought.field-0.0)
    c.in_ok-merchant.ensures
    (first_fails (SoughtIs texts) (IsFind c.in_ok-path.path c.in_ok-merchant.merchant) c.in_err-sought.field-0.0 c.in_err-sought.ensures)))

pub returns-in-Some : goal.returns-in-Some
returns-in-Some c =
    let texts = found_texts (found_of c.args.options.now) in
    let read : Result Action UsageFault = Ok (Find (record {
      path = c.in_ok-path.path;
      merchant = c.in_ok-merchant.merchant;
      inquiry = c.in-Some.inquiry;
    })) in
    then_rest (FileIs texts) (FindIn texts) c.in_ok-path.path read
    c.in_ok-path.ensures
    (then_rest (MerchantIs texts) (FindOf texts c.in_ok-path.path) c.in_ok-merchant.merchant read
    c.in_ok-merchant.ensures
    (then_rest (SoughtIs texts) (IsFind c.in_ok-path.path c.in_ok-merchant.merchant) c.in_ok-sought.sought read
    c.in_ok-sought.ensures
    (ap (find_by c.in_ok-path.path c.in_ok-merchant.merchant) (sym c.in-Some.is ∙ c.inquiry.ensures))))

pub returns-in-None : goal.returns-in-None
returns-in-None c =
    let texts = found_texts (found_of c.args.options.now) in
    let read : Result Action UsageFault = Err (BadValue option.Reference) in
    then_rest (FileIs texts) (FindIn texts) c.in_ok-path.path read
    c.in_ok-path.ensures
    (then_rest (MerchantIs texts) (FindOf texts c.in_ok-path.path) c.in_ok-merchant.merchant read
    c.in_ok-merchant.ensures
    (then_rest (SoughtIs texts) (IsFind c.in_ok-path.path c.in_ok-merchant.merchant) c.in_ok-sought.sought read
    c.in_ok-sought.ensures
    (ap (find_by c.in_ok-path.path c.in_ok-merchant.merchant) (sym c.in-None.is ∙ c.inquiry.ensures))))
