use Rattle.std.proofs.lemmas.Result.{err_from_is_err_and}
use Rattle.std.proofs.Common.{refl}
use Rattle.std.specs.Prelude.{Err, Ok}
use Rattle.acq_program.specs.declared.action.Action.TheVariants.{Holds}
use Rattle.clap.specs.Words.{found_of}
use Rattle.acq_program.specs.Arguments.{HoldsIn, HoldsOf, IsHolds}
use Rattle.acq_program.specs.Options.{FileIs, MerchantIs, MomentIs}
use Rattle.acq_program.specs.Options.{found_texts}
use Rattle.acq_program.proofs.OptionsRead.{first_fails, then_rest}
use Rattle.acq_program.proofs.arguments.holds_of.Goals as goal

pub returns-in_err-path : goal.returns-in_err-path
returns-in_err-path c =
    let texts = found_texts (found_of c.args.options.now) in
    let p = err_from_is_err_and c.from_residual.result c.from_residual.ensures.1 in
    rw (p.1, p.2)
    (first_fails (FileIs texts) (HoldsIn texts) c.in_err-path.field-0.0 c.in_err-path.ensures)

pub returns-in_err-merchant : goal.returns-in_err-merchant
returns-in_err-merchant c =
    let texts = found_texts (found_of c.args.options.now) in
    let p = err_from_is_err_and c.from_residual-in_err-merchant.result
    c.from_residual-in_err-merchant.ensures.1 in
    rw (p.1, p.2)
    (then_rest (FileIs texts) (HoldsIn texts) c.in_ok-path.path (Err c.in_err-merchant.field-0.0)
    c.in_ok-path.ensures
    (first_fails (MerchantIs texts) (HoldsOf texts c.in_ok-path.path) c.in_err-merchant.field-0.0
    c.in_err-merchant.ensures))

pub returns-in_err-moment : goal.returns-in_err-moment
returns-in_err-moment c =
    let texts = found_texts (found_of c.args.options.now) in
    let p = err_from_is_err_and c.from_residual-in_err-moment.result
    c.from_residual-in_err-moment.ensures.1 in
    rw (p.1, p.2)
    (then_rest (FileIs texts) (HoldsIn texts) c.in_ok-path.path (Err c.in_err-moment.field-0.0)
    c.in_ok-path.ensures
    (then_rest (MerchantIs texts) (HoldsOf texts c.in_ok-path.path) c.in_ok-merchant.merchant
    (Err c.in_err-moment.field-0.0) c.in_ok-merchant.ensures
    (first_fails (MomentIs texts) (IsHolds c.in_ok-path.path c.in_ok-merchant.merchant)
    c.in_err-moment.field-0.0 c.in_err-moment.ensures)))

pub returns : goal.returns
returns c =
    let texts = found_texts (found_of c.args.options.now) in
    then_rest (FileIs texts) (HoldsIn texts) c.in_ok-path.path
    (Ok (Holds
    (record {
      path = c.in_ok-path.path;
      merchant = c.in_ok-merchant.merchant;
      moment =
          c.in_ok-moment.moment;
    }))) c.in_ok-path.ensures
    (then_rest (MerchantIs texts) (HoldsOf texts c.in_ok-path.path) c.in_ok-merchant.merchant
    (Ok (Holds
    (record {
      path = c.in_ok-path.path;
      merchant = c.in_ok-merchant.merchant;
      moment =
          c.in_ok-moment.moment;
    }))) c.in_ok-merchant.ensures
    (then_rest (MomentIs texts) (IsHolds c.in_ok-path.path c.in_ok-merchant.merchant)
    c.in_ok-moment.moment
    (Ok (Holds
    (record {
      path = c.in_ok-path.path;
      merchant = c.in_ok-merchant.merchant;
      moment =
          c.in_ok-moment.moment;
    }))) c.in_ok-moment.ensures
    refl))
