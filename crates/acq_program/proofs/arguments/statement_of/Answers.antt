use Rattle.std.proofs.lemmas.Result.{err_from_is_err_and}
use Rattle.std.proofs.Common.{List, subst, codes, refl}
use Rattle.std.specs.Prelude.{Err, Ok, Result}
use Rattle.clap.specs.Words.{found_of}
use Rattle.clap.specs.Words.{Text}
use Rattle.acq_program.specs.declared.action.Action.{Action}
use Rattle.acq_program.specs.declared.action.Action.TheVariants.{Statement}
use Rattle.acq_program.specs.declared.usage_fault.UsageFault.{UsageFault}
use Rattle.acq_program.specs.Arguments.{DaysAre, IsStatement, StatementIn, StatementOn}
use Rattle.acq_program.specs.Options.{FileIs, GivesMerchants, MerchantsAre, found_texts}
use Rattle.acq_program.specs.WantedMerchants.{MayRefuseMerchants}
use Rattle.acq_program.proofs.WantedMerchants.{refused}
use Rattle.acq_program.proofs.OptionsRead.{first_fails, texts_found, then_rest}
use Rattle.acq_program.proofs.arguments.statement_of.Goals as goal

pub returns-in_err-path : goal.returns-in_err-path
returns-in_err-path c =
    let texts = found_texts (found_of c.args.options.now) in
    let p = err_from_is_err_and c.from_residual.result c.from_residual.ensures.1 in
    rw (p.1, p.2)
    (first_fails (FileIs texts) (StatementIn texts) c.in_err-path.field-0.0 c.in_err-path.ensures)

pub returns-in_err-days : goal.returns-in_err-days
returns-in_err-days c =
    let texts = found_texts (found_of c.args.options.now) in
    let p = err_from_is_err_and c.from_residual-in_err-days.result c.from_residual-in_err-days.ensures.1 in
    rw (p.1, p.2)
    (then_rest (FileIs texts) (StatementIn texts) c.in_ok-path.path (Err c.in_err-days.field-0.0)
    c.in_ok-path.ensures
    (first_fails (DaysAre texts) (StatementOn texts c.in_ok-path.path) c.in_err-days.field-0.0 c.in_err-days.ensures))

pub returns-in_err-merchants : goal.returns-in_err-merchants
returns-in_err-merchants c =
    let f = found_of c.args.options.now in
    let texts = found_texts f in
    let fault = c.in_err-merchants.field-0.0 in
    let p = err_from_is_err_and c.from_residual-in_err-merchants.result
    c.from_residual-in_err-merchants.ensures.1 in
    rw (p.1, p.2)
    (then_rest (FileIs texts) (StatementIn texts) c.in_ok-path.path (Err fault) c.in_ok-path.ensures
    (then_rest (DaysAre texts) (StatementOn texts c.in_ok-path.path) c.in_ok-days.days (Err fault)
    c.in_ok-days.ensures
    (first_fails (MerchantsAre texts) (IsStatement texts c.in_ok-path.path c.in_ok-days.days) fault
    (refused texts fault (subst (λ (t : List Text). MayRefuseMerchants t fault)
    (texts_found f (codes "merchant") c.get_strs.result c.get_strs.ensures)
    c.in_err-merchants.ensures.refused)))))

pub returns : goal.returns
returns c =
    let f = found_of c.args.options.now in
    let texts = found_texts f in
    let read : Result Action UsageFault = Ok (Statement (record {
      path = c.in_ok-path.path;
      merchants = c.in_ok-merchants.merchants;
      days = c.in_ok-days.days;
      form = c.statement_form_of.result;
    })) in
    then_rest (FileIs texts) (StatementIn texts) c.in_ok-path.path read c.in_ok-path.ensures
    (then_rest (DaysAre texts) (StatementOn texts c.in_ok-path.path) c.in_ok-days.days read c.in_ok-days.ensures
    (then_rest (MerchantsAre texts) (IsStatement texts c.in_ok-path.path c.in_ok-days.days) c.in_ok-merchants.merchants.items read
    (subst (λ (t : List Text). GivesMerchants t c.in_ok-merchants.merchants.items)
    (texts_found f (codes "merchant") c.get_strs.result c.get_strs.ensures)
    c.in_ok-merchants.ensures.given)
    (refl, refl, refl, c.statement_form_of.ensures)))
