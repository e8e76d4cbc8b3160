use Rattle.std.proofs.Common.{◌≡◌, ◌++◌, ◌∷◌, [], ◌∙◌, sym, ap, arith, rules}
use Rattle.std.proofs.lemmas.Result.{err_from_is_err_and}
use Rattle.std.proofs.Common.{Bor, slice_index_or}
use Rattle.clap.specs.Words.{Text}
use Rattle.acq_out.specs.Fields.{merchant_of_text}
use Rattle.acq_program.specs.declared.option_name.OptionName.TheVariants.{Merchant}
use Rattle.acq_program.proofs.WantedMerchants.{merchants_next}
use Rattle.acq_program.proofs.WantedReports.{was_none, was_some, text_at}
use Rattle.acq_program.proofs.wanted_merchants.each_merchant.Goals as goal

pub returns-in_err-merchant-clause-refused : goal.returns-in_err-merchant-clause-refused
returns-in_err-merchant-clause-refused c =
    let other : Bor Text = record { ref_ptr = (0, 0); now = [] } in
    let p = err_from_is_err_and c.from_residual.result c.from_residual.ensures.1 in
    let was = was_none c.merchant_of.result Merchant c.in_err-merchant.field-0.0
    c.in_err-merchant.ensures.value in
    let i = c.loop-text.text-index in
    let texts = c.args.texts.now in
    let text = (slice_index_or texts i other).now in
    rw (p.1, p.2) (
      was.0,
      (
        i,
        text,
        text_at texts i other (omega arith),
        ap merchant_of_text (sym c.as_bytes.ensures.value) ∙ (sym c.merchant_of.ensures ∙ was.1),
      ),
    )

pub loop-text-preserved : goal.loop-text-preserved
loop-text-preserved c =
    let so = c.loop-text.invariant in
    let i = c.loop-text.text-index in
    let other : Bor Text = record { ref_ptr = (0, 0); now = [] } in
    let merchant = c.in_ok-merchant.merchant in
    let was = was_some c.merchant_of.result Merchant merchant c.in_ok-merchant.ensures.value in
    let pushed : c.push.new.self.items ≡ c.loop-text.merchants.items ++ merchant ∷ [] =
    search rules in
    merchants_next c.args.texts.now i other (omega arith) c.loop-text.merchants.items
    c.push.new.self.items merchant so
    (ap merchant_of_text (sym c.as_bytes.ensures.value) ∙ (sym c.merchant_of.ensures ∙ was)) pushed
