use Rattle.std.proofs.Common.{◌≡◌, ℕ, ◌++◌, ◌∷◌, [], arith, subst, rules}
use Rattle.std.proofs.lemmas.Result.{err_from_is_err_and}
use Rattle.std.specs.Prelude.{IfNone, IfSome, Option}
use Rattle.std.proofs.Common.{Bor, slice_index_or}
use Rattle.clap.specs.Words.{Text}
use Rattle.day_totals.specs.Day.{IsNoDateText, date_text_of}
use Rattle.acq_program.specs.Options.{report_on}
use Rattle.acq_program.specs.declared.option_name.OptionName.TheVariants.{Report}
use Rattle.acq_program.proofs.WantedReports.{was_none, was_some, text_at, texts_next}
use Rattle.acq_program.proofs.WantedReports.{reports_next}
use Rattle.acq_program.proofs.wanted_reports.add_each.Goals as goal

pub returns-in_err-day-clause-refused : goal.returns-in_err-day-clause-refused
returns-in_err-day-clause-refused c =
    let other : Bor Text = record { ref_ptr = (0, 0); now = [] } in
    let p = err_from_is_err_and c.from_residual.result c.from_residual.ensures.1 in
    let was = was_none c.read.result (Report c.args.kind) c.in_err-day.field-0.0
    c.in_err-day.ensures.value in
    let i = c.loop-text.text-index in
    let texts = c.args.texts.now in
    let text = (slice_index_or texts i other).now in
    let bad = subst (λ (o : Option ℕ). IfNone o (IsNoDateText text)) was.1 c.read.ensures.none in
    rw (p.1, p.2) (was.0, (i, text, text_at texts i other (omega arith), bad))

pub loop-text-preserved : goal.loop-text-preserved
loop-text-preserved c =
    let so = c.loop-text.invariant in
    let i = c.loop-text.text-index in
    let other : Bor Text = record { ref_ptr = (0, 0); now = [] } in
    let day = c.in_ok-day.day in
    let was = was_some c.read.result (Report c.args.kind) day c.in_ok-day.ensures.value in
    let text = (slice_index_or c.args.texts.now i other).now in
    let spelled : text ≡ date_text_of day =
    subst (λ (o : Option ℕ). IfSome o (λ d. text ≡ date_text_of d)) was c.read.ensures.found in
    let pushed : c.push.new.self.items ≡ c.loop-text.reports.items ++ report_on c.args.kind day
    ∷ [] = search rules in (
      so.0 ++ day ∷ [],
      texts_next c.args.kind c.args.texts.now i other (omega arith) so.0 day so.1 spelled,
      reports_next c.args.kind c.args.texts.now i other
          (omega arith) so.0 day c.args.reports.now.items
          c.loop-text.reports.items c.push.new.self.items so.2 pushed,
    )
