use Rattle.std.proofs.Common.{◌≡◌, ℕ, List, ap, sym, subst, refl, ◌∙◌}
use Rattle.std.specs.Prelude.{Option, None}
use Rattle.acq_book.specs.Lookups.{terminals_at}
use Rattle.acq_reports.specs.declared.report_fault.ReportFault.{ReportFault}
use Rattle.acq_reports.specs.Writing.{Reports}
use Rattle.acq_statement.specs.Claims.{claims_at}
use Rattle.acq_statement.specs.Span.{asked_merchants}
use Rattle.acq_statement.specs.Statement.{merchant_blocks, statement_text, statement_with}
use Rattle.acq_statement.proofs.statement.write_statement.Goals as goal

-- what was found before is what the tables had at first
pub returns-clause-text : goal.returns-clause-text
returns-clause-text g c = λ honest opened.
    let sent = g.K.Sink.sent in
    let asked = c.args.merchants.now in
    let days = c.args.days in
    let form = c.args.form in
    let first = g.B.Book.tables c.args.book.now in
    let old = sent c.args.writer.now in
    let new = sent c.write_blocks.new.writer in
    let check = c.in_ok-check_asked.ensures in
    let rows = c.in_ok-rows.ensures in
    let claims = c.in_ok-claims.ensures in
    let terminals = c.in_ok-terminals.ensures in
    let honest4 = c.write_blocks.ensures.looks.was_honest honest in
    let honest3 = terminals.looks.was_honest honest4 in
    let honest2 = claims.looks.was_honest honest3 in
    let honest1 = rows.looks.was_honest honest2 in
    let opened1 = check.looks.stays_open refl honest1 opened in
    let opened2 = rows.looks.stays_open refl honest2 opened1 in
    let opened3 = claims.looks.stays_open refl honest3 opened2 in
    let opened4 = terminals.looks.stays_open refl honest4 opened3 in
    let same1 = check.looks.same opened1 in
    let same2 = rows.looks.same opened2 ∙ same1 in
    let same3 = claims.looks.same opened3 ∙ same2 in
    let same4 = terminals.looks.same opened4 ∙ same3 in
    let terminals_are = c.as_slice.ensures.value
    ∙ (terminals.rows honest4 opened3 ∙ ap terminals_at same3) in
    let claims_are = c.as_slice-2.ensures.value
    ∙ (claims.claims honest3 opened2 ∙ ap (λ t. claims_at t asked days) same2) in
    let days_are = c.as_slice-3.ensures.value ∙ c.in-Ok.ensures in
    let sum_days_are = c.as_slice-5.ensures.value ∙ c.in-Ok.ensures in
    let rows_are = c.as_slice-4.ensures.value
    ∙ (rows.rows honest2 opened1 ∙ ap (λ t. asked_merchants t asked) same1) in
    let text_is : _ ≡ statement_text first asked days form =
    λ i. statement_with form (merchant_blocks form (terminals_are i) (claims_are i) (same4 i)
    (days_are i)) (same4 i) (sum_days_are i) (rows_are i) in
    subst (λ (refusal : Option ReportFault). Reports refusal (statement_text first asked days form)
    old new c.write_blocks.result) (sym (check.refuses honest1 opened))
    (subst (λ (text : List ℕ). Reports None text old new c.write_blocks.result) text_is
    (c.write_blocks.ensures.text honest opened4).0)
