use Rattle.std.proofs.Common.{◌≡◌, ◌∙◌, ◌∷◌, [], ℕ, List, Err, Result, ap, append-nil, refl, subst}
use Rattle.std.proofs.Common.{sym}
use Rattle.std.proofs.lemmas.Result.{err_from_is_err_and}
use Rattle.std.specs.Prelude.{None}
use Rattle.acq_core.specs.declared.merchant.Merchant.{Merchant}
use Rattle.acq_core.specs.Tables.{Tables}
use Rattle.acq_book.specs.Lookups.{terminals_at}
use Rattle.acq_book.specs.declared.book_fault.BookFault.{BookFault}
use Rattle.acq_book.specs.declared.book_fault.BookFault.TheVariants.{Memory, Store}
use Rattle.acq_reports.specs.declared.report_fault.ReportFault.{ReportFault}
use Rattle.acq_reports.specs.Faults.{of_book}
use Rattle.acq_reports.specs.Writing.{Reports}
use Rattle.acq_statement.specs.Claims.{claims_of}
use Rattle.acq_statement.specs.Gathered.{HasSums, only}
use Rattle.acq_statement.specs.Statement.{block_of, statement_text, statement_with}
use Rattle.acq_statement.specs.TerminalTotals.{day_postings, sums_at_terminals, terminals_of}
use Rattle.acq_statement.proofs.Gathered.{stated}
use Rattle.acq_statement.proofs.gathering.Gathering.write.Goals as goal

-- what was found before is what the tables had at first
pub returns-clause-text : goal.returns-clause-text
returns-clause-text g c = λ honest opened has claims.
    let self = c.args.self.now in
    let m = self.merchant in
    let day = self.day in
    let form = self.form in
    let first = g.B.Book.tables c.args.book.now in
    let names = c.in_ok-merchants.ensures in
    let found = c.in_ok-sums.ensures in
    let written = c.write_blocks.ensures in
    let honest2 = written.looks.was_honest honest in
    let honest1 = found.looks.was_honest honest2 in
    let opened1 = names.looks.stays_open refl honest1 opened in
    let opened2 = found.looks.stays_open refl honest2 opened1 in
    let same1 = names.looks.same opened1 in
    let same2 = found.looks.same opened2 ∙ same1 in
    let sums_are = c.as_slice.ensures.value
    ∙ found.sums honest2 opened1 (subst (λ t. HasSums t self) (sym same1) has)
    ∙ ap (λ (t : Tables). sums_at_terminals (day_postings t m day)
    (terminals_of m (terminals_at t))) same1 in
    let text_is : _ ≡ statement_text first (m ∷ []) (only day) form =
    (λ i. statement_with form (λ (merchant : Merchant). block_of form c.as_slice.result.now
    (claims_of merchant.id c.as_slice-2.result.now) (same2 i) merchant day) (same2 i) (day ∷ [])
    c.as_slice-3.result.now)
    ∙ stated first m day form c.as_slice.result.now c.as_slice-2.result.now
    c.as_slice-3.result.now sums_are (c.as_slice-2.ensures.value ∙ claims)
    (c.as_slice-3.ensures.value ∙ names.rows honest1 opened) in
    subst (λ (text : List ℕ). Reports None text (g.K.Sink.sent c.args.writer.now)
    (g.K.Sink.sent c.write_blocks.new.writer) c.write_blocks.result) text_is
    (written.text honest opened2).0

-- nothing is out where the book failed
unwritten : (text sent : List ℕ) (fault : BookFault) →
    Reports {T = Unit {0}} None text sent sent (Err (of_book fault))
unwritten text sent Memory = (0, sym (append-nil sent))
unwritten text sent Store = (0, sym (append-nil sent))

pub returns-in_err-sums-clause-text : goal.returns-in_err-sums-clause-text
returns-in_err-sums-clause-text g c = λ honest opened has claims.
    let self = c.args.self.now in
    let sent = g.K.Sink.sent c.args.writer.now in
    let text =
    statement_text (g.B.Book.tables c.args.book.now) (self.merchant ∷ []) (only self.day) self.form
    in
    let fault =
    err_from_is_err_and c.from_residual-in_err-sums.result c.from_residual-in_err-sums.ensures.1 in
    subst (λ (result : Result (Unit {0}) ReportFault). Reports None text sent sent result)
    (sym (fault.1 ∙ ap Err fault.2)) (unwritten text sent c.in_err-sums.field-0.0)
