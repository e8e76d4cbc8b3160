use Rattle.std.proofs.Common.{◌++◌, true, refl, sym, ap, ◌∙◌, subst, arith}
use Rattle.std.proofs.lemmas.List.{take_all}
use Rattle.std.proofs.lemmas.Result.{err_from_is_err_and}
use Rattle.std.specs.Prelude.{Err}
use Rattle.acq_core.specs.Tables.{Tables}
use Rattle.acq_book.proofs.Chains.{looks_more}
use Rattle.acq_reports.proofs.Chains.{tells_later}
use Rattle.acq_reports.specs.Faults.{is_settled}
use Rattle.acq_reports.specs.Refusals.{day_refusal}
use Rattle.acq_reports.specs.Writing.{Reports}
use Rattle.acq_faults.specs.DayReport.{report_text}
use Rattle.acq_commands.specs.DayReports.{AreGiven, report_texts}
use Rattle.acq_commands.proofs.ReportsWritten.{given_next, sent_next, stops_here}
use Rattle.acq_commands.proofs.day_reports.write_reports.Goals as goal

pub loop-report-preserved : goal.loop-report-preserved
loop-report-preserved g c =
    let loop = c.loop-report in
    let looks = c.in_ok-write_report.ensures.looks in
    let i = loop.report-index in
    let reports = c.args.reports.now in
    let r = c.report-item.result in (
      looks_more g.B.Book.tables g.B.Book.is_honest g.B.Book.is_open g.B.Book.may_leave
          g.B.Book.leaves_books g.B.Book.failures g.B.Book.store_faults
          c.args.book.now loop.book c.write_report.new.book true loop.invariant.0 looks,
      (λ honest opened.
          let before = looks.was_honest honest in
          let middle = loop.invariant.0.stays_open refl before opened in
          let same = loop.invariant.0.same middle in
          let so = loop.invariant.1 before opened in
          let text = c.in_ok-write_report.ensures.text honest middle in
          let t = g.B.Book.tables c.args.book.now in (
            given_next t reports i r (omega arith) c.report-item.is so.0
                (sym (ap (λ u. day_refusal u r.day) same) ∙ text.0),
            sent_next t reports i r (omega arith) c.report-item.is (g.K.Sink.sent c.args.output.now)
                (g.K.Sink.sent loop.output) (g.K.Sink.sent c.write_report.new.output) so.1
                (text.1 ∙ ap (λ u. g.K.Sink.sent loop.output ++ report_text u r) same),
          )),
      omega (arith, c.in_ok-write_report.ensures.writes, loop.invariant.2),
      c.in_ok-write_report.ensures.store ∙ loop.invariant.3,
    )

pub returns-in_err-write_report-clause-texts : goal.returns-in_err-write_report-clause-texts
returns-in_err-write_report-clause-texts g c = λ honest opened.
    let loop = c.loop-report in
    let looks = c.in_err-write_report.ensures.looks in
    let r = c.report-item.result in
    let before = looks.was_honest honest in
    let middle = loop.invariant.0.stays_open refl before opened in
    let so = loop.invariant.1 before opened in
    let between = g.K.Sink.sent loop.output in
    let after = g.K.Sink.sent c.write_report.new.output in
    let p = err_from_is_err_and c.from_residual.result c.from_residual.ensures.1 in
    let cause = c.in_err-write_report.field-0.0 in
    rw (p.1, p.2)
    (stops_here (g.B.Book.tables c.args.book.now) c.args.reports.now loop.report-index r
    (omega arith) c.report-item.is
    (g.K.Sink.sent c.args.output.now) between after cause so.0 so.1
    (subst (λ (t : Tables). Reports {T = Unit {0}} (day_refusal t r.day)
    (report_text t r) between after (Err cause))
    (loop.invariant.0.same middle) (c.in_err-write_report.ensures.text honest middle)))

pub returns-in_err-write_report-clause-writes : goal.returns-in_err-write_report-clause-writes
returns-in_err-write_report-clause-writes g c =
    let p = err_from_is_err_and c.from_residual.result c.from_residual.ensures.1 in
    rw (p.1, p.2)
    (omega (arith, c.in_err-write_report.ensures.writes, c.loop-report.invariant.2))

pub returns-in_err-write_report-clause-looks : goal.returns-in_err-write_report-clause-looks
returns-in_err-write_report-clause-looks g c =
    let loop = c.loop-report in
    let p = err_from_is_err_and c.from_residual.result c.from_residual.ensures.1 in
    rw (p.1, p.2) (looks_more g.B.Book.tables g.B.Book.is_honest g.B.Book.is_open
    g.B.Book.may_leave g.B.Book.leaves_books g.B.Book.failures g.B.Book.store_faults
    c.args.book.now loop.book c.write_report.new.book
    (is_settled {T = Unit {0}} (Err c.in_err-write_report.field-0.0))
    loop.invariant.0 c.in_err-write_report.ensures.looks)

pub returns-in_err-write_report-clause-store : goal.returns-in_err-write_report-clause-store
returns-in_err-write_report-clause-store g c =
    let loop = c.loop-report in
    let p = err_from_is_err_and c.from_residual.result c.from_residual.ensures.1 in
    rw (p.1, p.2) (tells_later g.B.Book c.args.book.now loop.book c.write_report.new.book _
    loop.invariant.0 c.in_err-write_report.ensures.looks
    {T = Unit {0}} (Err c.in_err-write_report.field-0.0) loop.invariant.3
    c.in_err-write_report.ensures.store)

pub returns-clause-store : goal.returns-clause-store
returns-clause-store g c = c.loop-report.invariant.3

pub returns-clause-texts : goal.returns-clause-texts
returns-clause-texts g c = λ honest opened.
    let t = g.B.Book.tables c.args.book.now in
    let so = c.loop-report.invariant.1 honest opened in
    let all = take_all c.loop-report.report-index c.args.reports.now (omega arith) in (
      subst (AreGiven t) all so.0,
      so.1 ∙ ap (λ reports. g.K.Sink.sent c.args.output.now ++ report_texts t reports) all,
    )
