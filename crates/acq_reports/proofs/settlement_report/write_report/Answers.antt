use Rattle.std.proofs.Common.{sym, ◌∙◌}
use Rattle.acq_reports.specs.SettlementReport.{report_on}
use Rattle.acq_reports.proofs.Lines.{finished}
use Rattle.acq_reports.proofs.settlement_report.write_report.Goals as goal

pub returns-clause-text : goal.returns-clause-text
returns-clause-text g c = λ honest opened.
    let start = c.new-report in
    let written = c.write_lines-written in
    finished g.K.Sink.sent g.K.Sink.failures
    (report_on (g.B.Book.tables c.args.book.now) c.args.day c.args.names.now) start.result
    written.new.report written.result c.args.writer.now _ c.end.result start.ensures.written
    start.ensures.stop start.ensures.writer
    (λ same. c.writer-1.given.1 (sym start.ensures.same_writer ∙ same)) c.end.ensures
    (written.ensures.text honest opened)
