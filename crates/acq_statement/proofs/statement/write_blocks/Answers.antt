use Rattle.std.proofs.Common.{sym, ◌∙◌}
use Rattle.acq_core.specs.declared.merchant.Merchant.{Merchant}
use Rattle.acq_statement.specs.Statement.{statement_with}
use Rattle.acq_statement.proofs.Parts.{lines_report}
use Rattle.acq_reports.proofs.Lines.{finished}
use Rattle.acq_statement.proofs.statement.write_blocks.Goals as goal

pub returns-clause-text : goal.returns-clause-text
returns-clause-text g c = λ honest opened.
    let sent = g.K.Sink.sent in
    let failures = g.K.Sink.failures in
    let start = c.new-report in
    let written = c.put_statement-written in
    let sums = c.args.sums.now in
    let first = g.B.Book.tables c.args.book.now in
    let text = statement_with sums.form (λ (merchant : Merchant).
    g.P.Part.text c.args.blocks.now merchant first) first sums.days.now sums.merchants.now in
    let puts = written.ensures.puts honest opened in
    let same = rw (c.as_slice.ensures.value, c.in-Ok.ensures) at puts in
    finished sent failures text start.result
    written.new.report c.walk_of.result c.args.writer.now _ c.end.result start.ensures.written
    start.ensures.stop start.ensures.writer
    (λ same. c.writer-1.given.1 (sym start.ensures.same_writer ∙ same)) c.end.ensures
    (rw (c.walk_of.ensures)
    (lines_report sent failures text start.result written.new.report written.result same))
