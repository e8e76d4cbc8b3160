use Rattle.std.proofs.Common.{sym, ◌∙◌}
use Rattle.acq_statement.specs.DaySums.{day_sums_on}
use Rattle.acq_statement.proofs.Parts.{lines_report}
use Rattle.acq_reports.proofs.Lines.{finished}
use Rattle.acq_statement.proofs.day_sums.write_sums.Goals as goal

pub returns-clause-text : goal.returns-clause-text
returns-clause-text g c = λ honest opened.
    let sent = g.K.Sink.sent in
    let failures = g.K.Sink.failures in
    let start = c.new-report in
    let written = c.put_sums-written in
    let text = day_sums_on (g.B.Book.tables c.args.book.now) c.args.day c.args.merchants.now in
    let puts = written.ensures.puts honest opened in
    let same = rw (c.as_slice.ensures.value, c.in-Ok.ensures) at puts in
    finished sent failures text start.result
    written.new.report c.walk_of.result c.args.writer.now _ c.end.result start.ensures.written
    start.ensures.stop start.ensures.writer
    (λ same. c.writer-1.given.1 (sym start.ensures.same_writer ∙ same)) c.end.ensures
    (rw (c.walk_of.ensures)
    (lines_report sent failures text start.result written.new.report written.result same))
