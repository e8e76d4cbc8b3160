use Rattle.std.proofs.Common.{[], ◌++◌, inr, length, subst}
use Rattle.std.specs.List.{flat_map}
use Rattle.acq_reports.specs.SettlementReport.{merchant_line, first_line, last_line}
use Rattle.acq_reports.specs.Writing.{Puts}
use Rattle.acq_reports.proofs.Settling.{failed_between, stopped_between, put_last, stopped_first}
use Rattle.acq_reports.proofs.settlement_report.write_lines.Goals as goal

pub returns-then-not-put_made-clause-text : goal.returns-then-not-put_made-clause-text
returns-then-not-put_made-clause-text g c = λ honest opened.
    let day = c.args.day in
    let lines = flat_map (merchant_line (g.B.Book.tables c.args.book.now) day) c.args.names.now in
    stopped_first g.K.Sink.sent g.K.Sink.failures (first_line day) lines
    (last_line (length c.args.names.now))
    c.args.report.now c.put_made.new.self
    (c.if-not-put_made.ensures (first_line day) c.first_text.ensures)

pub returns-in-Ok-true-clause-text : goal.returns-in-Ok-true-clause-text
returns-in-Ok-true-clause-text g c = λ honest opened.
    let sent = g.K.Sink.sent in
    let failures = g.K.Sink.failures in
    let day = c.args.day in
    let last = last_line (length c.args.names.now) in
    let lines = flat_map (merchant_line (g.B.Book.tables c.args.book.now) day) c.args.names.now in
    let through =
    subst (λ more. Puts sent failures lines c.put_made.new.self more
    c.write_merchants.new.report)
    c.in-Ok-true.field-0-test (c.in-Ok-true.ensures.text honest opened) in
    put_last sent failures (first_line day) lines last c.args.report.now c.put_made.new.self
    c.write_merchants.new.report c.put_made-in-Ok-true.new.self c.put_made-in-Ok-true.result
    (c.if-not-put_made.ensures (first_line day) c.first_text.ensures) through
    (c.put_made-in-Ok-true.ensures last c.last_text.ensures)

pub returns-in-Ok-false-clause-text : goal.returns-in-Ok-false-clause-text
returns-in-Ok-false-clause-text g c = λ honest opened.
    let sent = g.K.Sink.sent in
    let failures = g.K.Sink.failures in
    let day = c.args.day in
    let lines = flat_map (merchant_line (g.B.Book.tables c.args.book.now) day) c.args.names.now in
    let stopped =
    subst (λ more. Puts sent failures lines c.put_made.new.self more
    c.write_merchants.new.report)
    c.in-Ok-false.field-0-test (c.in-Ok-false.ensures.text honest opened) in
    stopped_between sent failures (first_line day) lines (last_line (length c.args.names.now))
    c.args.report.now
    c.put_made.new.self c.write_merchants.new.report
    (c.if-not-put_made.ensures (first_line day) c.first_text.ensures) stopped

pub returns-in-Err-clause-text : goal.returns-in-Err-clause-text
returns-in-Err-clause-text g c = λ honest opened.
    let day = c.args.day in
    let lines = flat_map (merchant_line (g.B.Book.tables c.args.book.now) day) c.args.names.now in
    failed_between g.K.Sink.sent g.K.Sink.failures (first_line day) lines
    (last_line (length c.args.names.now))
    c.args.report.now c.put_made.new.self c.write_merchants.new.report c.in-Err.fault
    (c.if-not-put_made.ensures (first_line day) c.first_text.ensures)
    (c.in-Err.ensures.text honest opened)

-- the same whichever lines they were
pub returns-then-not-put_made-clause-any : goal.returns-then-not-put_made-clause-any
returns-then-not-put_made-clause-any g c =
    let day = c.args.day in (
      first_line day,
      inr (c.if-not-put_made.ensures (first_line day) c.first_text.ensures),
    )

pub returns-in-Ok-true-clause-any : goal.returns-in-Ok-true-clause-any
returns-in-Ok-true-clause-any g c =
    let sent = g.K.Sink.sent in
    let failures = g.K.Sink.failures in
    let first = first_line c.args.day in
    let last = last_line (length c.args.names.now) in
    let lines = c.in-Ok-true.ensures.any in
    let through =
    subst (λ more. Puts sent failures lines.0 c.put_made.new.self more
    c.write_merchants.new.report)
    c.in-Ok-true.field-0-test lines.1 in (
      first ++ (lines.0 ++ last),
      put_last sent failures first lines.0 last c.args.report.now c.put_made.new.self
          c.write_merchants.new.report c.put_made-in-Ok-true.new.self c.put_made-in-Ok-true.result
          (c.if-not-put_made.ensures first c.first_text.ensures) through
          (c.put_made-in-Ok-true.ensures last c.last_text.ensures),
    )

pub returns-in-Ok-false-clause-any : goal.returns-in-Ok-false-clause-any
returns-in-Ok-false-clause-any g c =
    let sent = g.K.Sink.sent in
    let failures = g.K.Sink.failures in
    let first = first_line c.args.day in
    let lines = c.in-Ok-false.ensures.any in
    let stopped =
    subst (λ more. Puts sent failures lines.0 c.put_made.new.self more
    c.write_merchants.new.report)
    c.in-Ok-false.field-0-test lines.1 in (
      first ++ (lines.0 ++ []),
      stopped_between sent failures first lines.0 [] c.args.report.now c.put_made.new.self
          c.write_merchants.new.report (c.if-not-put_made.ensures first c.first_text.ensures)
          stopped,
    )

pub returns-in-Err-clause-any : goal.returns-in-Err-clause-any
returns-in-Err-clause-any g c =
    let first = first_line c.args.day in
    let lines = c.in-Err.ensures.any in (
      first ++ (lines.0 ++ []),
      failed_between g.K.Sink.sent g.K.Sink.failures first lines.0 [] c.args.report.now
          c.put_made.new.self c.write_merchants.new.report c.in-Err.fault
          (c.if-not-put_made.ensures first c.first_text.ensures) lines.1,
    )
