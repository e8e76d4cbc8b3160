use Rattle.acq_book.specs.Lookups.{merchants_at, ranges_at, terminals_at}
use Rattle.acq_reports.specs.Writing.{Puts}
use Rattle.acq_reports.proofs.Lines.{progress, progress_any}
use Rattle.acq_directory.specs.Listings.{merchant_line, range_line, terminal_line}
use Rattle.acq_directory.proofs.listing_text.put_records.Goals as goal

pub returns-in-Merchants-clause-text : goal.returns-in-Merchants-clause-text
returns-in-Merchants-clause-text g c = λ honest opened.
    let sent = g.K.Sink.sent in
    let failures = g.K.Sink.failures in
    let walk = c.walk_merchants in
    let out = progress sent failures (λ v. v.report) merchant_line (λ v. Unit {0})
    (λ old row more new. Puts sent failures (merchant_line row) old.report more new.report)
    (λ v row more u kept seen. (seen, tt)) (merchants_at (g.B.Book.tables c.args.book.now))
    _ walk.new.visitor walk.result tt (walk.ensures.seen honest opened)
    (walk.ensures.begun honest opened) in
    rw (c.in-Merchants.is) out

pub returns-in-Merchants-clause-any : goal.returns-in-Merchants-clause-any
returns-in-Merchants-clause-any g c =
    let sent = g.K.Sink.sent in
    let failures = g.K.Sink.failures in
    let walk = c.walk_merchants in
    progress_any sent failures (λ v. v.report)
    (λ old row more new. Puts sent failures (merchant_line row) old.report more new.report)
    (λ v row more u seen. (merchant_line row, seen)) _ walk.new.visitor walk.result walk.ensures.shown

pub returns-in-Terminals-clause-text : goal.returns-in-Terminals-clause-text
returns-in-Terminals-clause-text g c = λ honest opened.
    let sent = g.K.Sink.sent in
    let failures = g.K.Sink.failures in
    let walk = c.walk_terminals in
    let out = progress sent failures (λ v. v.report) terminal_line (λ v. Unit {0})
    (λ old row more new. Puts sent failures (terminal_line row) old.report more new.report)
    (λ v row more u kept seen. (seen, tt)) (terminals_at (g.B.Book.tables c.args.book.now))
    _ walk.new.visitor walk.result tt (walk.ensures.seen honest opened)
    (walk.ensures.begun honest opened) in
    rw (c.in-Terminals.is) out

pub returns-in-Terminals-clause-any : goal.returns-in-Terminals-clause-any
returns-in-Terminals-clause-any g c =
    let sent = g.K.Sink.sent in
    let failures = g.K.Sink.failures in
    let walk = c.walk_terminals in
    progress_any sent failures (λ v. v.report)
    (λ old row more new. Puts sent failures (terminal_line row) old.report more new.report)
    (λ v row more u seen. (terminal_line row, seen)) _ walk.new.visitor walk.result walk.ensures.shown

pub returns-in-Ranges-clause-text : goal.returns-in-Ranges-clause-text
returns-in-Ranges-clause-text g c = λ honest opened.
    let sent = g.K.Sink.sent in
    let failures = g.K.Sink.failures in
    let walk = c.walk_ranges in
    let out = progress sent failures (λ v. v.report) range_line (λ v. Unit {0})
    (λ old row more new. Puts sent failures (range_line row) old.report more new.report)
    (λ v row more u kept seen. (seen, tt)) (ranges_at (g.B.Book.tables c.args.book.now))
    _ walk.new.visitor walk.result tt (walk.ensures.seen honest opened)
    (walk.ensures.begun honest opened) in
    rw (c.in-Ranges.is) out

pub returns-in-Ranges-clause-any : goal.returns-in-Ranges-clause-any
returns-in-Ranges-clause-any g c =
    let sent = g.K.Sink.sent in
    let failures = g.K.Sink.failures in
    let walk = c.walk_ranges in
    progress_any sent failures (λ v. v.report)
    (λ old row more new. Puts sent failures (range_line row) old.report more new.report)
    (λ v row more u seen. (range_line row, seen)) _ walk.new.visitor walk.result walk.ensures.shown
