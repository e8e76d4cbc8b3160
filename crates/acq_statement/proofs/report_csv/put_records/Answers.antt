use Rattle.std.proofs.Common.{true, false, ◌++◌, ◌∷◌, [], refl, subst, rules}
use Rattle.std.specs.Prelude.{Ok, flat_map}
use Rattle.acq_core.specs.Tables.{Tables}
use Rattle.acq_statement.specs.Parts.{PutsPart}
use Rattle.acq_statement.specs.ReportCsv.{currency_record, merchant_record, report_header}
use Rattle.acq_statement.proofs.Parts.{part_put, part_then, part_stopped, part_failed}
use Rattle.acq_statement.proofs.report_csv.put_records.Goals as goal

pub returns-then-not-put : goal.returns-then-not-put
returns-then-not-put g c =
    part_stopped g.B.Book g.K.Sink.sent g.K.Sink.failures (λ t. report_header)
    (λ t. flat_map (merchant_record t c.args.day) c.args.merchants.now
    ++ flat_map (currency_record t (c.args.day ∷ []) c.args.merchants.now) c.args.currencies.now)
    _ _ _ _
    (part_put g.B.Book g.K.Sink.sent g.K.Sink.failures (λ t. report_header) report_header _ _ _ _
    false (λ honest opened. refl) c.if-not-put.ensures (search rules) refl)

pub returns-in-Ok-true : goal.returns-in-Ok-true
returns-in-Ok-true g c =
    let book = g.B.Book in
    let sent = g.K.Sink.sent in
    let failures = g.K.Sink.failures in
    let lines = λ (t : Tables). flat_map (merchant_record t c.args.day) c.args.merchants.now in
    let header = part_put book sent failures (λ t. report_header) report_header _ _ _ _
    true (λ honest opened. refl) c.if-not-put.ensures (search rules) refl in
    let merchants = subst (λ more. PutsPart book sent failures lines
    c.args.book.now c.put_each.new.book c.put.new.self c.put_each.new.report (Ok more))
    c.in-Ok-true.field-0-test c.in-Ok-true.ensures in
    part_then book sent failures (λ t. report_header) _ _ _ _ _ _ _ _ header
    (part_then book sent failures lines _ _ _ _ _ _ _ _ merchants
    c.put_each-in-Ok-true.ensures)

pub returns-in-Ok-false : goal.returns-in-Ok-false
returns-in-Ok-false g c =
    let book = g.B.Book in
    let sent = g.K.Sink.sent in
    let failures = g.K.Sink.failures in
    let lines = λ (t : Tables). flat_map (merchant_record t c.args.day) c.args.merchants.now in
    let header = part_put book sent failures (λ t. report_header) report_header _ _ _ _
    true (λ honest opened. refl) c.if-not-put.ensures (search rules) refl in
    let merchants = subst (λ more. PutsPart book sent failures lines
    c.args.book.now c.put_each.new.book c.put.new.self c.put_each.new.report (Ok more))
    c.in-Ok-false.field-0-test c.in-Ok-false.ensures in
    part_then book sent failures (λ t. report_header) _ _ _ _ _ _ _ _ header
    (part_stopped book sent failures lines _ _ _ _ _ merchants)

pub returns-in-Err : goal.returns-in-Err
returns-in-Err g c =
    let book = g.B.Book in
    let sent = g.K.Sink.sent in
    let failures = g.K.Sink.failures in
    let lines = λ (t : Tables). flat_map (merchant_record t c.args.day) c.args.merchants.now in
    let header = part_put book sent failures (λ t. report_header) report_header _ _ _ _
    true (λ honest opened. refl) c.if-not-put.ensures (search rules) refl in
    part_then book sent failures (λ t. report_header) _ _ _ _ _ _ _ _ header
    (part_failed book sent failures lines _ _ _ _ _ c.in-Err.fault c.in-Err.ensures)
