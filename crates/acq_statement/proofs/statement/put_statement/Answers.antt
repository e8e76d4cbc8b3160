use Rattle.std.proofs.Common.{ℕ, List, ◌++◌, true, refl, subst, rules}
use Rattle.std.specs.Prelude.{Ok, flat_map}
use Rattle.acq_core.specs.declared.merchant.Merchant.{Merchant}
use Rattle.acq_core.specs.Tables.{Tables}
use Rattle.acq_statement.specs.Currencies.{currency_sums}
use Rattle.acq_statement.specs.Lines.{currency_lines, statement_header}
use Rattle.acq_statement.specs.Parts.{PutsPart}
use Rattle.acq_statement.proofs.Parts.{part_put, part_then, part_stopped, part_failed}
use Rattle.acq_statement.proofs.statement.put_statement.Goals as goal

pub returns-in-Ok-true : goal.returns-in-Ok-true
returns-in-Ok-true g c =
    let book = g.B.Book in
    let sent = g.K.Sink.sent in
    let failures = g.K.Sink.failures in
    let asked = c.args.sums.now in
    let head = statement_header asked.form in
    let lines = λ (t : Tables). flat_map (λ (merchant : Merchant).
    g.P.Part.text c.args.blocks.now merchant t) asked.merchants.now in
    let sums = λ (t : Tables). flat_map (λ (currency : List ℕ). currency_lines asked.form currency
    (currency_sums t asked.days.now asked.merchants.now currency)) c.args.currencies.now in
    let header = part_put book sent failures (λ t. head) c.statement_header.result.now _ _ _ _
    true (λ honest opened. c.statement_header.ensures) c.if-not-put.ensures (search rules) refl in
    let merchants = subst (λ more. PutsPart book sent failures lines
    c.args.book.now c.put_each.new.book c.put.new.self c.put_each.new.report (Ok more))
    c.in-Ok-true.field-0-test c.in-Ok-true.ensures in
    part_then book sent failures (λ t. head ++ lines t) sums _ _ _ _ _ _ _
    (part_then book sent failures (λ t. head) lines _ _ _ _ _ _ _ header merchants)
    c.put_each-in-Ok-true.ensures

pub returns-in-Ok-false : goal.returns-in-Ok-false
returns-in-Ok-false g c =
    let book = g.B.Book in
    let sent = g.K.Sink.sent in
    let failures = g.K.Sink.failures in
    let asked = c.args.sums.now in
    let head = statement_header asked.form in
    let lines = λ (t : Tables). flat_map (λ (merchant : Merchant).
    g.P.Part.text c.args.blocks.now merchant t) asked.merchants.now in
    let sums = λ (t : Tables). flat_map (λ (currency : List ℕ). currency_lines asked.form currency
    (currency_sums t asked.days.now asked.merchants.now currency)) c.args.currencies.now in
    let header = part_put book sent failures (λ t. head) c.statement_header.result.now _ _ _ _
    true (λ honest opened. c.statement_header.ensures) c.if-not-put.ensures (search rules) refl in
    let merchants = subst (λ more. PutsPart book sent failures lines
    c.args.book.now c.put_each.new.book c.put.new.self c.put_each.new.report (Ok more))
    c.in-Ok-false.field-0-test c.in-Ok-false.ensures in
    part_stopped book sent failures (λ t. head ++ lines t) sums _ _ _ _
    (part_then book sent failures (λ t. head) lines _ _ _ _ _ _ _ header merchants)

pub returns-in-Err : goal.returns-in-Err
returns-in-Err g c =
    let book = g.B.Book in
    let sent = g.K.Sink.sent in
    let failures = g.K.Sink.failures in
    let asked = c.args.sums.now in
    let head = statement_header asked.form in
    let lines = λ (t : Tables). flat_map (λ (merchant : Merchant).
    g.P.Part.text c.args.blocks.now merchant t) asked.merchants.now in
    let sums = λ (t : Tables). flat_map (λ (currency : List ℕ). currency_lines asked.form currency
    (currency_sums t asked.days.now asked.merchants.now currency)) c.args.currencies.now in
    let header = part_put book sent failures (λ t. head) c.statement_header.result.now _ _ _ _
    true (λ honest opened. c.statement_header.ensures) c.if-not-put.ensures (search rules) refl in
    part_failed book sent failures (λ t. head ++ lines t) sums _ _ _ _ c.in-Err.fault
    (part_then book sent failures (λ t. head) lines _ _ _ _ _ _ _ header c.in-Err.ensures)
