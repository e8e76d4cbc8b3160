use Rattle.std.proofs.Common.{true, [], refl, subst, rules}
use Rattle.std.specs.Prelude.{Ok}
use Rattle.acq_reports.proofs.Lines.{went_nothing}
use Rattle.acq_statement.specs.Parts.{PutsPart}
use Rattle.acq_statement.proofs.Parts.{part_put, part_next, part_last, part_lost}
use Rattle.acq_statement.proofs.part.put_each.Goals as goal

pub loop-item-init : goal.loop-item-init
loop-item-init g c =
    part_put g.B.Book g.K.Sink.sent g.K.Sink.failures _ [] _ _ _ _ true (λ honest opened. refl)
    (went_nothing g.K.Sink.sent g.K.Sink.failures _) (search rules) refl

pub loop-item-preserved : goal.loop-item-preserved
loop-item-preserved g c =
    let text = g.P.Part.text c.args.part.now in
    let loop = c.loop-item in
    let one = subst (λ more. PutsPart g.B.Book g.K.Sink.sent g.K.Sink.failures
    (text c.item-item.result) loop.book c.put.new.book loop.report c.put.new.report (Ok more))
    c.in-Ok-true.field-0-test c.in-Ok-true.ensures in
    part_next g.B.Book g.K.Sink.sent g.K.Sink.failures text c.args.items.now loop.item-index
    c.item-item.result c.loop-item-test.true c.item-item.is c.args.book.now loop.book
    c.put.new.book c.args.report.now loop.report c.put.new.report loop.invariant one

pub returns-in-Ok-false : goal.returns-in-Ok-false
returns-in-Ok-false g c =
    let text = g.P.Part.text c.args.part.now in
    let loop = c.loop-item in
    let one = subst (λ more. PutsPart g.B.Book g.K.Sink.sent g.K.Sink.failures
    (text c.item-item.result) loop.book c.put.new.book loop.report c.put.new.report (Ok more))
    c.in-Ok-false.field-0-test c.in-Ok-false.ensures in
    part_last g.B.Book g.K.Sink.sent g.K.Sink.failures text c.args.items.now loop.item-index
    c.item-item.result c.loop-item-test.true c.item-item.is c.args.book.now loop.book
    c.put.new.book c.args.report.now loop.report c.put.new.report loop.invariant one

pub returns-in-Err : goal.returns-in-Err
returns-in-Err g c =
    let loop = c.loop-item in
    part_lost g.B.Book g.K.Sink.sent g.K.Sink.failures (g.P.Part.text c.args.part.now)
    c.args.items.now loop.item-index
    c.item-item.result c.loop-item-test.true c.item-item.is c.args.book.now loop.book
    c.put.new.book c.args.report.now loop.report c.put.new.report c.in-Err.fault loop.invariant
    c.in-Err.ensures
