use Rattle.acq_recall.proofs.ShownRows.{begun, ends, goes_on, stops}
use Rattle.acq_recall.proofs.waiting.show_each.Goals as goal

pub loop-row-init : goal.loop-row-init
loop-row-init g c = begun g.V.Visit.sees c.args.rows.now c.args.visitor.now

pub returns-then-not-row-clause-done : goal.returns-then-not-row-clause-done
returns-then-not-row-clause-done g c more =
    stops g.V.Visit.sees c.args.rows.now c.args.visitor.now c.loop-row.row-index
    c.row-item.result c.loop-row.visitor c.row.new.self c.loop-row-test.true c.row-item.is
    c.if-not-row.ensures c.loop-row.invariant

pub loop-row-preserved : goal.loop-row-preserved
loop-row-preserved g c =
    goes_on g.V.Visit.sees c.args.rows.now c.args.visitor.now c.loop-row.row-index
    c.row-item.result c.loop-row.visitor c.row.new.self c.loop-row-test.true c.row-item.is
    c.if-not-row.ensures c.loop-row.invariant

pub returns-clause-more : goal.returns-clause-more
returns-clause-more g c more =
    ends g.V.Visit.sees c.args.rows.now c.args.visitor.now c.loop-row.row-index
    c.loop-row.visitor c.loop-row-test.false c.loop-row.invariant
