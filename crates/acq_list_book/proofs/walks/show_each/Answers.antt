use Rattle.acq_list_book.proofs.Showing.{lead-more, lead-last, lead-end}
use Rattle.acq_list_book.proofs.walks.show_each.Goals as goal

pub loop-row-init : goal.loop-row-init
loop-row-init g c = λ w seen. seen

pub returns-then-not-row : goal.returns-then-not-row
returns-then-not-row g c =
    lead-last g.V.Visit.sees c.args.rows.now c.args.visitor.now c.loop-row.row-index
    c.row-item.result
    c.loop-row.visitor c.row.new.self c.loop-row-test.true c.row-item.is c.if-not-row.ensures
    c.loop-row.invariant

pub loop-row-preserved : goal.loop-row-preserved
loop-row-preserved g c =
    lead-more g.V.Visit.sees c.args.rows.now c.args.visitor.now c.loop-row.row-index
    c.row-item.result
    c.loop-row.visitor c.row.new.self c.loop-row-test.true c.row-item.is c.if-not-row.ensures
    c.loop-row.invariant

pub returns : goal.returns
returns g c =
    lead-end g.V.Visit.sees c.args.rows.now c.args.visitor.now c.loop-row.row-index
    c.loop-row.visitor
    c.loop-row-test.false c.loop-row.invariant
