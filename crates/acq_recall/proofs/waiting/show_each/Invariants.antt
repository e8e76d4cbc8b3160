use Rattle.acq_recall.proofs.ShownRows.{Leads}
use Rattle.acq_recall.proofs.waiting.show_each.Given as goal

abbrev pub invariant-loop-row : goal.invariant-loop-row
invariant-loop-row g l = Leads g.V.Visit.sees l.rows l.initial.visitor l.row-index l.visitor
