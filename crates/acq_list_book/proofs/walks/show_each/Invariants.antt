use Rattle.acq_list_book.proofs.Showing.{Leads}
use Rattle.acq_list_book.proofs.walks.show_each.Given as goal

abbrev pub invariant-loop-row : goal.invariant-loop-row
invariant-loop-row g l = Leads g.V.Visit.sees l.rows l.initial.visitor l.row-index l.visitor
