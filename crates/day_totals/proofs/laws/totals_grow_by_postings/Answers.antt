use Rattle.day_totals.proofs.TotalsOfPostings.{totals_of-push, totals_of-cons}
use Rattle.day_totals.proofs.laws.totals_grow_by_postings.Goals as goal

pub returns-clause-last : goal.returns-clause-last
returns-clause-last c = totals_of-push

pub returns-clause-first : goal.returns-clause-first
returns-clause-first c = totals_of-cons
