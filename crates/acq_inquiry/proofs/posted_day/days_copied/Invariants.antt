-- what is kept of the days is kept by the copies so far
use Rattle.acq_inquiry.specs.KeptPostings.{KeepsDays}
use Rattle.acq_inquiry.proofs.posted_day.days_copied.Given as goal

abbrev pub invariant-loop-day : goal.invariant-loop-day
invariant-loop-day l = KeepsDays l.days l.copies.items
