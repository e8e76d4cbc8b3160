-- those so far are copied
use Rattle.std.proofs.Common.{◌≡◌, take}
use Rattle.acq_inquiry.proofs.posted_day.postings_copied.Given as goal

abbrev pub invariant-loop-posted : goal.invariant-loop-posted
invariant-loop-posted l = l.copies.items ≡ take l.posted-index l.postings
