-- the columns before are the same
use Rattle.std.proofs.Common.{◌≡◌, take}
use Rattle.acq_sql_audit.proofs.rows.first_differing.Given as goal

abbrev pub invariant-loop-at : goal.invariant-loop-at
invariant-loop-at l = take l.at l.a ≡ take l.at l.b
