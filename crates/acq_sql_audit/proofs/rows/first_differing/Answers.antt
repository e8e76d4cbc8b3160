use Rattle.std.proofs.Common.{refl}
use Rattle.acq_sql_audit.proofs.SameRows.{take_more}
use Rattle.acq_sql_audit.proofs.rows.first_differing.Goals as goal

pub loop-at-preserved : goal.loop-at-preserved
loop-at-preserved c =
    take_more c.loop-at.at c.args.a.now c.args.b.now c.loop-at.invariant
    (c.if-not-has_same.ensures.same refl)
