use Rattle.acq_sql_writes.proofs.Inside.{turning_inside}
use Rattle.acq_sql_writes.proofs.Refusals.{turning_excused}
use Rattle.acq_sql_writes.proofs.widening.turn_ranges.Goals as goal

pub returns-clause-writes : goal.returns-clause-writes
returns-clause-writes g c =
    turning_inside _ _ c.execute_in.result c.execute_in.ensures.survives c.execute_in.ensures.runs

pub returns-clause-refused : goal.returns-clause-refused
returns-clause-refused g c = turning_excused _ _ c.execute_in.result c.execute_in.ensures.runs
