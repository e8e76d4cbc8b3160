use Rattle.acq_sql_writes.proofs.Inside.{setting_inside}
use Rattle.acq_sql_writes.proofs.Refusals.{setting_excused}
use Rattle.acq_sql_writes.proofs.widening.set_version.Goals as goal

pub returns-clause-writes : goal.returns-clause-writes
returns-clause-writes g c =
    setting_inside _ _ c.execute_in.result c.execute_in.ensures.survives c.execute_in.ensures.runs

pub returns-clause-refused : goal.returns-clause-refused
returns-clause-refused g c = setting_excused _ _ c.execute_in.result c.execute_in.ensures.runs
