use Rattle.acq_sql_changes.proofs.Transactions as law
use Rattle.acq_sql_changes.proofs.transaction.roll_back.Goals as goal

pub returns : goal.returns
returns g c =
    record {
      returns = law.returns _ _ c.execute.result c.execute.ensures.runs;
      ends = law.rollback_ends _ _ c.execute.result c.execute.ensures.runs;
      stop = law.rollback_stop _ _ c.execute.result c.execute.ensures.survives;
    }
