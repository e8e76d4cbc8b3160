use Rattle.acq_sql_changes.proofs.Transactions as law
use Rattle.acq_sql_changes.proofs.transaction.begin.Goals as goal

pub returns : goal.returns
returns g c =
    let ran = c.execute.ensures.runs in
    record {
      begins = law.begins _ _ c.execute.result ran;
      stays = law.stays _ _ c.execute.result ran;
      outside = law.outside _ _ c.execute.result ran;
      stop = law.begin_stop _ _ c.execute.result c.execute.ensures.survives;
      fails = law.begin_fails _ _ c.execute.result ran;
    }
