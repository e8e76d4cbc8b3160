use Rattle.acq_sql_changes.proofs.Transactions as law
use Rattle.acq_sql_changes.proofs.transaction.keep.Goals as goal

pub returns : goal.returns
returns g c =
    let ran = c.execute.ensures.runs in
    record {
      keeps = law.keeps _ _ c.execute.result ran;
      undoes = law.undoes _ _ c.execute.result ran;
      ends = law.commit_ends _ _ c.execute.result ran;
      stop = law.commit_stop _ _ c.execute.result c.execute.ensures.survives;
      fails = law.commit_fails _ _ c.execute.result ran;
    }
