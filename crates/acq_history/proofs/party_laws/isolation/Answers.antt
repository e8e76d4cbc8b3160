use Rattle.acq_history.proofs.MerchantsRuns.{posts_alone, holds_alone}
use Rattle.acq_history.proofs.ReconciliationsAlone.{reconciles_alone}
use Rattle.acq_history.proofs.IsolatedParties.{isolated, two_runs}
use Rattle.acq_history.proofs.party_laws.isolation.Goals as goal

pub returns : goal.returns
returns c =
    record {
      isolated = isolated;
      two_runs = two_runs;
      posted = posts_alone;
      holds = holds_alone;
      reconciled = reconciles_alone;
    }
