use Rattle.acq_history.proofs.AcceptedRequests.{admits, accepts_completions, accepts_reversals}
use Rattle.acq_history.proofs.posting_laws.requests_are_accepted.Goals as goal

pub returns : goal.returns
returns c =
    record {
      admitted = admits;
      completions = accepts_completions;
      reversals = accepts_reversals;
    }
