use Rattle.acq_history.proofs.AdmittedRequests.{admitted_may_be}
use Rattle.acq_history.proofs.ExactlyAccepted.{admits_only, completes_only, reverses_only}
use Rattle.acq_history.proofs.posting_laws.only_such_are_accepted.Goals as goal

pub returns : goal.returns
returns c =
    record {
      asked = admits_only;
      admitted = admitted_may_be;
      completions = completes_only;
      reversals = reverses_only;
    }
