use Rattle.acq_history.proofs.LegsThatClear.{clears_under_its_leg}
use Rattle.acq_history.proofs.NamedPostings.{replies_name_what_clears}
use Rattle.acq_history.proofs.ToldOnEvents.{clears_as_told, tells_issuers_codes}
use Rattle.acq_history.proofs.ToldOnEvents.{tells_issuers_ids}
use Rattle.acq_history.proofs.ToldIsDone.{does_as_told}
use Rattle.acq_history.proofs.RequestsThatClear.{clears_by_request}
use Rattle.acq_history.proofs.posting_laws.told_is_cleared.Goals as goal

pub returns : goal.returns
returns c =
    record {
      clears = clears_as_told;
      requests = clears_by_request;
      legs = clears_under_its_leg;
      named = replies_name_what_clears;
      done = does_as_told;
      issuers = tells_issuers_codes;
      ids = tells_issuers_ids;
    }
