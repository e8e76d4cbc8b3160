use Rattle.acq_history.proofs.AdmittedRequests.{approved_holds_are_open, lowered_holds_stay_open}
use Rattle.acq_history.proofs.HoldsCaptured.{captures_within_hold, captures_once, reverses_once}
use Rattle.acq_history.proofs.HoldsThatAreOpen.{open_holds_are_capturable}
use Rattle.acq_history.proofs.posting_laws.captures_stay_within_holds.Goals as goal

pub returns : goal.returns
returns c =
    record {
      within = captures_within_hold;
      once = captures_once;
      reversed = reverses_once;
      listed = open_holds_are_capturable;
      open_until = approved_holds_are_open;
      lowered = lowered_holds_stay_open;
    }
