use Rattle.acq_history.proofs.RepliesToRepeats.{repeats_are_kept, others_are_duplicates}
use Rattle.acq_history.proofs.RepliesToRepeats.{only_repeats_are_kept}
use Rattle.acq_history.proofs.posting_laws.repeats_are_kept.Goals as goal

pub returns : goal.returns
returns c =
    record {
      kept = repeats_are_kept;
      others = others_are_duplicates;
      only = only_repeats_are_kept;
    }
