use Rattle.acq_history.proofs.AmountsInDigits.{amounts_are_spelled, remainders_are_spelled}
use Rattle.acq_history.proofs.AmountsInDigits.{nothing_else_remains, requests_are_messages}
use Rattle.acq_history.proofs.posting_laws.amounts_are_spelled.Goals as goal

pub returns : goal.returns
returns c =
    record {
      messages = requests_are_messages;
      amounts = amounts_are_spelled;
      remainders = remainders_are_spelled;
      nothing = nothing_else_remains;
    }
