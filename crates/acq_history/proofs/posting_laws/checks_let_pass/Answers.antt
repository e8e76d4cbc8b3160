use Rattle.acq_history.proofs.ValuesThatPass.{amounts_are_within, cards_are_in_force}
use Rattle.acq_history.proofs.ValuesThatPass.{holds_are_open_to_their_end, acquirers_are_named}
use Rattle.acq_history.proofs.ValuesThatPass.{originals_stand}
use Rattle.acq_history.proofs.posting_laws.checks_let_pass.Goals as goal

pub returns : goal.returns
returns c =
    record {
      amounts = amounts_are_within;
      cards = cards_are_in_force;
      holds = holds_are_open_to_their_end;
      acquirers = acquirers_are_named;
      originals = originals_stand;
    }
