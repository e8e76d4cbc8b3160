-- What is done for terminals is nothing to others, nor are events of which nothing is told.
use Rattle.std.proofs.Common.{List, [], ◌∷◌, ◌++◌}
use Rattle.acq_core.specs.declared.event.Event.{Event}
use Rattle.acq_core.specs.Tables.{Tables}
use Rattle.acq_controls.proofs.Staying as controls
use Rattle.acq_gateways.proofs.Staying.{follow_more}
use Rattle.acq_rounds.specs.Runs.{Group, Grouped, Step, Untold}
use Rattle.acq_tcp.specs.Others.{Beside, OthersFollow}

pub past_group : (t : Tables) (steps : List Step) (g : Group) (b : Beside) →
    OthersFollow t steps b → OthersFollow t (steps ++ Grouped g ∷ []) b
past_group t steps g b f = record {
  controls = controls.past_group t steps g b.controls f.controls;
  gateways = follow_more t steps (Grouped g ∷ []) b.gateways f.gateways;
}

pub past_untold : (t : Tables) (steps : List Step) (events : List Event) (b : Beside) →
    OthersFollow t steps b → OthersFollow t (steps ++ Untold events ∷ []) b
past_untold t steps events b f = record {
  controls = controls.past_untold t steps events b.controls f.controls;
  gateways = follow_more t steps (Untold events ∷ []) b.gateways f.gateways;
}
