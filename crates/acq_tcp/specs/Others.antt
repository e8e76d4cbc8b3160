-- Whoever else is served between two groups: control connections, and gateways to issuers.
use Rattle.std.specs.Prelude.{List, []}
use Rattle.acq_core.specs.Tables.{Tables}
use Rattle.acq_controls.specs.Aside.{Aside, aside_of}
use Rattle.acq_controls.specs.Following.{ControlsFollow}
use Rattle.acq_gateways.specs.Following.{GatewaysFollow}
use Rattle.acq_gateways.specs.Told.{Told, told_of}
use Rattle.acq_rounds.specs.Runs.{Step}
use Rattle.acq_tcp.specs.declared.others.Others.{Others}

-- what they had
pub record Beside : Type 0 where
  pub controls : Aside
  pub gateways : Told

abbrev pub beside_of : Others → Beside
beside_of o = record { controls = aside_of o.controls; gateways = told_of o.gateways }

-- There is one list of steps: each control connection has the answers to its own lines over it, and
-- each gateway was told of the book behind some of it.
pub record OthersFollow (t : Tables) (steps : List Step) (b : Beside) : Type 0 where
  pub controls : ControlsFollow t steps b.controls
  pub gateways : GatewaysFollow t steps b.gateways

-- whatever steps they follow, they do so as before
abbrev pub OthersStay : Beside → Beside → Type 0
OthersStay before after =
    (t : Tables) (steps : List Step) → OthersFollow t steps before → OthersFollow t steps after

-- none has come yet
abbrev pub OthersHadNone : Beside → Type 0
OthersHadNone b = (t : Tables) → OthersFollow t [] b
