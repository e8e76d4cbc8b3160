-- Gateways to issuers beside terminals: what each was told of the steps that a host did.
use Rattle.std.specs.Prelude.{◌≡◌, ◌+◌, ℕ, List, [], ◌∷◌, ◌++◌, Option, Some, None, IfSome, length}
use Rattle.std.proofs.Common.{inl, inr}
use Rattle.std.specs.List.{AllByRecursion}
use Rattle.acq_core.specs.Tables.{Tables, tables_after}
use Rattle.acq_gateway.specs.declared.gateway.Gateway.{Gateway}
use Rattle.acq_gateway.specs.Telling.{IsNew}
use Rattle.acq_gateway_stream.specs.Stream as stream
use Rattle.acq_gateway_stream.specs.Stream.{AreSteps, IsStep, behind, wrote_by}
use Rattle.acq_rounds.specs.Acts.{Connection}
use Rattle.acq_rounds.specs.Runs.{Step, events_in}
use Rattle.acq_gateways.specs.Told.{Open, Told}

-- the tables of a step that looked into the book
abbrev pub look_in : {from : Gateway} {step : stream.Step} → IsStep from step → List Tables
look_in (inr (inl looked)) = looked.tables ∷ []
look_in other = []

-- the tables of each look into the book, in order
abbrev pub looks_by : (from : Gateway) (steps : List stream.Step) → AreSteps from steps →
    List Tables
looks_by from [] none = []
looks_by from (step ∷ steps) are = look_in are.0 ++ looks_by step.to steps are.1

-- Each of these is the host's tables behind a beginning of what it did, and a later one is behind
-- no shorter beginning.
abbrev pub AreReached : Tables → List Step → List Tables → Type 0
AreReached t steps [] = Unit {0}
AreReached t steps (now ∷ later) =
    (before after : List Step) × (steps ≡ before ++ after)
    × (now ≡ tables_after t (events_in before)) × AreReached now after later

-- What a gateway was told: there are steps from a new one on, to how it stands, that wrote what
-- went over its connection; and each of their looks into the book was over the host's tables behind
-- what it had done until then.
pub record IsTold (t : Tables) (steps : List Step) (went : List ℕ) (gateway : Gateway) : Type 0
  where
    pub first : Gateway
    pub new : IsNew first
    pub did : List stream.Step
    pub are : AreSteps first did
    pub stands : behind first did ≡ gateway
    pub wrote : wrote_by did ≡ went
    pub looks : AreReached t steps (looks_by first did are)

-- so was one that went, however it stood then
abbrev pub WasTold : Tables → List Step → Connection → Type 0
WasTold t steps c = (gateway : Gateway) × IsTold t steps c.went gateway

-- how many are there
abbrev pub many_here : Option Open → ℕ
many_here None = 0
many_here (Some o) = 1

-- Each gateway that connected was told so, those that went too, and none is left out.
pub record GatewaysFollow (t : Tables) (steps : List Step) (g : Told) : Type 0 where
  pub ended : AllByRecursion (WasTold t steps) g.ended
  pub here : IfSome g.here (λ o. IsTold t steps o.went o.gateway)
  pub every : g.count ≡ length g.ended + many_here g.here

-- one goes on: whatever steps it was told of, it is told of them still
abbrev pub GoesOn : Open → Open → Type 0
GoesOn before after =
    (t : Tables) (steps : List Step) → IsTold t steps before.went before.gateway
    → IsTold t steps after.went after.gateway

-- whatever steps they follow, they do so as before
abbrev pub GatewaysStay : Told → Told → Type 0
GatewaysStay before after =
    (t : Tables) (steps : List Step) → GatewaysFollow t steps before
    → GatewaysFollow t steps after

-- whatever steps to these tables they follow, they do so as before
abbrev pub LooksOn : Tables → Told → Told → Type 0
LooksOn now before after =
    (t : Tables) (steps : List Step) → now ≡ tables_after t (events_in steps)
    → GatewaysFollow t steps before → GatewaysFollow t steps after

-- none has connected yet
abbrev pub HadNone : Told → Type 0
HadNone g = (t : Tables) → GatewaysFollow t [] g
