-- A gateway that went.
use Rattle.std.specs.Prelude.{◌≡◌, ℕ, List, [], ◌∷◌, ◌++◌}
use Rattle.acq_rounds.specs.Acts.{Connection}
use Rattle.acq_rounds.specs.declared.stage.Stage.TheVariants.{Listening}
use Rattle.acq_gateways.specs.Told.{Open, Told}

-- as it went: what was still to be written
abbrev pub last_of : List ℕ → Open → Connection
last_of unsent o = record {
  number = o.number;
  came = o.came;
  held = [];
  went = o.went;
  unsent = unsent;
  stage = Listening;
}

-- it is among those that went now
pub record EndsAs (o : Open) (before after : Told) : Type 0 where
  pub unsent : List ℕ
  pub count : after.count ≡ before.count
  pub ended : after.ended ≡ before.ended ++ last_of unsent o ∷ []
  pub here : after.here ≡ before.here
