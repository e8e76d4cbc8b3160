-- A control connection that ended.
use Rattle.std.specs.Prelude.{◌≡◌, ℕ, List, [], ◌∷◌, ◌++◌}
use Rattle.acq_rounds.specs.Acts.{Connection}
use Rattle.acq_rounds.specs.declared.stage.Stage.TheVariants.{Listening}
use Rattle.acq_controls.specs.Aside.{Aside, Open}

-- as it ended: what it held of a line that was begun
abbrev pub last_of : List ℕ → Open → Connection
last_of held o = record {
  number = o.number;
  came = o.passed.came;
  held = held;
  went = o.passed.went;
  unsent = o.passed.unsent;
  stage = Listening;
}

-- it is among those that ended now
pub record EndsAs (o : Open) (before after : Aside) : Type 0 where
  pub held : List ℕ
  pub count : after.count ≡ before.count
  pub ended : after.ended ≡ before.ended ++ last_of held o ∷ []
  pub here : after.here ≡ before.here
