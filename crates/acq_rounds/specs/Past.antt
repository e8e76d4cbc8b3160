-- What connections that ended have had.
use Rattle.std.specs.Prelude.{◌≡◌, [], ◌∷◌, ◌++◌}
use Rattle.acq_rounds.specs.declared.past.Past.{Past}
use Rattle.acq_rounds.specs.declared.past.Last.{Last}
use Rattle.acq_rounds.specs.Acts.{Connection}

-- a connection as it ended
abbrev pub connection_in : Last → Connection
connection_in l = record {
  number = l.number;
  came = l.came.now.bytes;
  held = l.held.now;
  went = l.went.now.bytes;
  unsent = l.unsent.now;
  stage = l.stage.now;
}

pub record IsFresh (past : Past) : Type 0 where
  pub list : past.list ≡ []

pub record IsAfter (old : Past) (last : Last) (new : Past) : Type 0 where
  pub list : new.list ≡ old.list ++ connection_in last ∷ []

pub record IsThen (first other new : Past) : Type 0 where
  pub list : new.list ≡ first.list ++ other.list
