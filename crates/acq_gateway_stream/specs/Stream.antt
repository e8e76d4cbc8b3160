-- What a gateway gets over one connection (own profile): steps, what they tell, and what they
-- write.
use Rattle.std.proofs.Common.{inl, inr}
use Rattle.std.specs.Prelude.{◌≡◌, ◌⊎◌, ◌++◌, ℕ, List, [], ◌∷◌, Option, drop, take}
use Rattle.std.specs.List.{concat}
use Rattle.acq_core.specs.Tables.{Tables}
use Rattle.acq_gateway.specs.declared.gateway.Gateway.{Gateway}
use Rattle.acq_gateway.specs.Telling.{IsHeld, Stays, Takes, Tells, TellsRows, bad_lines, unsent_of}

-- where a step led, what it told, and what it wrote of what was to be written
pub record Step : Type 0 where
  pub to : Gateway
  pub told : List ℕ
  pub wrote : List ℕ

-- lines of the gateway were taken
pub record Took (from : Gateway) (step : Step) : Type 0 where
  pub takes : Takes from step.to
  pub told : step.told ≡ bad_lines takes.bad
  pub wrote : step.wrote ≡ []

-- the host looked into its book, whose tables these were then
pub record Looked (from : Gateway) (step : Step) : Type 0 where
  pub tables : Tables
  pub moment : ℕ
  pub tells : Tells tables moment from step.to
  pub told : step.told ≡ concat tells.words ++ tells.lines
  pub wrote : step.wrote ≡ []

-- so many bytes were written
pub record Wrote (from : Gateway) (step : Step) : Type 0 where
  pub bytes : ℕ
  pub wrote : step.wrote ≡ take bytes (unsent_of from)
  pub unsent : unsent_of step.to ≡ drop bytes (unsent_of from)
  pub held : IsHeld step.to
  pub rows : step.to.rows ≡ from.rows
  pub asked : step.to.from ≡ from.from
  pub told : step.told ≡ []

-- bytes came, or news
pub record Waited (from : Gateway) (step : Step) : Type 0 where
  pub stays : Stays from step.to
  pub told : step.told ≡ []
  pub wrote : step.wrote ≡ []

abbrev pub IsStep : Gateway → Step → Type 0
IsStep from step = Took from step ⊎ Looked from step ⊎ Wrote from step ⊎ Waited from step

abbrev pub AreSteps : Gateway → List Step → Type 0
AreSteps from [] = Unit
AreSteps from (step ∷ steps) = IsStep from step × AreSteps step.to steps

-- where they led
abbrev pub behind : Gateway → List Step → Gateway
behind from [] = from
behind from (step ∷ steps) = behind step.to steps

abbrev pub told_by : List Step → List ℕ
told_by [] = []
told_by (step ∷ steps) = step.told ++ told_by steps

abbrev pub wrote_by : List Step → List ℕ
wrote_by [] = []
wrote_by (step ∷ steps) = step.wrote ++ wrote_by steps

-- ---- rows

-- a piece has the lines of the rows behind so many, up to so many
pub record Piece : Type 0 where
  pub begins : ℕ
  pub ends : ℕ

-- of what a look told
abbrev pub piece_of : {t : Tables} {moment : ℕ} {old new : Option ℕ} {text : List ℕ} →
    TellsRows t moment old new text → List Piece
piece_of (inl none) = []
piece_of (inr some) = record { begins = some.0; ends = some.2.rows } ∷ []

abbrev pub piece_by : {from : Gateway} {step : Step} → IsStep from step → List Piece
piece_by (inr (inl looked)) = piece_of looked.tells.rows
piece_by other = []

abbrev pub pieces_by : (from : Gateway) (steps : List Step) → AreSteps from steps → List Piece
pieces_by from [] none = []
pieces_by from (step ∷ steps) are = piece_by are.0 ++ pieces_by step.to steps are.1

-- no line of its own that was taken asks for rows
abbrev pub AsksNothing : {from : Gateway} {step : Step} → IsStep from step → Type 0
AsksNothing {from} {step} (inl took) = step.to.rows ≡ from.rows × (step.to.from ≡ from.from)
AsksNothing other = Unit

abbrev pub AskNothing : (from : Gateway) (steps : List Step) → AreSteps from steps → Type 0
AskNothing from [] none = Unit
AskNothing from (step ∷ steps) are = AsksNothing are.0 × AskNothing step.to steps are.1

-- each begins where the last one ended, and the last one ends there
abbrev pub Follow : ℕ → List Piece → ℕ → Type 0
Follow begin [] end = begin ≡ end
Follow begin (piece ∷ pieces) end = (piece.begins ≡ begin) × Follow piece.ends pieces end
