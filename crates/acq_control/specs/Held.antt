-- What came over a control connection and belongs to no line yet. Of a line that is too long its
-- beginning isn't kept.
use Rattle.std.specs.Prelude.{◌≡◌, ◌==◌, ◌<◌, ◌≤◌, ◌++◌, ◌&&◌, ℕ, Bool, not, true, false, List, []}
use Rattle.std.specs.Prelude.{length}
use Rattle.acq_control.specs.Lines.{BeginsWithLine, IsInLine, longest_line}
use Rattle.acq_control.specs.declared.taken_line.TakenLine.{TakenLine}
use Rattle.acq_control.specs.declared.taken_line.TakenLine.TheVariants.{Whole, TooLong}

-- what is kept of it, and whether the beginning of a line was dropped in front of that
pub record Held : Type 0 where
  pub kept : List ℕ
  pub is_cut : Bool

abbrev pub nothing : Held
nothing = record { kept = []; is_cut = false }

abbrev pub is_nothing : Held → Bool
is_nothing held = not held.is_cut && (length held.kept == 0)

-- These bytes came and belong to no line yet: what was dropped, if a line was cut, and behind it
-- what is kept. No line ends in what was dropped, which is too long for one.
pub record Holds (held : Held) (bytes : List ℕ) : Type 0 where
  pub dropped : List ℕ
  pub within : IsInLine dropped
  pub whole : bytes ≡ dropped ++ held.kept
  pub uncut : held.is_cut ≡ false → dropped ≡ []
  pub cut : held.is_cut ≡ true → longest_line ≤ length dropped

-- behind it this piece came
abbrev pub HoldsMore : Held → Held → List ℕ → Type 0
HoldsMore before after piece =
    (bytes : List ℕ) → Holds before bytes → Holds after (bytes ++ piece)

-- what is kept of the line in front, from its beginning on
abbrev pub front_by : Bool → List ℕ → List ℕ
front_by true kept = []
front_by false kept = kept

abbrev pub front_of : Held → List ℕ
front_of held = front_by held.is_cut held.kept

-- this is the line that was taken; of one that is too long no more is known
abbrev pub IsTaken : TakenLine → List ℕ → Type 0
IsTaken (Whole text) line = (text.items ≡ line) × (length line < longest_line)
IsTaken TooLong line = longest_line ≤ length line

-- What came begins with the line that was taken, and behind it stands what is held now.
pub record TakesFront (before after : Held) (taken : TakenLine) (bytes : List ℕ) : Type 0 where
  pub line : List ℕ
  pub rest : List ℕ
  pub begins : BeginsWithLine bytes line rest
  pub holds : Holds after rest
  pub is : IsTaken taken line
