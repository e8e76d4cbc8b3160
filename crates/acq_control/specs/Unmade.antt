-- What of an answer is still to be made, slice by slice: the rest of a clearing file; or rows that
-- are gone over before the line that asks for them is taken, of which nothing is said yet.
use Rattle.std.specs.Prelude.{◌≡◌, ◌+◌, ℕ, Bool, true, false, List, [], ◌++◌, length, Option}
use Rattle.std.specs.Prelude.{Some, None}
use Rattle.acq_link.specs.MemorySink.{sent_of}
use Rattle.acq_core.specs.Tables.{Tables}
use Rattle.acq_reports.specs.Refusals.{day_refusal}
use Rattle.acq_clearing.specs.ClearingFile.{clearing_text}
use Rattle.acq_clearing.specs.Slices.{file_from}
use Rattle.acq_clearing.specs.declared.bookmark.Bookmark.TheVariants.{Beginning}
use Rattle.acq_control.specs.Answers.{answer_of, text_answer}
use Rattle.acq_control.specs.declared.clearing_answer.ClearingAnswer.{ClearingAnswer}
use Rattle.acq_control.specs.declared.clearing_stage.ClearingStage.{ClearingStage}
use Rattle.acq_control.specs.declared.clearing_stage.ClearingStage.TheVariants.{Counting, Saying}
use Rattle.acq_inquiry.specs.Searching.{IsSearched}
use Rattle.acq_statement.specs.Gathered.{IsGathered}
use Rattle.acq_control.specs.declared.question.Question.{Question}
use Rattle.acq_control.specs.declared.said.Said.{Said}
use Rattle.acq_control.specs.declared.unmade_answer.UnmadeAnswer.{UnmadeAnswer}
use Rattle.acq_control.specs.declared.unmade_answer.UnmadeAnswer.TheVariants.{Clearing, Finding}
use Rattle.acq_control.specs.declared.unmade_answer.UnmadeAnswer.TheVariants.{Comparing}
use Rattle.acq_control.specs.declared.unmade_answer.UnmadeAnswer.TheVariants.{Stating}

-- the file of a day, of which nothing is made yet
abbrev pub at_first : ℕ → ClearingAnswer
at_first day = record { day = day; stage = Counting Beginning 0 }

-- while its bytes are counted, all of the answer is still to be made; then the rest of the file
abbrev pub rest_of : Tables → ℕ → ClearingStage → List ℕ
rest_of t day (Counting from bytes) = text_answer (clearing_text t day)
rest_of t day (Saying from) = file_from t day from

abbrev pub unmade_at : Tables → Option UnmadeAnswer → List ℕ
unmade_at t None = []
unmade_at t (Some (Clearing c)) = rest_of t c.day c.stage
unmade_at t (Some (Finding search)) = []
unmade_at t (Some (Stating gathering)) = []
unmade_at t (Some (Comparing comparison)) = []

-- whatever was begun to be said is made, so that a line may be taken
abbrev pub is_said : Option UnmadeAnswer → Bool
is_said None = true
is_said (Some (Clearing c)) = false
is_said (Some (Finding search)) = true
is_said (Some (Stating gathering)) = true
is_said (Some (Comparing comparison)) = true

-- so many bytes are those in front of the bookmark
abbrev pub IsCounted : Tables → ℕ → ClearingStage → Type 0
IsCounted t day (Counting from bytes) =
    bytes + length (file_from t day from) ≡ length (clearing_text t day)
IsCounted t day (Saying from) = Unit {0}

-- the day may be reported on, and the bytes are counted
pub record IsUnmade (t : Tables) (c : ClearingAnswer) : Type 0 where
  pub given : day_refusal t c.day ≡ None
  pub counted : IsCounted t c.day c.stage

abbrev pub MayBeUnmade : Tables → Option UnmadeAnswer → Type 0
MayBeUnmade t None = Unit {0}
MayBeUnmade t (Some (Clearing c)) = IsUnmade t c
MayBeUnmade t (Some (Finding search)) = IsSearched t search
MayBeUnmade t (Some (Stating gathering)) = IsGathered t gathering
MayBeUnmade t (Some (Comparing comparison)) = Unit {0}

-- what is said next, and behind it what is then still to be made, is what was still to be made
pub record GoesOn (t : Tables) (rest : List ℕ) (said : Said) : Type 0 where
  pub whole : sent_of said.text ++ unmade_at t said.unmade ≡ rest
  pub unmade : MayBeUnmade t said.unmade

-- a text was put behind others, whose rest is still to be made over the tables now
pub record Puts (now : Tables) (old new text : List ℕ) (unmade : Option UnmadeAnswer) : Type 0
  where
    pub whole : new ++ unmade_at now unmade ≡ old ++ text
    pub may : MayBeUnmade now unmade

-- what is said to a line, and behind it what is still to be made over the tables now, is its answer
pub record Says (old now : Tables) (number : ℕ) (asked : Option Question) (said : Said) : Type 0
  where
    pub whole : sent_of said.text ++ unmade_at now said.unmade ≡ answer_of old number asked
    pub unmade : MayBeUnmade now said.unmade
