-- What is said between an input and a host: the input's lines, and the host's answers to them.
use Rattle.std.specs.Prelude.{◌≡◌, ◌⊎◌, ◌<◌, ℕ, Bool, List, [], ◌∷◌, ◌++◌, length, take}
use Rattle.std.specs.Prelude.{true, Option, Some, None, Result, Ok, Err, Vec}
use Rattle.std.specs.declared.alloc.Global.{Global}
use Rattle.std.specs.List.{All, flat_map, list_any}
use Rattle.acq_faults.specs.declared.fault.Fault.{Fault}
use Rattle.acq_faults.specs.declared.fault.Fault.TheVariants.{Memory, BadLength, Ended, Read}
use Rattle.acq_faults.specs.declared.fault.Fault.TheVariants.{Write}
use Rattle.acq_control.specs.Lines.{BeginsWithLine, IsInLine, LinesThen, all_ended, ended}
use Rattle.acq_control.specs.Lines.{longest_line}
use Rattle.acq_control.specs.HostAnswers.{Answer, BeginsWithAnswer, HasBadHeading, IsAnswer}
use Rattle.acq_control.specs.HostAnswers.{IsInAnswer, is_fault, is_fault_kind, kind_of_line}
use Rattle.acq_control.specs.HostAnswers.{said, shown, shown_of, spelled, told, told_of}
use Rattle.acq_control.specs.declared.answer_kind.AnswerKind.{AnswerKind}
use Rattle.acq_control.specs.declared.host_answer.HostAnswer.{HostAnswer}

-- ---- the lines of an input

-- The input ends inside its last line, behind the earlier ones.
pub record EndsInLine (input : List ℕ) (lines : List (List ℕ)) : Type 0 where
  pub earlier : List (List ℕ)
  pub last : List ℕ
  pub before : LinesThen input earlier last
  pub within : IsInLine last
  pub some : 0 < length last
  pub all : lines ≡ earlier ++ last ∷ []

-- these are the lines of an input, of which the last one may lack its line feed
abbrev pub AreLines : List ℕ → List (List ℕ) → Type 0
AreLines input lines = LinesThen input lines [] ⊎ EndsInLine input lines

-- this line stands in front, or is all that there is and lacks its line feed
abbrev pub IsNextLine : List ℕ → List ℕ → Type 0
IsNextLine bytes line =
    ((rest : List ℕ) × BeginsWithLine bytes line rest)
    ⊎ ((bytes ≡ line) × IsInLine line × (0 < length line))

-- ---- a talk

-- what went to a host and what came from it, and what of that was shown and told
pub record Talk : Type 0 where
  pub sent : List ℕ
  pub came : List ℕ
  pub shown : List ℕ
  pub told : List ℕ

abbrev pub joined : Talk → Talk → Talk
joined before after = record {
  sent = before.sent ++ after.sent;
  came = before.came ++ after.came;
  shown = before.shown ++ after.shown;
  told = before.told ++ after.told;
}

-- These lines were sent, each got one answer, and what the answers say was written; behind them
-- came this rest.
pub record Answered (talk : Talk) (lines : List (List ℕ)) (answers : List Answer) (rest : List ℕ)
    : Type 0 where
  pub count : length answers ≡ length lines
  pub each : All IsAnswer answers
  pub sent : talk.sent ≡ all_ended lines
  pub came : talk.came ≡ flat_map spelled answers ++ rest
  pub shown : talk.shown ≡ flat_map shown answers
  pub told : talk.told ≡ flat_map told answers

-- One line was sent, its answer came, of which some bytes were held before, and what it says was
-- written.
pub record AnswersLine (line held : List ℕ) (turn : Talk) (answer : Answer) (rest : List ℕ)
    : Type 0 where
  pub sent : turn.sent ≡ ended line
  pub came : BeginsWithAnswer (held ++ turn.came) answer rest
  pub shown : turn.shown ≡ shown answer
  pub told : turn.told ≡ told answer

-- ---- a talk that is stopped

-- so many first bytes of the line went out, and nothing else
pub record BreaksLine (line : List ℕ) (turn : Talk) (n : ℕ) : Type 0 where
  pub short : n < length (ended line)
  pub sent : turn.sent ≡ take n (ended line)
  pub came : turn.came ≡ []
  pub shown : turn.shown ≡ []
  pub told : turn.told ≡ []

-- the line was sent, and nothing was written of an answer
pub record IsUnanswered (line : List ℕ) (turn : Talk) : Type 0 where
  pub sent : turn.sent ≡ ended line
  pub shown : turn.shown ≡ []
  pub told : turn.told ≡ []

-- the line was sent and its answer came, of which so many first bytes were written
pub record BreaksAnswer (line held : List ℕ) (turn : Talk) (n : ℕ) : Type 0 where
  pub answer : Answer
  pub rest : List ℕ
  pub sent : turn.sent ≡ ended line
  pub came : BeginsWithAnswer (held ++ turn.came) answer rest
  pub short : n < length (said answer)
  pub shown : turn.shown ≡ take n (shown answer)
  pub told : turn.told ≡ take n (told answer)

-- how the turn of a line ends that a fault stops
abbrev pub StopsTurn : (line held : List ℕ) → Talk → Fault → Type 0
StopsTurn line held turn (Write n) = BreaksLine line turn n ⊎ BreaksAnswer line held turn n
StopsTurn line held turn Memory = IsUnanswered line turn
StopsTurn line held turn Read = IsUnanswered line turn
StopsTurn line held turn Ended = IsUnanswered line turn × IsInAnswer (held ++ turn.came)
StopsTurn line held turn BadLength = IsUnanswered line turn × HasBadHeading (held ++ turn.came)
StopsTurn line held turn other = ⊥

-- why no line can be had behind these bytes of the input: memory, a failed read, or a line that is
-- too long
abbrev pub LacksLine : List ℕ → Fault → Type 0
LacksLine held Memory = Unit {0}
LacksLine held Read = Unit {0}
LacksLine held BadLength = IsInLine held × (length held ≡ longest_line)
LacksLine held other = ⊥

-- ---- how a talk goes

-- all lines of the input were answered
pub record TellsAll (input : List ℕ) (talk : Talk) (is_refused : Bool) : Type 0 where
  pub lines : List (List ℕ)
  pub answers : List Answer
  pub rest : List ℕ
  pub taken : AreLines input lines
  pub answered : Answered talk lines answers rest
  pub refused : is_refused ≡ list_any is_fault answers

-- The input's first lines were answered, and then a fault stopped it: no further line could be had,
-- or in the turn of the next one.
pub record TellsSome (input : List ℕ) (talk : Talk) (fault : Fault) : Type 0 where
  pub lines : List (List ℕ)
  pub answers : List Answer
  pub rest : List ℕ
  -- what of the input stands behind these lines
  pub held : List ℕ
  pub before : Talk
  pub taken : LinesThen input lines held
  pub answered : Answered before lines answers rest
  pub stops : ((talk ≡ before) × LacksLine held fault)
      ⊎ ((line : List ℕ) × (turn : Talk) × (talk ≡ joined before turn) × IsNextLine held line
      × StopsTurn line rest turn fault)

-- how it went; the result says whether an answer was a fault's line
abbrev pub Tells : (input : List ℕ) → Talk → Result Bool Fault → Type 0
Tells input talk (Ok refused) = TellsAll input talk refused
Tells input talk (Err fault) = TellsSome input talk fault

-- how many reads failed, and how many writes
abbrev pub failed_reads : {X : Type 0} → Result X Fault → ℕ
failed_reads (Err Read) = 1
failed_reads other = 0

abbrev pub failed_writes : {X : Type 0} → Result X Fault → ℕ
failed_writes (Err (Write n)) = 1
failed_writes other = 0

-- ---- parts of a talk

-- what taking a line of the input gives, by what was held and came, and what is held now
abbrev pub GivesLine : List ℕ → (after : List ℕ) → (over : Bool)
    → Result (Option (Vec ℕ Global)) Fault → Type 0
GivesLine bytes after over (Ok (Some line)) =
    (it : List ℕ) × (line.items ≡ ended it)
    × (BeginsWithLine bytes it after
    ⊎ ((over ≡ true) × (bytes ≡ it) × IsInLine it × (0 < length it) × (after ≡ [])))
GivesLine bytes after over (Ok None) = (bytes ≡ []) × (over ≡ true)
GivesLine bytes after over (Err fault) = LacksLine bytes fault

-- why no answer can be taken out of these bytes
abbrev pub CannotTake : List ℕ → Fault → Type 0
CannotTake bytes Memory = Unit {0}
CannotTake bytes BadLength = HasBadHeading bytes
CannotTake bytes other = ⊥

-- why no answer comes, of these bytes
abbrev pub StopsComing : List ℕ → Fault → Type 0
StopsComing bytes Memory = Unit {0}
StopsComing bytes Read = Unit {0}
StopsComing bytes Ended = IsInAnswer bytes
StopsComing bytes BadLength = HasBadHeading bytes
StopsComing bytes other = ⊥

-- what waiting for an answer gives
abbrev pub Comes : List ℕ → (after : List ℕ) → Result HostAnswer Fault → Type 0
Comes bytes after (Ok it) =
    (answer : Answer) × BeginsWithAnswer bytes answer after
    × (it.kind ≡ kind_of_line answer.line) × (it.said.items ≡ said answer)
Comes bytes after (Err fault) = StopsComing bytes fault

abbrev pub ComesOf : (received received_after held after : List ℕ)
    → Result HostAnswer Fault → Type 0
ComesOf received received_after held after result =
    (more : List ℕ) × (received_after ≡ received ++ more) × Comes (held ++ more) after result

-- how what an answer says is written
abbrev pub Writes : AnswerKind → List ℕ → (shown told : List ℕ) → Result Bool Fault → Type 0
Writes kind bytes shown told (Ok refused) =
    (shown ≡ shown_of kind bytes) × (told ≡ told_of kind bytes) × (refused ≡ is_fault_kind kind)
Writes kind bytes shown told (Err (Write n)) =
    (n < length bytes) × (shown ≡ take n (shown_of kind bytes))
    × (told ≡ take n (told_of kind bytes))
Writes kind bytes shown told (Err other) = ⊥

-- how the turn of a line goes
abbrev pub TakesTurn : (line held : List ℕ) → Talk → (after : List ℕ) → Result Bool Fault → Type 0
TakesTurn line held turn after (Ok refused) =
    (answer : Answer) × AnswersLine line held turn answer after × (refused ≡ is_fault answer)
TakesTurn line held turn after (Err fault) = StopsTurn line held turn fault
