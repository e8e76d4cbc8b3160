-- One run of the program over an input, and its status.
use Rattle.std.specs.Prelude.{◌≡◌, ◌⊎◌, ℕ, List, [], Option, None, Some, Result, Ok, Err, OnOk, String}
use Rattle.std.specs.declared.alloc.Global.{Global}
use Rattle.acq_link.specs.Moves.{TakesAll}
use Rattle.acq_program.specs.declared.action.Action.{Action}
use Rattle.acq_program.specs.declared.action.Action.TheVariants.{Init, Migrate, Once, Listen}
use Rattle.acq_program.specs.declared.action.Action.TheVariants.{Replay, Report, Holds, Show, Make}
use Rattle.acq_program.specs.declared.action.Action.TheVariants.{Pending, Status, Tell, Ask, Explain}
use Rattle.acq_program.specs.declared.action.Action.TheVariants as actions
use Rattle.acq_program.specs.declared.option_name.OptionName.{OptionName}
use Rattle.acq_program.specs.Arguments.{AsksFor}
use Rattle.acq_front.specs.Talk.{Saying, says_nothing}
use Rattle.acq_faults.specs.declared.fault.Fault.{Fault}
use Rattle.acq_faults.specs.declared.listen_options.ListenOptions.{ListenOptions}
use Rattle.acq_commands.specs.declared.once_options.OnceOptions.{OnceOptions}
use Rattle.acq_faults.specs.Faults.{status_of}
use Rattle.acq_commands.specs.Explain.{ExplainsAll}
use Rattle.acq_commands.specs.Once.{ServesInMemory}
use Rattle.acq_commands.specs.declared.explain_options.ExplainOptions.{ExplainOptions}
use Rattle.acq_core.specs.Tables.{new_tables, tables_after}
use Rattle.acq_core.specs.declared.event.Event.{Event}
use Rattle.acq_commands.specs.Runs.{RunsReplay}
use Rattle.acq_commands.specs.Make.{RunsMake}
use Rattle.acq_commands.specs.Show.{RunsShow}
use Rattle.acq_commands.specs.Streams.{Stream}
use Rattle.acq_program.specs.Asking.{AsksHost}
use Rattle.acq_program.specs.Telling.{TellsHost}
use Rattle.acq_stand_in.specs.Answers.{says_by}
use Rattle.acq_stand_in.specs.declared.card_answer.CardAnswer.{CardAnswer}

-- Frames were served over a new book where there is no file, at moments that may be given, with
-- what issuers may say; what is done to the book of a file is said by the calls that open it and
-- serve them.
abbrev pub ServesIn : Option (String Global) → (ℕ → Type 0) → Saying → (received sent : Stream)
    → Result (Unit {0}) Fault → Type 0
ServesIn None may_give may_say received sent ended =
    ServesInMemory may_give may_say received sent ended
ServesIn (Some path) may_give may_say received sent ended = Unit {0}

-- the moments at which frames may come: this one, or where none is asked for, any
abbrev pub MayCome : Option ℕ → ℕ → Type 0
MayCome None moment = Unit {0}
MayCome (Some at) moment = moment ≡ at

-- nothing was read or written
abbrev pub IsUntouched : (received sent : Stream) → Type 0
IsUntouched received sent = (received.after ≡ received.before) × (sent.after ≡ sent.before)

-- Frames were served: without a file of issuers' answers no issuer answered, and with one its
-- answers did, or it gave none, and nothing was read or written.
abbrev pub ServesBy : Option (String Global) → OnceOptions → (received sent : Stream)
    → Result (Unit {0}) Fault → Type 0
ServesBy None asked received sent ended =
    ServesIn asked.book (MayCome asked.moment) says_nothing received sent ended
ServesBy (Some path) asked received sent ended =
    ((answers : List CardAnswer)
    × ServesIn asked.book (MayCome asked.moment) (says_by answers) received sent ended)
    ⊎ IsUntouched received sent

abbrev pub ServesAsked : OnceOptions → (received sent : Stream) → Result (Unit {0}) Fault → Type 0
ServesAsked asked received sent ended = ServesBy asked.issuers asked received sent ended

-- Where all is well, each event of the input was explained, over a new book behind these events;
-- messages came at the moment that is asked for, or at any.
abbrev pub ExplainsBehind
    : List Event → ExplainOptions → (received sent : Stream) → Result (Unit {0}) Fault → Type 0
ExplainsBehind events asked received sent ended =
    OnOk ended ((moment : ℕ) × MayCome asked.moment moment
    × ExplainsAll (tables_after
    (new_tables (record { limit = asked.limit; first_day = asked.first_day })) events)
    asked.form moment received sent)

-- so it is behind the events of a file, or behind none
abbrev pub ExplainsOver : Option (String Global) → ExplainOptions → (received sent : Stream)
    → Result (Unit {0}) Fault → Type 0
ExplainsOver None asked received sent ended = ExplainsBehind [] asked received sent ended
ExplainsOver (Some path) asked received sent ended =
    (events : List Event) × ExplainsBehind events asked received sent ended

-- where there is no file of a book; what is said over one is said by the calls that open it and
-- explain
abbrev pub ExplainsBy : Option (String Global) → ExplainOptions → (received sent : Stream)
    → Result (Unit {0}) Fault → Type 0
ExplainsBy None asked received sent ended = ExplainsOver asked.events asked received sent ended
ExplainsBy (Some path) asked received sent ended = Unit {0}

abbrev pub ExplainsIn : ExplainOptions → (received sent : Stream) → Result (Unit {0}) Fault → Type 0
ExplainsIn asked received sent ended = ExplainsBy asked.book asked received sent ended

-- Where all is well, the whole input was read, where it is known what was to come.
abbrev pub ReadsWhole : {X : Type 0} → Option (List ℕ) → List ℕ → List ℕ → Result X Fault → Type 0
ReadsWhole remaining received received_after ended =
    OnOk ended (TakesAll remaining received received_after)

-- how a command ended that has no status of its own: with 0 where all is well
abbrev pub EndsPlainly : (Result (Unit {0}) Fault → Type 0) → Result ℕ Fault → Type 0
EndsPlainly P (Ok status) = (status ≡ 0) × P (Ok tt)
EndsPlainly P (Err fault) = P (Err fault)

-- the end of such a command
abbrev pub plain_end : Result (Unit {0}) Fault → Result ℕ Fault
plain_end (Ok u) = Ok 0
plain_end (Err fault) = Err fault

-- the status, or that of the fault that stopped it
abbrev pub status_in : Result ℕ Fault → ℕ
status_in (Ok status) = status
status_in (Err fault) = status_of fault

-- What was asked is done.
abbrev pub Does : Action → Option (List ℕ) → (received sent told : Stream)
    → Result ℕ Fault → Type 0
Does (Init new sums) remaining received sent told ended =
    EndsPlainly (λ _. IsUntouched received sent) ended
Does (Migrate path) remaining received sent told ended =
    EndsPlainly (λ _. IsUntouched received sent) ended
Does (Once asked) remaining received sent told ended =
    EndsPlainly (λ plain. ServesAsked asked received sent plain
    × ReadsWhole remaining received.before received.after plain) ended
Does (Listen asked) remaining received sent told ended =
    EndsPlainly (λ _. IsUntouched received sent) ended
Does (Replay options) remaining received sent told ended =
    EndsPlainly (λ plain. RunsReplay options received sent plain
    × ReadsWhole remaining received.before received.after plain) ended
Does (Report options) remaining received sent told ended =
    EndsPlainly (λ _. received.after ≡ received.before) ended
Does (actions.ReportCsv asked) remaining received sent told ended =
    EndsPlainly (λ _. received.after ≡ received.before) ended
Does (actions.Statement asked) remaining received sent told ended =
    EndsPlainly (λ _. received.after ≡ received.before) ended
Does (actions.Find asked) remaining received sent told ended =
    EndsPlainly (λ _. received.after ≡ received.before) ended
Does (Holds options) remaining received sent told ended =
    EndsPlainly (λ _. received.after ≡ received.before) ended
Does (actions.List asked) remaining received sent told ended =
    EndsPlainly (λ _. received.after ≡ received.before) ended
Does (actions.Ranges asked) remaining received sent told ended =
    EndsPlainly (λ _. received.after ≡ received.before) ended
Does (actions.HostRanges asked) remaining received sent told ended =
    received.after ≡ received.before
Does (Pending asked) remaining received sent told ended =
    EndsPlainly (λ _. received.after ≡ received.before) ended
Does (Status asked) remaining received sent told ended =
    EndsPlainly (λ _. received.after ≡ received.before) ended
Does (actions.Audit asked) remaining received sent told ended =
    received.after ≡ received.before
Does (actions.Page asked) remaining received sent told ended =
    EndsPlainly (λ _. IsUntouched received sent) ended
Does (Show how form) remaining received sent told ended =
    EndsPlainly (λ plain. RunsShow how form received sent plain
    × ReadsWhole remaining received.before received.after plain) ended
Does (Make said form) remaining received sent told ended =
    EndsPlainly (λ plain. RunsMake said form received sent plain
    × ReadsWhole remaining received.before received.after plain) ended
Does (Explain asked) remaining received sent told ended =
    EndsPlainly (λ plain. ExplainsIn asked received sent plain
    × ReadsWhole remaining received.before received.after plain) ended
Does (Ask asked) remaining received sent told ended =
    EndsPlainly (λ plain. AsksHost asked received sent plain
    × ReadsWhole remaining received.before received.after plain) ended
Does (Tell path) remaining received sent told ended =
    TellsHost received sent told ended
    × ReadsWhole remaining received.before received.after ended

-- faults are told in between only where connections are served, or where a host told them
abbrev pub Tells : Action → List ℕ → List ℕ → Result ℕ Fault → Type 0
Tells (Listen asked) told told_after ended = Unit {0}
Tells (Tell path) told told_after ended = ended ≡ Ok 0 → told_after ≡ told
Tells (actions.HostRanges asked) told told_after ended = ended ≡ Ok 0 → told_after ≡ told
Tells other told told_after ended = told_after ≡ told

-- Where all is well, no fault was told, but those of connections.
abbrev pub IsQuiet : List (List ℕ) → List ℕ → List ℕ → Type 0
IsQuiet words told told_after =
    (told_after ≡ told) ⊎ ((asked : ListenOptions) × AsksFor words (Ok (Listen asked)))

-- What an action asks for is done, and the status is that of how it ended; where no fault stops it,
-- none is told behind it.
abbrev pub RunsAction : Action → Option (List ℕ) → (received sent told : Stream) → ℕ → Type 0
RunsAction action remaining received sent told status =
    (ended : Result ℕ Fault) × (told_by : List ℕ)
    × Does action remaining received sent (record { before = told.before; after = told_by }) ended
    × OnOk ended (told.after ≡ told_by) × (status ≡ status_in ended)

-- What the words ask for is done; or an option's value is out of its form, or there was no memory
-- for the words, and nothing is done.
abbrev pub Runs : List (List ℕ) → Option (List ℕ) → (received sent told : Stream) → ℕ → Type 0
Runs words remaining received sent told status =
    ((action : Action) × AsksFor words (Ok action)
    × RunsAction action remaining received sent told status)
    ⊎ ((option : OptionName) × AsksFor words (Err option) × IsUntouched received sent
    × (status ≡ 2))
    ⊎ (IsUntouched received sent × (status ≡ 3))
