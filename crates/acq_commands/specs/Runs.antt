-- The commands over the input that was read and what was written, by how they ended.
use Rattle.std.specs.Prelude.{◌≡◌, ◌⊎◌, ℕ, List, [], ◌∷◌, ◌++◌, Option, None, Some}
use Rattle.std.specs.Prelude.{Result, Ok, Err, String}
use Rattle.std.specs.declared.alloc.Global.{Global}
use Rattle.acq_core.specs.declared.event.Event.{Event}
use Rattle.acq_core.specs.Tables.{Opening, Tables, new_tables, tables_after}
use Rattle.acq_front.specs.Stops.{open_at}
use Rattle.acq_out.specs.EventLines.{events_of_text}
use Rattle.acq_reports.specs.declared.report_fault.ReportFault.{ReportFault}
use Rattle.acq_faults.specs.declared.day_report.DayReport.{DayReport}
use Rattle.acq_faults.specs.declared.fault.Fault.{Fault}
use Rattle.acq_commands.specs.declared.replay_options.ReplayOptions.{ReplayOptions}
use Rattle.acq_commands.specs.DayReports.{StopsTaking, WritesReports, told}
use Rattle.acq_commands.specs.Replay.{Replays}
use Rattle.acq_commands.specs.Streams.{Course, Stream, tables_before}

-- The event lines that were read were taken over a new book, and what came of them was written.
abbrev pub RunsLines : Opening → (group : ℕ) → (received sent : Stream)
    → Result (Unit {0}) Fault → Type 0
RunsLines opening group received sent ended =
    (text : List ℕ) × (book : Tables) × (received.after ≡ received.before ++ text)
    × Replays
    (record { left = open_at; group = group; old = new_tables opening; new = book })
    text sent ended

-- Over the tables behind all events of a text, these reports went out by the result.
pub record ReportsBehind (t : Tables) (reports : List DayReport) (text : List ℕ) (sent : Stream)
    (written : Result (Unit {0}) ReportFault) : Type 0 where
  pub events : List Event
  pub spelled : events_of_text text ≡ Ok events
  pub writes : WritesReports (tables_after t events) reports sent.before sent.after written

-- The event lines of a text were stopped, and nothing went out; or all were taken, and reports on
-- the book were written then.
abbrev pub EndsWithReports : {S : Type 0} → Course S → List DayReport → List ℕ → Stream
    → Result (Unit {0}) Fault → Type 0
EndsWithReports book reports text sent ended =
    ((cause : Fault) × (ended ≡ Err cause) × StopsTaking book text cause
    × (sent.after ≡ sent.before))
    ⊎ ((written : Result (Unit {0}) ReportFault) × (ended ≡ told written)
    × ReportsBehind (tables_before book) reports text sent written)

-- the same over a new book
abbrev pub RunsReports : Opening → (group : ℕ) → List DayReport → (received sent : Stream)
    → Result (Unit {0}) Fault → Type 0
RunsReports opening group reports received sent ended =
    (text : List ℕ) × (book : Tables) × (received.after ≡ received.before ++ text)
    × EndsWithReports
    (record { left = open_at; group = group; old = new_tables opening; new = book })
    reports text sent ended

-- lines of what came of the events, or reports where some are asked for
abbrev pub RunsEither : Opening → (group : ℕ) → List DayReport → (received sent : Stream)
    → Result (Unit {0}) Fault → Type 0
RunsEither opening group [] received sent ended = RunsLines opening group received sent ended
RunsEither opening group (r ∷ rs) received sent ended =
    RunsReports opening group (r ∷ rs) received sent ended

-- over a new book where there is no file; what is done to the book of a file is said by the calls
-- that open it and take the events
abbrev pub RunsIn : Option (String Global) → Opening → (group : ℕ) → List DayReport
    → (received sent : Stream) → Result (Unit {0}) Fault → Type 0
RunsIn None opening group reports received sent ended =
    RunsEither opening group reports received sent ended
RunsIn (Some path) opening group reports received sent ended = Unit {0}

abbrev pub RunsReplay : ReplayOptions → (received sent : Stream) → Result (Unit {0}) Fault → Type 0
RunsReplay options received sent ended =
    RunsIn options.book (record { limit = options.limit; first_day = options.first_day })
    options.group options.reports.items received sent ended
