-- Reports on days, one after the other, over any book.
use Rattle.std.specs.Prelude.{◌≡◌, ◌⊎◌, ℕ, ◌+◌, ◌<◌, List, ◌∷◌, ◌++◌, length, flat_map, None}
use Rattle.std.specs.Prelude.{Option, Result, Ok, Err}
use Rattle.std.specs.List.{All}
use Rattle.acq_core.specs.declared.event.Event.{Event}
use Rattle.acq_core.specs.Tables.{Tables, tables_after}
use Rattle.acq_host.specs.Runs.{after_first}
use Rattle.acq_front.specs.Stops.{Left, LeavesAll, StopLeaves}
use Rattle.acq_out.specs.EventLines.{events_of_text}
use Rattle.acq_reports.specs.Refusals.{day_refusal}
use Rattle.acq_reports.specs.Writing.{Reports}
use Rattle.acq_reports.specs.declared.report_fault.ReportFault.{ReportFault}
use Rattle.acq_faults.specs.declared.day_report.DayReport.{DayReport}
use Rattle.acq_faults.specs.declared.fault.Fault as fault
use Rattle.acq_faults.specs.Faults.{of_report}
use Rattle.acq_faults.specs.DayReport.{report_text}
use Rattle.acq_commands.specs.Groups.{AreWhole}
use Rattle.acq_commands.specs.Streams.{Course, Stream, left_after, tables_before}

-- the texts of reports, one after the other
abbrev pub report_texts : Tables → List DayReport → List ℕ
report_texts t reports = flat_map (report_text t) reports

-- nothing is refused: each of the days is over, and none of its requests is pending
abbrev pub AreGiven : Tables → List DayReport → Type 0
AreGiven t reports = All (λ report. day_refusal t report.day ≡ None) reports

-- Some first reports went out whole, and the next one was refused, or not all of it went out.
pub record StopsReports (t : Tables) (reports : List DayReport) (sent sent_after : List ℕ)
    (cause : ReportFault) : Type 0 where
  pub done : List DayReport
  pub in_hand : DayReport
  pub left : List DayReport
  pub whole : reports ≡ done ++ in_hand ∷ left
  pub given : AreGiven t done
  pub stopped :
      Reports {T = Unit {0}} (day_refusal t in_hand.day) (report_text t in_hand)
      (sent ++ report_texts t done) sent_after (Err cause)

-- what of reports went out, by the result
abbrev pub WritesReports : Tables → List DayReport → List ℕ → List ℕ
    → Result (Unit {0}) ReportFault → Type 0
WritesReports t reports sent sent_after (Ok u) =
    AreGiven t reports × (sent_after ≡ sent ++ report_texts t reports)
WritesReports t reports sent sent_after (Err cause) =
    StopsReports t reports sent sent_after cause

-- how the reports ended, as the command tells it
abbrev pub told : Result (Unit {0}) ReportFault → Result (Unit {0}) fault.Fault
told (Ok u) = Ok u
told (Err cause) = Err (of_report cause)

-- what of a report went out, or why it was refused, by how the command ended
abbrev pub TellsReport : Option ReportFault → List ℕ → Stream → Result (Unit {0}) fault.Fault
    → Type 0
TellsReport refusal text sent ended =
    (written : Result (Unit {0}) ReportFault) × (ended ≡ told written)
    × Reports refusal text sent.before sent.after written

-- ---- the events before them

-- all events of a text were taken, and a stop leaves them
pub record TakesEvents (old : Tables) (left : Left) (text : List ℕ) : Type 0 where
  pub events : List Event
  pub spelled : events_of_text text ≡ Ok events
  pub leads : left.tables ≡ tables_after old events
  pub stop : LeavesAll left old events

-- So many first events were taken, in whole groups, and not the next one. A stop leaves these, or
-- these and the next group: as many as a group has, or all that are left.
pub record TakesFirst (group : ℕ) (old : Tables) (left : Left) (events : List Event) : Type 0 where
  pub taken : ℕ
  pub in_hand : taken < length events
  pub whole : AreWhole group taken events
  pub leads : left.is_open → left.tables ≡ after_first taken old events
  pub stop : StopLeaves left
      (λ t. (t ≡ after_first taken old events) ⊎ (t ≡ after_first (taken + group) old events))

-- some first events of a text were taken
pub record TakesSome {S : Type 0} (book : Course S) (text : List ℕ) : Type 0 where
  pub events : List Event
  pub spelled : events_of_text text ≡ Ok events
  pub first : TakesFirst book.group (tables_before book) (left_after book) events

-- Why not all events of a text were taken: a bad line, or a read that failed, before the first; or
-- memory ran out or the store failed, after some.
abbrev pub StopsTaking : {S : Type 0} → Course S → List ℕ → fault.Fault → Type 0
StopsTaking book text (fault.TheVariants.BadLine n) =
    (events_of_text text ≡ Err n) × (book.new ≡ book.old)
StopsTaking book text fault.TheVariants.Read = book.new ≡ book.old
StopsTaking book text fault.TheVariants.Memory = (book.new ≡ book.old) ⊎ TakesSome book text
StopsTaking book text fault.TheVariants.Store = TakesSome book text
StopsTaking book text other = ⊥

-- how the events of a text were taken
abbrev pub Takes : {S : Type 0} → Course S → List ℕ → Result (Unit {0}) fault.Fault → Type 0
Takes book text (Ok u) = TakesEvents (tables_before book) (left_after book) text
Takes book text (Err cause) = StopsTaking book text cause
