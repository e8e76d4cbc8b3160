-- What a host says to the questions of a control connection.
use Rattle.std.specs.Prelude.{ℕ, List, [], ◌∷◌, ◌++◌, ◌==◌, codes, length, Option, Some, None}
use Rattle.std.specs.Prelude.{if◌then◌else◌}
use Rattle.std.specs.Fmt.{decimal}
use Rattle.acq_core.specs.declared.event.Event.{Event}
use Rattle.acq_core.specs.declared.event.Event.TheVariants as event
use Rattle.acq_core.specs.Arrivals.{arrival_of}
use Rattle.acq_core.specs.Tables.{Tables, step_output, tables_after}
use Rattle.acq_out.specs.OutputLines.{line_of}
use Rattle.acq_reports.specs.OpenHolds.{holds_text}
use Rattle.acq_reports.specs.Refusals.{day_refusal, merchant_refusal}
use Rattle.acq_reports.specs.declared.report_fault.ReportFault.{ReportFault}
use Rattle.acq_directory.specs.Listings.{listing_text}
use Rattle.acq_statement.specs.DaySums.{day_sums}
use Rattle.acq_statement.specs.ReportCsv.{report_csv}
use Rattle.acq_status.specs.Figures.{figures_at}
use Rattle.acq_status.specs.Texts.{text_in}
use Rattle.acq_stand_in.specs.Pending.{pending_text}
use Rattle.acq_explain.specs.Explained.{explained_in}
use Rattle.acq_faults.specs.DayReport.{report_text}
use Rattle.acq_faults.specs.Faults.{fault_line, of_report}
use Rattle.acq_faults.specs.declared.fault.Fault.TheVariants.{BadLine, OtherDay}
use Rattle.acq_control.specs.Found.{found_text}
use Rattle.acq_control.specs.Stated.{text_stated}
use Rattle.acq_control.specs.declared.question.Question.{Question}
use Rattle.acq_control.specs.declared.question.Question.TheVariants as question

-- how many bytes a text has that follows
abbrev pub heading_of : ℕ → List ℕ
heading_of bytes = codes "text " ++ decimal bytes ++ codes "\n"

-- a text: how many bytes it has, and then these
abbrev pub text_answer : List ℕ → List ℕ
text_answer text = codes "text " ++ decimal (length text) ++ codes "\n" ++ text

-- a text, or the fault for which it is refused
abbrev pub text_unless_refused : Option ReportFault → List ℕ → List ℕ
text_unless_refused None text = text_answer text
text_unless_refused (Some fault) text = fault_line (of_report fault)

-- the business day ends if it is this one; else it is told which one it is
abbrev pub answer_to_end : Tables → (day moment : ℕ) → List ℕ
answer_to_end t day moment =
    if t.day == day then line_of (step_output t (arrival_of (event.Cutover moment)))
    else fault_line (OtherDay t.day)

-- what is said to the line of this number, by what it asks
abbrev pub answer_of : Tables → ℕ → Option Question → List ℕ
answer_of t number None = fault_line (BadLine number)
answer_of t number (Some (question.Event event)) = line_of (step_output t (arrival_of event))
answer_of t number (Some (question.Report asked)) =
    text_unless_refused (day_refusal t asked.day) (report_text t asked)
answer_of t number (Some (question.ReportCsv day)) =
    text_unless_refused (day_refusal t day) (report_csv t day)
answer_of t number (Some (question.Sums day)) = text_answer (day_sums t day)
answer_of t number (Some (question.Statement asked)) =
    text_unless_refused (merchant_refusal t asked.merchant) (text_stated t asked)
answer_of t number (Some (question.Find sought)) =
    text_unless_refused (merchant_refusal t sought.merchant) (found_text t sought)
answer_of t number (Some (question.Holds merchant moment)) =
    text_unless_refused (merchant_refusal t merchant) (holds_text t merchant moment)
answer_of t number (Some (question.Pending day moment)) =
    text_answer (pending_text [] moment (Some day) t)
answer_of t number (Some (question.Explain event)) = text_answer (explained_in t event)
answer_of t number (Some (question.List listing)) = text_answer (listing_text listing t)
answer_of t number (Some (question.Status form serving)) =
    text_answer (text_in form (figures_at t) (Some serving))
answer_of t number (Some (question.End day moment)) = answer_to_end t day moment
answer_of t number (Some question.Reopen) = codes "reopening\n"
answer_of t number (Some question.Stop) = codes "stopping\n"

-- the events that a question is, over these tables: the one that it spells, or the cutover if it
-- ends the business day
abbrev pub events_asked : Tables → Option Question → List Event
events_asked t (Some (question.Event event)) = event ∷ []
events_asked t (Some (question.End day moment)) =
    if t.day == day then event.Cutover moment ∷ [] else []
events_asked t other = []

-- the tables behind a question
abbrev pub tables_behind : Tables → Option Question → Tables
tables_behind t asked = tables_after t (events_asked t asked)
