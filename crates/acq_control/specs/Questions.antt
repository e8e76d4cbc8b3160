-- What a line of a control connection asks (own profile): an event, as an event line spells it; a
-- text; that the business day ends; that the log is opened anew; or that the host ends. The word
-- `now` stands for the moment at which the line is taken.
use Rattle.std.specs.Prelude.{◌≡◌, ◌≢◌, ◌==◌, ◌&&◌, ◌+◌, ◌-◌, ◌<◌, ◌≤◌, ℕ, nat_eq, Bool}
use Rattle.std.specs.Prelude.{List, [], ◌∷◌, ◌++◌, codes, drop, take, length, option_map, Option}
use Rattle.std.specs.Prelude.{Some, None, Ok, true, false, if◌then◌else◌}
use Rattle.std.specs.List.{ends_with, position, starts_with}
use Rattle.std.specs.Fmt.{decimal}
use Rattle.std.specs.Borrow.{Bor}
use Rattle.std.specs.Str.{IsUtf8, bytes_eq}
use Rattle.day_totals.specs.Day.{IsNoDateText, date_text_of}
use Rattle.acq_core.specs.declared.event.Event.{Event}
use Rattle.acq_out.specs.EventLines.{events_of_text}
use Rattle.acq_out.specs.Fields.{merchant_of_text, moment_of_text}
use Rattle.acq_faults.specs.declared.report_kind.ReportKind.{ReportKind}
use Rattle.acq_faults.specs.declared.report_kind.ReportKind.TheVariants as report
use Rattle.acq_directory.specs.Listings.{listing_named}
use Rattle.acq_status.specs.declared.serving.Serving.{Serving}
use Rattle.acq_status.specs.declared.status_form.StatusForm.{StatusForm}
use Rattle.acq_status.specs.declared.status_form.StatusForm.TheVariants as form
use Rattle.acq_control.specs.FindLines.{AsksFind, comma_in}
use Rattle.acq_control.specs.Lines.{longest_line}
use Rattle.acq_control.specs.StatementLines.{AsksStatement}
use Rattle.acq_control.specs.declared.question.Question.{Question}
use Rattle.acq_control.specs.declared.question.Question.TheVariants as question
use Rattle.acq_control.specs.declared.question_word.QuestionWord.{QuestionWord}
use Rattle.acq_control.specs.declared.question_word.QuestionWord.TheVariants as word
use Rattle.acq_control.specs.declared.wish.Wish.{Wish}
use Rattle.acq_control.specs.declared.wish.Wish.TheVariants as wish

abbrev pub begins_with : List ℕ → List ℕ → Bool
begins_with line text = starts_with nat_eq line text

-- which question a line asks
abbrev pub word_of : List ℕ → QuestionWord
word_of line =
    if bytes_eq line (codes "stop") then word.Stop
    else if begins_with line (codes "clearing,") then word.Clearing
    else if begins_with line (codes "report,") then word.Report
    else if begins_with line (codes "sums,") then word.Sums
    else if begins_with line (codes "statement,") then word.Statement
    else if begins_with line (codes "find,") then word.Find
    else if begins_with line (codes "holds,") then word.Holds
    else if begins_with line (codes "pending,") then word.Pending
    else if begins_with line (codes "explain,") then word.Explain
    else if begins_with line (codes "list,") then word.List
    else if bytes_eq line (codes "status") then word.Status
    else if bytes_eq line (codes "metrics") then word.Metrics
    else if begins_with line (codes "end,") then word.End
    else if bytes_eq line (codes "reopen") then word.Reopen
    else word.Event

-- how many bytes it has with the comma behind it, if one is
abbrev pub word_length : QuestionWord → ℕ
word_length word.Statement = 10
word_length word.Clearing = 9
word_length word.Pending = 8
word_length word.Explain = 8
word_length word.Report = 7
word_length word.Sums = 5
word_length word.Find = 5
word_length word.Holds = 6
word_length word.List = 5
word_length word.End = 4
word_length other = 0

-- ---- events

-- whether `now` stands behind a line's first word
abbrev pub says_now : List ℕ → List ℕ → Bool
says_now line first =
    begins_with line first && begins_with (drop (length first) line) (codes "now,")

-- the first word of an event line that has `now` for its moment
abbrev pub word_before_now : List ℕ → Option (List ℕ)
word_before_now line =
    if says_now line (codes "frame,") then Some (codes "frame,")
    else if says_now line (codes "answer,") then Some (codes "answer,")
    else if says_now line (codes "cutover,") then Some (codes "cutover,")
    else None

-- so it is of a word that is lent
abbrev pub IsWordBeforeNow : List ℕ → Option (Bor (List ℕ)) → Type 0
IsWordBeforeNow line found = option_map (λ b. b.now) found ≡ word_before_now line

-- a line with the moment in place of the three bytes behind its first word
abbrev pub with_moment : ℕ → List ℕ → Option (List ℕ) → List ℕ
with_moment now line None = line
with_moment now line (Some first) = first ++ decimal now ++ drop (length first + 3) line

-- an event line with the moment in place of `now`
abbrev pub at_moment : ℕ → List ℕ → List ℕ
at_moment now line = with_moment now line (word_before_now line)

-- a list is this one event, or not one
abbrev pub IsOnlyOne : List Event → Option Event → Type 0
IsOnlyOne events (Some event) = events ≡ event ∷ []
IsOnlyOne events None = (event : Event) → events ≢ event ∷ []

-- a line spells this one event, or not one
abbrev pub SpellsEvent : List ℕ → Option Event → Type 0
SpellsEvent line (Some event) = events_of_text line ≡ Ok (event ∷ [])
SpellsEvent line None = (event : Event) → events_of_text line ≢ Ok (event ∷ [])

-- so it is of the event that is to be taken
abbrev pub AsksEvent : ℕ → List ℕ → Option Question → Type 0
AsksEvent now line (Some (question.Event event)) = SpellsEvent (at_moment now line) (Some event)
AsksEvent now line None = SpellsEvent (at_moment now line) None
AsksEvent now line (Some other) = ⊥

-- the event line of a message in hexadecimal that comes at a moment
abbrev pub frame_line : ℕ → List ℕ → List ℕ
frame_line now digits = codes "frame," ++ decimal now ++ codes "," ++ digits ++ codes ",,,"

-- and of the one that is to be explained, which such a line spells
abbrev pub AsksExplained : ℕ → List ℕ → Option Question → Type 0
AsksExplained now digits (Some (question.Explain event)) =
    SpellsEvent (frame_line now digits) (Some event)
AsksExplained now digits None = SpellsEvent (frame_line now digits) None
AsksExplained now digits (Some other) = ⊥

-- ---- texts

-- the text is the date of a day, or of none, as what isn't UTF-8 is
abbrev pub AsksReport : ReportKind → List ℕ → Option Question → Type 0
AsksReport kind text (Some (question.Report asked)) =
    (asked.kind ≡ kind) × (text ≡ date_text_of asked.day)
AsksReport kind text None = IsUtf8 text → IsNoDateText text
AsksReport kind text (Some other) = ⊥

-- so it is of a settlement report as CSV
abbrev pub AsksReportCsv : List ℕ → Option Question → Type 0
AsksReportCsv text (Some (question.ReportCsv day)) = text ≡ date_text_of day
AsksReportCsv text None = IsUtf8 text → IsNoDateText text
AsksReportCsv text (Some other) = ⊥

-- a form behind a date is CSV, or none
abbrev pub AsksReportIn : Bool → List ℕ → Option Question → Type 0
AsksReportIn true date asked = AsksReportCsv date asked
AsksReportIn false date asked = asked ≡ None

-- a settlement report, in the form behind the first comma, if one stands there
abbrev pub AsksSettlement : List ℕ → Option ℕ → Option Question → Type 0
AsksSettlement text None asked = AsksReport report.Settlement text asked
AsksSettlement text (Some comma) asked =
    AsksReportIn (bytes_eq (drop (comma + 1) text) (codes "csv")) (take comma text) asked

-- the sums of a day
abbrev pub AsksSums : List ℕ → Option Question → Type 0
AsksSums text (Some (question.Sums day)) = text ≡ date_text_of day
AsksSums text None = IsUtf8 text → IsNoDateText text
AsksSums text (Some other) = ⊥

-- so it is of a day's answers, which are given at a moment
abbrev pub AsksPending : ℕ → List ℕ → Option Question → Type 0
AsksPending now text (Some (question.Pending day moment)) =
    (moment ≡ now) × (text ≡ date_text_of day)
AsksPending now text None = IsUtf8 text → IsNoDateText text
AsksPending now text (Some other) = ⊥

-- and of a day that is to end at a moment
abbrev pub AsksEnd : ℕ → List ℕ → Option Question → Type 0
AsksEnd now text (Some (question.End day moment)) = (moment ≡ now) × (text ≡ date_text_of day)
AsksEnd now text None = IsUtf8 text → IsNoDateText text
AsksEnd now text (Some other) = ⊥

-- the listing of this name
abbrev pub list_of : List ℕ → Option Question
list_of name = option_map (λ listing. question.List listing) (listing_named name)

-- figures in this form, whatever is served
abbrev pub AsksStatus : StatusForm → Option Question → Type 0
AsksStatus form (Some (question.Status asked serving)) = asked ≡ form
AsksStatus form other = ⊥

-- if figures are asked, they are of what is served just then
abbrev pub Shows : Serving → Option Question → Type 0
Shows serving (Some (question.Status form shown)) = shown ≡ serving
Shows serving other = Unit {0}

-- a moment, or now
abbrev pub moment_at : ℕ → List ℕ → Option ℕ
moment_at now text = if bytes_eq text (codes "now") then Some now else moment_of_text text

-- a merchant and a moment, where both are there
abbrev pub holds_at : Option (List ℕ) → Option ℕ → Option Question
holds_at (Some merchant) (Some moment) = Some (question.Holds merchant moment)
holds_at _ _ = None

-- the same of the texts before and behind a comma
abbrev pub holds_about : ℕ → List ℕ → Option ℕ → Option Question
holds_about now text None = None
holds_about now text (Some comma) =
    holds_at (merchant_of_text (take comma text)) (moment_at now (drop (comma + 1) text))

abbrev pub holds_of : ℕ → List ℕ → Option Question
holds_of now text = holds_about now text (position (λ byte. byte == 44) text)

-- a statement of a merchant's day
abbrev pub AsksStated : List ℕ → Option Question → Type 0
AsksStated text (Some (question.Statement asked)) =
    AsksStatement text (comma_in text) (Some asked)
AsksStated text None = AsksStatement text (comma_in text) None
AsksStated text (Some other) = ⊥

-- what became of requests
abbrev pub AsksFound : List ℕ → Option Question → Type 0
AsksFound text (Some (question.Find sought)) = AsksFind text (comma_in text) (Some sought)
AsksFound text None = AsksFind text (comma_in text) None
AsksFound text (Some other) = ⊥

-- ---- any line

-- what is asked of those who serve the connection
abbrev pub wish_of : Option Question → Wish
wish_of (Some question.Stop) = wish.Stop
wish_of (Some question.Reopen) = wish.Reopen
wish_of other = wish.Nothing

-- what a line of this word asks; nothing, where it is out of its form
abbrev pub AsksBy : QuestionWord → ℕ → List ℕ → Option Question → Type 0
AsksBy word.Stop now line asked = asked ≡ Some question.Stop
AsksBy word.Clearing now line asked = AsksReport report.Clearing (drop 9 line) asked
AsksBy word.Report now line asked =
    AsksSettlement (drop 7 line) (position (λ byte. byte == 44) (drop 7 line)) asked
AsksBy word.Sums now line asked = AsksSums (drop 5 line) asked
AsksBy word.Statement now line asked = AsksStated (drop 10 line) asked
AsksBy word.Find now line asked = AsksFound (drop 5 line) asked
AsksBy word.Holds now line asked = asked ≡ holds_of now (drop 6 line)
AsksBy word.Pending now line asked = AsksPending now (drop 8 line) asked
AsksBy word.Explain now line asked = AsksExplained now (drop 8 line) asked
AsksBy word.List now line asked = asked ≡ list_of (drop 5 line)
AsksBy word.Status now line asked = AsksStatus form.Lines asked
AsksBy word.Metrics now line asked = AsksStatus form.Metrics asked
AsksBy word.End now line asked = AsksEnd now (drop 4 line) asked
AsksBy word.Reopen now line asked = asked ≡ Some question.Reopen
AsksBy word.Event now line asked = AsksEvent now line asked

-- a line without the carriage return before its end, if one stands there
abbrev pub without_return : List ℕ → List ℕ
without_return line =
    if ends_with nat_eq line (13 ∷ []) then take (length line - 1) line else line

-- what a line asks that isn't too long
abbrev pub AsksShort : ℕ → List ℕ → Option Question → Type 0
AsksShort now line asked =
    let it = without_return line in AsksBy (word_of it) now it asked

-- what a line asks that is taken at this moment; one that is too long asks nothing
pub record Asks (now : ℕ) (line : List ℕ) (asked : Option Question) : Type 0 where
  pub long : longest_line ≤ length line → asked ≡ None
  pub short : length line < longest_line → AsksShort now line asked
