-- Answers to the requests that wait for their issuer's (own profile): CSV with no header line, an
-- event line for each of them, in the order in which they came.
use Rattle.std.specs.Prelude.{◌≡◌, ℕ, ◌==◌, Bool, true, List, [], ◌∷◌, filter, flat_map, map, All}
use Rattle.std.specs.Prelude.{codes, Option, Some, None, unwrap_or, Ok, if◌then◌else◌}
use Rattle.std.specs.Fmt.{decimal}
use Rattle.day_totals.specs.Digits.{zero_padded}
use Rattle.acq_message.specs.Elements.{or_empty}
use Rattle.acq_message.specs.declared.verdict.Verdict.{Verdict}
use Rattle.acq_message.specs.declared.verdict.Verdict.TheVariants.{Approved, Declined, NoAnswer}
use Rattle.acq_core.specs.declared.event.Event.{Event}
use Rattle.acq_core.specs.declared.event.Event.TheVariants as event
use Rattle.acq_core.specs.declared.request.Request.{Request}
use Rattle.acq_core.specs.Events.{IsVerdict}
use Rattle.acq_core.specs.Tables.{Tables}
use Rattle.acq_book.specs.Lookups.{waiting_at}
use Rattle.acq_out.specs.EventLines.{events_of_text}
use Rattle.acq_reports.specs.Marks.{csv_line}
use Rattle.acq_stand_in.specs.Answers.{verdict_for}
use Rattle.acq_stand_in.specs.declared.card_answer.CardAnswer.{CardAnswer}

-- a verdict's word, and its text
abbrev pub verdict_fields : Verdict → List (List ℕ)
verdict_fields (Approved id) = codes "approved" ∷ id ∷ []
verdict_fields (Declined code) = codes "declined" ∷ code ∷ []
verdict_fields NoAnswer = codes "none" ∷ [] ∷ []

-- the verdict on a request, which comes at a moment
abbrev pub answer_fields : ℕ → Verdict → Request → List (List ℕ)
answer_fields moment verdict row =
    codes "answer" ∷ decimal moment ∷ row.key.merchant
    ∷ zero_padded 12 (unwrap_or row.reference 0) ∷ verdict_fields verdict

-- a request's answer is that of its card
abbrev pub verdict_on : List CardAnswer → Request → Verdict
verdict_on answers row = verdict_for answers (or_empty row.card)

abbrev pub answer_line : List CardAnswer → ℕ → Request → List ℕ
answer_line answers moment row = csv_line (answer_fields moment (verdict_on answers row) row)

-- a request of this business day, or where none is named, of any
abbrev pub is_of_day : Option ℕ → Request → Bool
is_of_day None row = true
is_of_day (Some day) row = row.day == day

-- a request's line, where it is one of that day
abbrev pub line_on_day : List CardAnswer → ℕ → Option ℕ → Request → List ℕ
line_on_day answers moment day row =
    if is_of_day day row then answer_line answers moment row else []

-- the requests of that day that wait for an answer
abbrev pub waiting_on : Option ℕ → Tables → List Request
waiting_on day t = filter (is_of_day day) (waiting_at t)

-- The answers to them, by what a file of answers says of their cards.
abbrev pub pending_text : List CardAnswer → ℕ → Option ℕ → Tables → List ℕ
pending_text answers moment day t = flat_map (answer_line answers moment) (waiting_on day t)

-- ---- what is read of it

-- a request's answer, as an event
abbrev pub answer_event : List CardAnswer → ℕ → Request → Event
answer_event answers moment row =
    event.Answer moment row.key.merchant (unwrap_or row.reference 0) (verdict_on answers row)

-- the verdicts are such as an issuer may give
abbrev pub AreVerdicts : List CardAnswer → Type 0
AreVerdicts answers = All (λ answer. IsVerdict answer.verdict) answers

-- The text is one of event lines, which answer the requests of that day that wait, one after the
-- other.
abbrev pub ReadsAsAnswers : List CardAnswer → ℕ → Option ℕ → Tables → Type 0
ReadsAsAnswers answers moment day t =
    events_of_text (pending_text answers moment day t)
    ≡ Ok (map (answer_event answers moment) (waiting_on day t))
