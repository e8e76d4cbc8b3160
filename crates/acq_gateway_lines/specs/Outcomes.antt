-- What the host says to an issuer's answer, by what the book has of its request (own profile).
use Rattle.std.specs.Prelude.{ℕ, ◌&&◌, Bool, true, false, List, Option, Some, None, is_some, codes}
use Rattle.std.specs.Prelude.{if◌then◌else◌}
use Rattle.std.specs.Str.{bytes_eq}
use Rattle.acq_message.specs.declared.verdict.Verdict.{Verdict}
use Rattle.acq_message.specs.declared.verdict.Verdict.TheVariants as verdict
use Rattle.acq_message.specs.Elements.{text_at}
use Rattle.acq_core.specs.declared.request.Request.{Request}
use Rattle.acq_core.specs.declared.status.Status.{Status}
use Rattle.acq_core.specs.declared.status.Status.TheVariants as status
use Rattle.acq_core.specs.Tables.{Tables}
use Rattle.acq_book.specs.Lookups.{merchant_at, referred_at}
use Rattle.acq_gateway_lines.specs.declared.answer_outcome.AnswerOutcome.{AnswerOutcome}
use Rattle.acq_gateway_lines.specs.declared.answer_outcome.AnswerOutcome.TheVariants as outcome

-- a request's reply carries a verdict: its code, and of an approval its id
abbrev pub has_answer : Request → Verdict → Bool
has_answer row (verdict.Approved id) =
    bytes_eq (text_at row.reply 39) (codes "00") && bytes_eq (text_at row.reply 38) id
has_answer row (verdict.Declined text) = bytes_eq (text_at row.reply 39) text
has_answer row verdict.NoAnswer = bytes_eq (text_at row.reply 39) (codes "91")

-- it was reversed before it was answered
abbrev pub is_late : Status → Bool
is_late status.ReversedPending = true
is_late other = false

-- what is said of a request that is there
abbrev pub outcome_by : Request → Verdict → AnswerOutcome
outcome_by row v =
    if is_late row.status then outcome.Late
    else if has_answer row v then outcome.Done
    else outcome.AlreadyAnswered

abbrev pub outcome_if : Option Request → Verdict → AnswerOutcome
outcome_if None v = outcome.UnknownReference
outcome_if (Some row) v = outcome_by row v

abbrev pub outcome_of : (is_enrolled : Bool) → Option Request → Verdict → AnswerOutcome
outcome_of is_enrolled row v =
    if is_enrolled then outcome_if row v else outcome.NoSuchMerchant

-- what is said to a verdict on a merchant's request
abbrev pub outcome_at : Tables → List ℕ → ℕ → Verdict → AnswerOutcome
outcome_at t merchant reference v =
    outcome_of (is_some (merchant_at t merchant)) (referred_at t merchant reference) v
