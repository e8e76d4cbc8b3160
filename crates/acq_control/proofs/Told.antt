-- The turn of one line.
use Rattle.std.proofs.Common.{◌≡◌, ◌<◌, ℕ, Bool, List, [], ◌++◌, length, take, refl, ap, ◌∙◌}
use Rattle.std.proofs.Common.{Ok, Err, inl, inr}
use Rattle.std.specs.Prelude.{Result}
use Rattle.acq_faults.specs.declared.fault.Fault.{Fault}
use Rattle.acq_faults.specs.declared.fault.Fault.TheVariants as fault
use Rattle.acq_control.specs.Lines.{ended}
use Rattle.acq_control.specs.HostAnswers.{Answer, BeginsWithAnswer, is_fault_kind, kind_of_line}
use Rattle.acq_control.specs.HostAnswers.{said}
use Rattle.acq_control.specs.Telling.{IsUnanswered, StopsComing, StopsTurn}
use Rattle.acq_control.specs.Telling.{TakesTurn, Talk, Writes}
use Rattle.acq_control.specs.declared.answer_kind.AnswerKind.{AnswerKind}

-- what went to the host, and what came of it
abbrev pub turn_of : (sent came shown told : List ℕ) → Talk
turn_of sent came shown told =
    record { sent = sent; came = came; shown = shown; told = told }

-- the line was not sent whole
pub line_broken : (items it held : List ℕ) (n : ℕ) → items ≡ ended it → n < length items →
    StopsTurn it held (turn_of (take n items) [] [] []) (fault.Write n)
line_broken items it held n is short = inl (record {
  short = rw is at short;
  sent = ap (take n) is;
  came = refl;
  shown = refl;
  told = refl;
})

unanswered : (items it came : List ℕ) → items ≡ ended it →
    IsUnanswered it (turn_of items came [] [])
unanswered items it came is = record { sent = is; shown = refl; told = refl }

-- the answer didn't come
pub answer_stopped : (items it held came : List ℕ) (f : Fault) → items ≡ ended it →
    StopsComing (held ++ came) f → StopsTurn it held (turn_of items came [] []) f
answer_stopped items it held came fault.Memory is why = unanswered items it came is
answer_stopped items it held came fault.Read is why = unanswered items it came is
answer_stopped items it held came fault.Ended is why = (unanswered items it came is, why)
answer_stopped items it held came fault.BadLength is why = (unanswered items it came is, why)
answer_stopped items it held came fault.Store is why = absurd why
answer_stopped items it held came fault.BadRange is why = absurd why
answer_stopped items it held came (fault.Overlap low high) is why = absurd why
answer_stopped items it held came (fault.BadRecord n) is why = absurd why
answer_stopped items it held came fault.NoSuchMerchant is why = absurd why
answer_stopped items it held came fault.NotABook is why = absurd why
answer_stopped items it held came (fault.OtherVersion n) is why = absurd why
answer_stopped items it held came (fault.Undecodable f) is why = absurd why
answer_stopped items it held came (fault.Write n) is why = absurd why
answer_stopped items it held came fault.Silent is why = absurd why
answer_stopped items it held came fault.NoProxyHeader is why = absurd why
answer_stopped items it held came fault.DayNotOver is why = absurd why
answer_stopped items it held came (fault.StillPending n) is why = absurd why
answer_stopped items it held came (fault.BadLine n) is why = absurd why
answer_stopped items it held came (fault.OtherDay day) is why = absurd why
answer_stopped items it held came (fault.BadMessage line cause) is why = absurd why
answer_stopped items it held came (fault.RowsMissing n) is why = absurd why

-- the answer came, and was written, or not whole
module _ (items it held came after : List ℕ) (answer : Answer) (kind : AnswerKind)
    (bytes shown told : List ℕ) (is : items ≡ ended it)
    (begins : BeginsWithAnswer (held ++ came) answer after)
    (same : kind ≡ kind_of_line answer.line) (says : bytes ≡ said answer) where
  abbrev turn : Talk
  turn = turn_of items came shown told

  pub turn_taken : (result : Result Bool Fault) → Writes kind bytes shown told result →
      TakesTurn it held turn after result
  turn_taken (Ok refused) w = (
    answer,
    record {
      sent = is;
      came = begins;
      shown = w.0 ∙ rw (same, says) refl;
      told = w.1 ∙ rw (same, says) refl;
    },
    w.2 ∙ ap is_fault_kind same,
  )
  turn_taken (Err (fault.Write n)) w = inr (record {
    answer = answer;
    rest = after;
    sent = is;
    came = begins;
    short = rw says at w.0;
    shown = w.1 ∙ rw (same, says) refl;
    told = w.2 ∙ rw (same, says) refl;
  })
  turn_taken (Err fault.Memory) w = absurd w
  turn_taken (Err fault.Read) w = absurd w
  turn_taken (Err fault.Ended) w = absurd w
  turn_taken (Err fault.BadLength) w = absurd w
  turn_taken (Err fault.Store) w = absurd w
  turn_taken (Err fault.BadRange) w = absurd w
  turn_taken (Err (fault.Overlap low high)) w = absurd w
  turn_taken (Err (fault.BadRecord n)) w = absurd w
  turn_taken (Err fault.NoSuchMerchant) w = absurd w
  turn_taken (Err fault.NotABook) w = absurd w
  turn_taken (Err (fault.OtherVersion n)) w = absurd w
  turn_taken (Err (fault.Undecodable f)) w = absurd w
  turn_taken (Err fault.DayNotOver) w = absurd w
  turn_taken (Err (fault.StillPending n)) w = absurd w
  turn_taken (Err (fault.BadLine n)) w = absurd w
  turn_taken (Err fault.Silent) w = absurd w
  turn_taken (Err fault.NoProxyHeader) w = absurd w
  turn_taken (Err (fault.OtherDay day)) w = absurd w
  turn_taken (Err (fault.BadMessage line cause)) w = absurd w
  turn_taken (Err (fault.RowsMissing n)) w = absurd w
