-- A reply that moves money names what clears, so that a record of the clearing file is found by what
-- the terminal was told.
use Rattle.std.specs.Prelude.{◌≡◌, ℕ, ◌+◌, true, List, [], ◌∷◌, ◌++◌, Some, if◌then◌else◌, codes}
use Rattle.iso_codec.specs.Message.{IsoMessage, content_of}
use Rattle.day_totals.specs.Day.{mmdd_of}
use Rattle.acq_message.specs.Elements.{text_at, amount_in, reference_in, remaining_in}
use Rattle.acq_core.specs.declared.event.Event.{Event}
use Rattle.acq_core.specs.declared.posting.Posting.{Posting}
use Rattle.acq_core.specs.declared.arrival.Arrival.{Arrival}
use Rattle.acq_core.specs.declared.arrival.Arrival.TheVariants.{Requested}
use Rattle.acq_core.specs.Arrivals.{arrival_of}
use Rattle.acq_core.specs.Events.{AreEvents, IsOpening}
use Rattle.acq_core.specs.Tables.{Opening}
use Rattle.acq_soundness.specs.Requests.{is_reversal}
use Rattle.acq_history.specs.PartyHistory.{is_of, entry_for, history_of}
use Rattle.acq_history.specs.Told.{reply_now}
use Rattle.acq_history.specs.Cleared.{told_posting}

-- what a reversal lets remain of the amount that it names; of anything else nothing remains
abbrev pub left_by : Arrival → ℕ
left_by (Requested r) = if is_reversal r.service then remaining_in r.message else 0
left_by arrival = 0

-- a reply with 00 that names a posting: its merchant, terminal, trace, day and reference, and its
-- amount together with what is left
pub record Names (reply : IsoMessage) (p : Posting) (left : ℕ) : Type 0 where
  pub approved : content_of reply.elements 39 ≡ Some (codes "00")
  pub merchant : text_at reply 42 ≡ p.merchant
  pub terminal : text_at reply 41 ≡ p.terminal
  pub trace : text_at reply 11 ≡ p.trace
  pub day : text_at reply 15 ≡ mmdd_of p.day
  pub reference : reference_in reply ≡ Some p.reference
  pub amount : amount_in reply ≡ p.amount + left

-- Each reply to a merchant's own event that moves money names its posting.
abbrev pub RepliesNameWhatClears : List ℕ → Type 0
RepliesNameWhatClears m =
    (opening : Opening) (es : List Event) (next : Event) (p : Posting) → IsOpening opening →
    AreEvents (es ++ next ∷ []) → is_of (Some m) (arrival_of next) ≡ true →
    let h = history_of opening (Some m) es in
    let e = entry_for opening h (arrival_of next) in
    told_posting e h ≡ Some p →
    (reply : IsoMessage) × (reply_now e.outcome ≡ Some reply)
    × Names reply p (left_by (arrival_of next))
