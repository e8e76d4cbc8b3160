-- Of each request whose reply says 00 and that moves money there is exactly one posting, and no other
-- posting.
use Rattle.std.specs.Prelude.{◌≡◌, ℕ, ◌==◌, true, List, map, Option, Some, None, option_map, IsPermutation, codes}
use Rattle.std.specs.Prelude.{if◌then◌else◌}
use Rattle.std.specs.List.{filter_map}
use Rattle.day_totals.specs.declared.leg.Leg.TheVariants.{Credit, CreditReversal}
use Rattle.day_totals.specs.declared.leg.Leg.TheVariants.{Debit, DebitReversal}
use Rattle.acq_message.specs.declared.request_key.RequestKey.{RequestKey}
use Rattle.acq_message.specs.Elements.{transaction_in, original_key}
use Rattle.acq_message.specs.declared.service.Service.{Service}
use Rattle.acq_message.specs.declared.service.Service.TheVariants.{Financial, Completion}
use Rattle.acq_message.specs.declared.service.Service.TheVariants.{Reversal, ReversalAdvice}
use Rattle.acq_core.specs.declared.event.Event.{Event}
use Rattle.acq_core.specs.declared.posting.Posting.{Posting}
use Rattle.acq_core.specs.Events.{AreEvents}
use Rattle.acq_core.specs.Tables.{Opening, postings_of}
use Rattle.acq_history.specs.History.{Found, is_text, reference_of, kept_reply}
use Rattle.acq_history.specs.PartyHistory.{history_of, book_after}
use Rattle.acq_history.specs.Isolation.{all_recorded}
use Rattle.acq_history.specs.DaySums.{postings_on}
use Rattle.acq_history.specs.PostedRows.{sale_posting, posted_about}
use Rattle.acq_soundness.specs.Requests.{is_reversal}
use Rattle.acq_history.specs.Told.{code_in}
use Rattle.acq_history.specs.Cleared.{completion_moved, reversal_moved}

-- what a recorded request moves, by its service: a sale or a return its amount, under its
-- reference, and on the day on which it came
abbrev pub moved_by : Service → Found → Option Posting
moved_by Financial f = option_map (λ n. sale_posting n f) (reference_of f)
moved_by Completion f = completion_moved f.entry f.before f.request
moved_by Reversal f = reversal_moved f.entry f.before f.request
moved_by ReversalAdvice f = reversal_moved f.entry f.before f.request
moved_by service f = None

-- what clears of it: that, where its reply says 00, its own or that to its issuer's answer
abbrev pub cleared : Found → Option Posting
cleared f =
    if is_text (codes "00") (code_in (kept_reply f)) then moved_by f.request.service f else None

-- a posting, if it is of this day
abbrev pub on_day : ℕ → Option Posting → Option Posting
on_day day None = None
on_day day (Some p) = if p.day == day then Some p else None

-- A merchant's postings of a day are, in another order, what clears on it of its recorded requests.
abbrev pub ClearsByRequest : List ℕ → Type 0
ClearsByRequest m =
    (opening : Opening) (es : List Event) (day : ℕ) → AreEvents es →
    let requests = all_recorded (history_of opening (Some m) es) in
    IsPermutation (filter_map (λ f. on_day day (cleared f)) requests)
    (map (λ row. row.1) (postings_on day (postings_of m (book_after opening es).postings)))

-- the leg of what clears of a request: a return credits the card, a sale and a completion debit it,
-- and a reversal takes back what was posted about its original
pub record HasItsLeg (f : Found) (p : Posting) : Type 0 where
  pub returned :
      f.request.service ≡ Financial → transaction_in f.request.message ≡ codes "20" →
      p.leg ≡ Credit
  pub sold :
      f.request.service ≡ Financial → transaction_in f.request.message ≡ codes "00" →
      p.leg ≡ Debit
  pub completed : f.request.service ≡ Completion → p.leg ≡ Debit
  pub credit_reversed : (key : RequestKey) (q : Posting) → is_reversal f.request.service ≡ true →
      original_key f.request.message ≡ Some key → posted_about key f.before ≡ Some q →
      q.leg ≡ Credit → p.leg ≡ CreditReversal
  pub debit_reversed : (key : RequestKey) (q : Posting) → is_reversal f.request.service ≡ true →
      original_key f.request.message ≡ Some key → posted_about key f.before ≡ Some q →
      q.leg ≡ Debit → p.leg ≡ DebitReversal

-- What clears has the leg of what was asked for.
abbrev pub ClearsUnderItsLeg : Type 0
ClearsUnderItsLeg = (f : Found) (p : Posting) → cleared f ≡ Some p → HasItsLeg f p
