-- Numbers stay within their bounds.
use Rattle.std.specs.Prelude.{◌≡◌, ◌≤◌, ℕ, ◌==◌, true, List, All, IfSome}
use Rattle.day_totals.specs.Day.{last_day}
use Rattle.day_totals.specs.Totals.{IsWithinLimits}
use Rattle.acq_message.specs.Numbers.{is_accepted_amount, is_reference}
use Rattle.acq_core.specs.declared.event.Event.{Event}
use Rattle.acq_core.specs.declared.posting.Posting.{Posting}
use Rattle.acq_core.specs.declared.request.Request.{Request}
use Rattle.acq_core.specs.Numbers.{is_admitted_count}
use Rattle.acq_core.specs.Tables.{Opening, Tables, new_tables, tables_after, count}
use Rattle.acq_core.specs.Tables.{requests_of, postings_of, admitted_in, used_in, totals_on}
use Rattle.acq_core.specs.Events.{AreEvents, IsOpening}

-- a row of no later day than this one, whose references are some
pub record IsBoundedRow (today : ℕ) (row : Request) : Type 0 where
  pub day : row.day ≤ today
  pub reference : IfSome row.reference (λ n. is_reference n ≡ true)
  pub follows : IfSome row.follows (λ n. is_reference n ≡ true)

-- a posting to no later day than this one, of an amount that is accepted
pub record IsBoundedPosting (today : ℕ) (row : ℕ × Posting) : Type 0 where
  pub day : row.1.day ≤ today
  pub amount : is_accepted_amount row.1.amount ≡ true
  pub reference : is_reference row.1.reference ≡ true

-- no more requests of a merchant were admitted than may be; on each day no more messages count
-- against the limit than it is, and no more are posted; and the day's totals fit
pub record IsWithinLimit (t : Tables) (m : List ℕ) : Type 0 where
  pub admitted : is_admitted_count (admitted_in (requests_of m t.requests)) ≡ true
  pub used : (day : ℕ) → used_in (requests_of m t.requests) day ≤ t.limit
  pub posted : (day : ℕ) → count (λ row. row.1.day == day) (postings_of m t.postings) ≤ t.limit
  pub totals : (day : ℕ) → IsWithinLimits (totals_on (postings_of m t.postings) day)

-- all numbers of a book that began so
pub record IsBounded (opening : Opening) (t : Tables) : Type 0 where
  pub limit : t.limit ≡ opening.limit
  pub day : t.day ≤ last_day
  pub requests : All (IsBoundedRow t.day) t.requests
  pub postings : All (IsBoundedPosting t.day) t.postings
  pub merchants : (m : List ℕ) → IsWithinLimit t m

-- Whatever comes, numbers stay within their bounds.
abbrev pub NumbersStayBounded : Type 0
NumbersStayBounded =
    (opening : Opening) (es : List Event) → IsOpening opening → AreEvents es →
    IsBounded opening (tables_after (new_tables opening) es)
