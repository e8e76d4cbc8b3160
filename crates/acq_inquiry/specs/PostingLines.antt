-- The lines of what a request posted (own profile).
use Rattle.std.specs.Prelude.{ℕ, Bool, ◌&&◌, ◌||◌, List, [], ◌++◌, codes, flat_map}
use Rattle.std.specs.Prelude.{if◌then◌else◌}
use Rattle.std.specs.Fmt.{decimal}
use Rattle.std.specs.Str.{bytes_eq}
use Rattle.day_totals.specs.Day.{date_text_of}
use Rattle.day_totals.specs.Totals.{same_leg}
use Rattle.day_totals.specs.declared.leg.Leg.{Leg}
use Rattle.day_totals.specs.declared.leg.Leg.TheVariants.{Credit, CreditReversal, Debit}
use Rattle.day_totals.specs.declared.leg.Leg.TheVariants.{DebitReversal}
use Rattle.acq_message.specs.Numbers.{is_number}
use Rattle.acq_core.specs.declared.posting.Posting.{Posting}
use Rattle.acq_core.specs.declared.request.Request.{Request}
use Rattle.acq_core.specs.Tables.{Tables}
use Rattle.acq_book.specs.Lookups.{postings_above_at}
use Rattle.acq_inquiry.specs.RequestLines.{line_about}

-- the posting has the request's reference, or that of the request which it follows
abbrev pub shares_reference : Request → Posting → Bool
shares_reference row posting =
    is_number posting.reference row.reference || is_number posting.reference row.follows

-- Whether a request made a posting of its merchant and day: it has its terminal, its trace number,
-- its leg and its reference.
abbrev pub is_posting_of : Request → Posting → Bool
is_posting_of row posting =
    bytes_eq posting.terminal row.key.terminal && bytes_eq posting.trace row.key.trace
    && same_leg posting.leg row.leg && shares_reference row posting

-- a leg's name
abbrev pub leg_words : Leg → List ℕ
leg_words Credit = codes "credit"
leg_words CreditReversal = codes "credit reversal"
leg_words Debit = codes "debit"
leg_words DebitReversal = codes "debit reversal"

-- what a posting moved
abbrev pub moved_words : Posting → List ℕ
moved_words posting =
    codes ": " ++ leg_words posting.leg ++ codes " of " ++ decimal posting.amount

-- a posting, with its number
unfoldable pub posted_words : ℕ × Posting → List ℕ
posted_words posted =
    codes "posted on " ++ date_text_of posted.1.day ++ codes " as number " ++ decimal posted.0
    ++ moved_words posted.1

-- a posting's line, where the request made it
abbrev pub posting_line : Request → ℕ × Posting → List ℕ
posting_line row posted =
    if is_posting_of row posted.1 then line_about row (posted_words posted) else []

-- those of what a request posted, in order of their numbers, which begin at 1
abbrev pub posting_lines : Tables → Request → List ℕ
posting_lines t row = flat_map (posting_line row) (postings_above_at t row.key.merchant row.day 0)
