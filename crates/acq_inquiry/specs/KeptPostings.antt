-- What a search keeps of the postings of days, and the lines that it makes of them.
use Rattle.std.specs.Prelude.{◌≡◌, ◌==◌, ◌≤◌, ℕ, Bool, List, [], ◌∷◌, ◌++◌, codes, filter, find}
use Rattle.std.specs.Prelude.{flat_map, Option, Some, None}
use Rattle.std.specs.List.{All}
use Rattle.acq_core.specs.declared.posting.Posting.{Posting}
use Rattle.acq_core.specs.declared.request.Request.{Request}
use Rattle.acq_core.specs.Tables.{Tables, count}
use Rattle.acq_book.specs.Lookups.{postings_above_at}
use Rattle.acq_statement.specs.Gathered.{is_of_day, postings_up_to}
use Rattle.acq_inquiry.specs.declared.posted_day.PostedDay.{PostedDay}
use Rattle.acq_inquiry.specs.Gathering.{has_one_of}
use Rattle.acq_inquiry.specs.PostingLines.{posting_line}
use Rattle.acq_inquiry.specs.RequestLines.{request_lines}

-- Of a merchant's postings of a day it has those with one of these references and a number up to
-- one, than which no later one is less.
pub record IsKept (t : Tables) (merchant references : List ℕ) (kept : PostedDay) : Type 0 where
  pub within : kept.number ≤ count (is_of_day merchant kept.day) t.postings
  pub postings :
      kept.postings.items
      ≡ filter (has_one_of references) (postings_up_to t merchant kept.day kept.number)

-- a copy
pub record IsSameDay (old new : PostedDay) : Type 0 where
  pub day : new.day ≡ old.day
  pub number : new.number ≡ old.number
  pub postings : new.postings.items ≡ old.postings.items

-- what is kept of days is kept
abbrev pub KeepsDays : List PostedDay → List PostedDay → Type 0
KeepsDays old new =
    (t : Tables) (merchant references : List ℕ) → All (IsKept t merchant references) old
    → All (IsKept t merchant references) new

-- it is of this day
abbrev pub is_on : ℕ → PostedDay → Bool
is_on day kept = kept.day == day

-- the number of the last posting that was gone over, and those that are kept
abbrev pub kept_by : Option PostedDay → ℕ × List (ℕ × Posting)
kept_by None = (0, [])
kept_by (Some kept) = (kept.number, kept.postings.items)

-- those of a day
abbrev pub kept_in : List PostedDay → ℕ → ℕ × List (ℕ × Posting)
kept_in days day = kept_by (find (is_on day) days)

-- the lines of what a request posted: of the postings that are kept, and of those behind
abbrev pub lines_with : List PostedDay → Tables → Request → List ℕ
lines_with days t row =
    flat_map (posting_line row) (kept_in days row.day).1
    ++ flat_map (posting_line row)
    (postings_above_at t row.key.merchant row.day (kept_in days row.day).0)

-- what became of a request
abbrev pub text_with : List PostedDay → Tables → Request → List ℕ
text_with days t row = request_lines row ++ lines_with days t row

-- what became of these requests, or that there is none
abbrev pub told_with : List PostedDay → Tables → List Request → List ℕ
told_with days t [] = codes "nothing found\n"
told_with days t (row ∷ rows) = flat_map (text_with days t) (row ∷ rows)
