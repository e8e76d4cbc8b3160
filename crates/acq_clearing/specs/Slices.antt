-- A clearing file in slices, each behind the posting at which the one before ended.
use Rattle.std.specs.Prelude.{ℕ, List, [], Bool, filter, flat_map, ◌++◌}
use Rattle.std.specs.Ordering.{is_lt, nat_cmp, ordering_then}
use Rattle.std.specs.Cmp.Lexicographic.{slice_cmp}
use Rattle.acq_core.specs.declared.posting.Posting.{Posting}
use Rattle.acq_core.specs.Tables.{Tables}
use Rattle.acq_book.specs.Lookups.{postings_at}
use Rattle.acq_clearing.specs.ClearingFile.{clearing_header, posting_line}
use Rattle.acq_clearing.specs.declared.bookmark.Bookmark.{Bookmark}
use Rattle.acq_clearing.specs.declared.bookmark.Bookmark.TheVariants.{Beginning, Behind, End}

-- a posting stands behind the one of this merchant and number
abbrev pub is_behind : List ℕ → ℕ → ℕ × Posting → Bool
is_behind merchant number row =
    is_lt (ordering_then (slice_cmp nat_cmp merchant row.1.merchant) (nat_cmp number row.0))

-- the postings of a day from a bookmark on, in order of merchant and number
abbrev pub rows_from : Tables → ℕ → Bookmark → List (ℕ × Posting)
rows_from t day Beginning = postings_at t day
rows_from t day (Behind merchant number) = filter (is_behind merchant number) (postings_at t day)
rows_from t day End = []

-- and their records
abbrev pub records_from : Tables → ℕ → Bookmark → List ℕ
records_from t day from = flat_map posting_line (rows_from t day from)

-- what stands in front of them: at the beginning of a file its header
abbrev pub header_at : Bookmark → List ℕ
header_at Beginning = clearing_header
header_at (Behind merchant number) = []
header_at End = []

-- a day's clearing file from a bookmark on; from the beginning on it is the whole file
abbrev pub file_from : Tables → ℕ → Bookmark → List ℕ
file_from t day from = header_at from ++ records_from t day from
