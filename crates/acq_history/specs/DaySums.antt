-- The postings of a day, and their sums by leg.
use Rattle.std.specs.Prelude.{◌≡◌, ℕ, ◌==◌, List, map, filter}
use Rattle.day_totals.specs.Totals.{totals_of}
use Rattle.acq_core.specs.declared.posting.Posting.{Posting}
use Rattle.acq_core.specs.Tables.{postings_of, totals_on}

-- the postings of a day
abbrev pub postings_on : ℕ → List (ℕ × Posting) → List (ℕ × Posting)
postings_on day rows = filter (λ row. row.1.day == day) rows

-- The sums by leg of a merchant among a day's postings are its totals of the day.
abbrev pub SumsAreTotals : Type 0
SumsAreTotals =
    (rows : List (ℕ × Posting)) (m : List ℕ) (day : ℕ) →
    totals_of (map (λ row. (row.1.leg, row.1.amount)) (postings_of m (postings_on day rows)))
    ≡ totals_on (postings_of m rows) day
