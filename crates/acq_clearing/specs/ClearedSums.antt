-- What a bookkeeper reads from a clearing file: the sums by leg over a merchant's records.
use Rattle.std.specs.Prelude.{◌≡◌, ℕ, true, List, ◌∷◌, map, filter_map, drop, find, All}
use Rattle.std.specs.Prelude.{Option, None, option_map, if◌then◌else◌}
use Rattle.std.specs.Str.{bytes_eq}
use Rattle.std.specs.Str.Parse.{digits_value}
use Rattle.card_no.specs.RangeFiles.{records_of}
use Rattle.day_totals.specs.declared.leg.Leg.{Leg}
use Rattle.day_totals.specs.Totals.{DayTotals, all_legs, totals_of}
use Rattle.acq_message.specs.Numbers.{is_amount}
use Rattle.acq_core.specs.Tables.{Tables}
use Rattle.acq_book.specs.Lookups.{postings_at, totals_at, last_reconciliation_at}
use Rattle.acq_reports.specs.SettlementReport.{line_of, merchant_line}
use Rattle.acq_clearing.specs.ClearingFile.{clearing_text, leg_name, posting_fields}

-- the records of a text of CSV below its first, which names the fields
abbrev pub records_below_header : List ℕ → List (List (List ℕ))
records_below_header text = drop 1 (records_of text)

-- the leg of this name
abbrev pub leg_named : List ℕ → Option Leg
leg_named name = find (λ leg. bytes_eq (leg_name leg) name) all_legs

-- the leg and the amount of a record of the merchant; its fields are day, merchant, number, leg,
-- amount and more
abbrev pub cleared_in : List ℕ → List (List ℕ) → Option (Leg × ℕ)
cleared_in m (day ∷ merchant ∷ number ∷ leg ∷ amount ∷ more) =
    if bytes_eq merchant m then option_map (λ l. (l, digits_value 10 amount)) (leg_named leg)
    else None
cleared_in m _ = None

-- the sums by leg over the merchant's records
abbrev pub cleared_totals : List ℕ → List ℕ → DayTotals
cleared_totals m text = totals_of (filter_map (cleared_in m) (records_below_header text))

-- A day's clearing file reads back, as CSV, as the fields of each of the day's postings, in order,
-- below a header.
abbrev pub ReadsBack : Tables → ℕ → Type 0
ReadsBack t day =
    records_below_header (clearing_text t day) ≡ map posting_fields (postings_at t day)

-- The sums over the merchant's records of a day's clearing file are its totals of the day, and of
-- these sums its line of the settlement report is made.
pub record Clears (t : Tables) (day : ℕ) (m : List ℕ) : Type 0 where
  pub sums : cleared_totals m (clearing_text t day) ≡ totals_at t m day
  pub settled :
      merchant_line t day m
      ≡ line_of m (cleared_totals m (clearing_text t day)) (last_reconciliation_at t m day)

-- each posting's amount is one that element 4 may have
abbrev pub HasAmounts : Tables → Type 0
HasAmounts t = All (λ row. is_amount row.1.amount ≡ true) t.postings
