-- The clearing file of a day (own profile): CSV, a header and a record for each posting, in order
-- of the merchants' bytes and the numbers.
use Rattle.std.specs.Prelude.{ℕ, List, [], ◌∷◌, ◌++◌, flat_map, codes}
use Rattle.std.specs.Fmt.{decimal}
use Rattle.day_totals.specs.Day.{date_text_of}
use Rattle.day_totals.specs.Digits.{zero_padded}
use Rattle.day_totals.specs.declared.leg.Leg.{Leg}
use Rattle.day_totals.specs.declared.leg.Leg.TheVariants.{Credit, CreditReversal, Debit}
use Rattle.day_totals.specs.declared.leg.Leg.TheVariants.{DebitReversal}
use Rattle.acq_core.specs.declared.posting.Posting.{Posting}
use Rattle.acq_core.specs.Tables.{Tables}
use Rattle.acq_book.specs.Lookups.{postings_at}
use Rattle.acq_reports.specs.Marks.{csv_line}

abbrev pub clearing_header : List ℕ
clearing_header = codes "day,merchant,number,leg,amount,reference,card,terminal,trace\n"

abbrev pub leg_name : Leg → List ℕ
leg_name Credit = codes "credit"
leg_name CreditReversal = codes "credit-reversal"
leg_name Debit = codes "debit"
leg_name DebitReversal = codes "debit-reversal"

-- a posting with its number; the card is whole
abbrev pub posting_fields : ℕ × Posting → List (List ℕ)
posting_fields row =
    date_text_of row.1.day ∷ row.1.merchant ∷ decimal row.0 ∷ leg_name row.1.leg
    ∷ decimal row.1.amount ∷ zero_padded 12 row.1.reference ∷ row.1.card ∷ row.1.terminal
    ∷ row.1.trace ∷ []

abbrev pub posting_line : ℕ × Posting → List ℕ
posting_line row = csv_line (posting_fields row)

abbrev pub clearing_text : Tables → ℕ → List ℕ
clearing_text t day = clearing_header ++ flat_map posting_line (postings_at t day)
