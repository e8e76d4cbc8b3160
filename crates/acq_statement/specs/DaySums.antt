-- The sums of a day (own profile): a header, and a record for each currency that a merchant has.
use Rattle.std.specs.Prelude.{ℕ, List, [], ◌∷◌, ◌++◌, flat_map, codes}
use Rattle.acq_core.specs.declared.merchant.Merchant.{Merchant}
use Rattle.acq_core.specs.Tables.{Tables}
use Rattle.acq_book.specs.Lookups.{merchants_at}
use Rattle.acq_reports.specs.Marks.{csv_line}
use Rattle.acq_statement.specs.Currencies.{currencies_of, currency_sums}
use Rattle.acq_statement.specs.Fields.{totals_fields}

abbrev pub sums_header : List ℕ
sums_header =
    codes "currency,credits,credit_amount,credit_reversals,credit_reversal_amount,"
    ++ codes "debits,debit_amount,debit_reversals,debit_reversal_amount,owed_to_merchants\n"

-- a currency: the sums of its merchants' days
abbrev pub sums_record : Tables → List ℕ → List Merchant → List ℕ → List ℕ
sums_record t days merchants currency =
    csv_line (currency ∷ totals_fields (currency_sums t days merchants currency))

-- the sums of these merchants' day
abbrev pub day_sums_on : Tables → ℕ → List Merchant → List ℕ
day_sums_on t day merchants =
    sums_header ++ flat_map (sums_record t (day ∷ []) merchants) (currencies_of merchants)

abbrev pub day_sums : Tables → ℕ → List ℕ
day_sums t day = day_sums_on t day (merchants_at t)
