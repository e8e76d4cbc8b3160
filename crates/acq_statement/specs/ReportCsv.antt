-- The settlement report of a day as CSV (own profile): a header, a record for each enrolled
-- merchant, in order of their bytes, and one for each currency that a merchant has.
use Rattle.std.specs.Prelude.{ℕ, List, [], ◌∷◌, ◌++◌, flat_map, codes}
use Rattle.acq_core.specs.declared.merchant.Merchant.{Merchant}
use Rattle.acq_core.specs.Tables.{Tables}
use Rattle.acq_book.specs.Lookups.{merchants_at, totals_at, last_reconciliation_at}
use Rattle.acq_reports.specs.Marks.{csv_line}
use Rattle.acq_reports.specs.SettlementReport.{state_word}
use Rattle.acq_statement.specs.Currencies.{currencies_of, currency_sums}
use Rattle.acq_statement.specs.Fields.{totals_fields}

abbrev pub report_header : List ℕ
report_header =
    codes "merchant,currency,credits,credit_amount,credit_reversals,credit_reversal_amount,"
    ++ codes "debits,debit_amount,debit_reversals,debit_reversal_amount,owed_to_merchant,"
    ++ codes "reconciliation\n"

-- a merchant: its totals of the day, and what its last reconciliation found
abbrev pub merchant_record : Tables → ℕ → Merchant → List ℕ
merchant_record t day merchant =
    csv_line (merchant.id ∷ merchant.currency ∷ totals_fields (totals_at t merchant.id day)
    ++ state_word (last_reconciliation_at t merchant.id day) ∷ [])

-- a currency: the sums of its merchants' days
abbrev pub currency_record : Tables → List ℕ → List Merchant → List ℕ → List ℕ
currency_record t days merchants currency =
    csv_line ([] ∷ currency ∷ totals_fields (currency_sums t days merchants currency) ++ [] ∷ [])

-- the report on these merchants
abbrev pub report_csv_on : Tables → ℕ → List Merchant → List ℕ
report_csv_on t day merchants =
    report_header ++ flat_map (merchant_record t day) merchants
    ++ flat_map (currency_record t (day ∷ []) merchants) (currencies_of merchants)

abbrev pub report_csv : Tables → ℕ → List ℕ
report_csv t day = report_csv_on t day (merchants_at t)
