-- The settlement report of a day (own profile): a line for each enrolled merchant, in order of
-- their bytes, between a first and a last line.
use Rattle.std.specs.Prelude.{ℕ, Bool, true, false, List, ◌++◌, length, map, flat_map, codes}
use Rattle.std.specs.Prelude.{Option, Some, None}
use Rattle.std.specs.Fmt.{decimal}
use Rattle.day_totals.specs.Day.{date_text_of}
use Rattle.day_totals.specs.Totals.{DayTotals, net_of, net_text_of}
use Rattle.day_totals.specs.declared.leg_total.LegTotal.{LegTotal}
use Rattle.acq_core.specs.declared.merchant.Merchant.{Merchant}
use Rattle.acq_core.specs.declared.reconciliation.Reconciliation.{Reconciliation}
use Rattle.acq_core.specs.Tables.{Tables}
use Rattle.acq_book.specs.Lookups.{merchants_at, totals_at, last_reconciliation_at}
use Rattle.acq_reports.specs.Marks.{dotted}

abbrev pub balance_word : Bool → List ℕ
balance_word true = codes "balanced"
balance_word false = codes "differs"

-- what the last reconciliation found, if there was one
abbrev pub state_word : Option Reconciliation → List ℕ
state_word None = codes "none"
state_word (Some row) = balance_word row.in_balance

-- a leg's count and amount, each behind a space
abbrev pub leg_words : LegTotal → List ℕ
leg_words total =
    codes " " ++ dotted 6 (decimal total.count) ++ codes " " ++ dotted 16 (decimal total.amount)

-- the four legs, and the net as element 97 spells it
abbrev pub totals_words : DayTotals → List ℕ
totals_words t =
    leg_words t.credits ++ leg_words t.credit_reversals ++ leg_words t.debits
    ++ leg_words t.debit_reversals ++ codes " " ++ net_text_of (net_of t)

-- a merchant's line
abbrev pub line_of : List ℕ → DayTotals → Option Reconciliation → List ℕ
line_of merchant totals last =
    merchant ++ totals_words totals ++ codes " " ++ state_word last ++ codes "\n"

abbrev pub merchant_line : Tables → ℕ → List ℕ → List ℕ
merchant_line t day merchant =
    line_of merchant (totals_at t merchant day) (last_reconciliation_at t merchant day)

-- the merchants' names
abbrev pub names_of : List Merchant → List (List ℕ)
names_of merchants = map (λ merchant. merchant.id) merchants

abbrev pub first_line : ℕ → List ℕ
first_line day = codes "SETTLEMENT " ++ date_text_of day ++ codes "\n"

abbrev pub last_line : ℕ → List ℕ
last_line merchants = codes "MERCHANTS " ++ decimal merchants ++ codes "\n"

-- the report on these merchants
abbrev pub report_on : Tables → ℕ → List (List ℕ) → List ℕ
report_on t day names =
    first_line day ++ flat_map (merchant_line t day) names ++ last_line (length names)

abbrev pub settlement_text : Tables → ℕ → List ℕ
settlement_text t day = report_on t day (names_of (merchants_at t))
