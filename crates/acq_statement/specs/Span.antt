-- The days of a statement, and the merchants that it is asked of.
use Rattle.std.specs.Prelude.{ℕ, ◌+◌, ◌-◌, nat_le, Bool, true, ◌&&◌, ◌==◌, List, length}
use Rattle.std.specs.Prelude.{Option, Some, None, is_none, if◌then◌else◌}
use Rattle.std.specs.List.{filter_map, list_any, range_with_len}
use Rattle.std.specs.Str.{bytes_eq}
use Rattle.acq_core.specs.declared.merchant.Merchant.{Merchant}
use Rattle.acq_core.specs.Tables.{Tables}
use Rattle.acq_book.specs.Lookups.{merchant_at, merchants_at}
use Rattle.acq_reports.specs.declared.report_fault.ReportFault.{ReportFault}
use Rattle.acq_reports.specs.declared.report_fault.ReportFault.TheVariants.{NoSuchMerchant}
use Rattle.acq_statement.specs.declared.days.Days.{Days}

-- from the first to the last, both included; none where the last lies before the first
abbrev pub days_of : Days → List ℕ
days_of days = range_with_len days.first (days.last + 1 - days.first)

abbrev pub is_within : Days → ℕ → Bool
is_within days day = nat_le days.first day && nat_le day days.last

-- one of the merchants that were asked for; where none was, any
abbrev pub is_asked : List (List ℕ) → List ℕ → Bool
is_asked asked merchant =
    if length asked == 0 then true else list_any (λ one. bytes_eq one merchant) asked

-- one of them isn't enrolled
abbrev pub statement_refusal : Tables → List (List ℕ) → Option ReportFault
statement_refusal t asked =
    if list_any (λ id. is_none (merchant_at t id)) asked then Some NoSuchMerchant else None

-- those that were asked for, in that order; where none was, all, in order of their bytes
abbrev pub asked_merchants : Tables → List (List ℕ) → List Merchant
asked_merchants t asked =
    if length asked == 0 then merchants_at t else filter_map (merchant_at t) asked
