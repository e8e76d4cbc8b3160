-- What is asked for that can't be given: a day that isn't over, or some of whose requests are
-- pending; and the holds of a merchant that isn't enrolled.
use Rattle.std.specs.Prelude.{ℕ, ◌==◌, nat_lt, List, Option, Some, None, if◌then◌else◌}
use Rattle.acq_core.specs.declared.merchant.Merchant.{Merchant}
use Rattle.acq_core.specs.Tables.{Tables}
use Rattle.acq_book.specs.Lookups.{pending_at, merchant_at}
use Rattle.acq_reports.specs.declared.report_fault.ReportFault.{ReportFault}
use Rattle.acq_reports.specs.declared.report_fault.ReportFault.TheVariants.{NoSuchMerchant}
use Rattle.acq_reports.specs.declared.report_fault.ReportFault.TheVariants.{DayNotOver}
use Rattle.acq_reports.specs.declared.report_fault.ReportFault.TheVariants.{StillPending}

-- so many requests of the day are pending
abbrev pub pending_refusal : ℕ → Option ReportFault
pending_refusal n = if n == 0 then None else Some (StillPending n)

-- a day is reported on once it is over and none of its requests is pending
abbrev pub day_refusal : Tables → ℕ → Option ReportFault
day_refusal t day =
    if nat_lt day t.day then pending_refusal (pending_at t day) else Some DayNotOver

abbrev pub unless_enrolled : Option Merchant → Option ReportFault
unless_enrolled None = Some NoSuchMerchant
unless_enrolled (Some merchant) = None

abbrev pub merchant_refusal : Tables → List ℕ → Option ReportFault
merchant_refusal t merchant = unless_enrolled (merchant_at t merchant)
