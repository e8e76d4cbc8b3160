-- What became of requests, by a look at a book.
use Rattle.std.specs.Prelude.{◌≡◌, ℕ, List, Option, Some, None, Vec}
use Rattle.acq_core.specs.Tables.{Tables}
use Rattle.acq_inquiry.specs.InquiryTexts.{inquiry_text}
use Rattle.acq_reports.specs.Refusals.{merchant_refusal}
use Rattle.acq_reports.specs.declared.report_fault.ReportFault.TheVariants.{NoSuchMerchant}
use Rattle.std.specs.declared.alloc.Global.{Global}
use Rattle.acq_control.specs.declared.sought.Sought.{Sought}

-- a host that serves tells of so many requests at most
abbrev pub most_told : ℕ
most_told = 100

-- what became of those that are sought
abbrev pub found_text : Tables → Sought → List ℕ
found_text t sought = inquiry_text t sought.merchant sought.inquiry (Some most_told)

-- the text, or that the merchant isn't enrolled
abbrev pub IsFound : Tables → Sought → Option (Vec ℕ Global) → Type 0
IsFound t sought None = merchant_refusal t sought.merchant ≡ Some NoSuchMerchant
IsFound t sought (Some text) =
    (merchant_refusal t sought.merchant ≡ None)
    × (text.items ≡ found_text t sought)
