-- A statement of a merchant's day, by a look at a book.
use Rattle.std.specs.Prelude.{◌≡◌, ◌∷◌, [], ℕ, List, Option, Some, None, Vec}
use Rattle.std.specs.declared.alloc.Global.{Global}
use Rattle.acq_core.specs.Tables.{Tables}
use Rattle.acq_reports.specs.Refusals.{merchant_refusal}
use Rattle.acq_reports.specs.declared.report_fault.ReportFault.TheVariants.{NoSuchMerchant}
use Rattle.acq_statement.specs.Gathered.{only}
use Rattle.acq_statement.specs.Statement.{statement_text}
use Rattle.acq_control.specs.declared.merchant_statement.MerchantStatement.{MerchantStatement}

-- as the command over a file writes it
abbrev pub text_stated : Tables → MerchantStatement → List ℕ
text_stated t asked = statement_text t (asked.merchant ∷ []) (only asked.day) asked.form

-- the text, or that the merchant isn't enrolled
abbrev pub IsStated : Tables → MerchantStatement → Option (Vec ℕ Global) → Type 0
IsStated t asked None = merchant_refusal t asked.merchant ≡ Some NoSuchMerchant
IsStated t asked (Some text) =
    (merchant_refusal t asked.merchant ≡ None) × (text.items ≡ text_stated t asked)
