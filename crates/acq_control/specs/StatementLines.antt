-- What a line asks that has a statement written (own profile): of a merchant and a day, as text, or
-- as CSV where that is said.
use Rattle.std.specs.Prelude.{◌≡◌, ◌+◌, ℕ, Bool, true, false, List, codes, drop, take, Option}
use Rattle.std.specs.Prelude.{Some, None}
use Rattle.std.specs.Str.{IsUtf8, bytes_eq}
use Rattle.day_totals.specs.Day.{IsNoDateText, date_text_of}
use Rattle.acq_out.specs.Fields.{merchant_of_text}
use Rattle.acq_statement.specs.declared.statement_form.StatementForm.{StatementForm}
use Rattle.acq_statement.specs.declared.statement_form.StatementForm.TheVariants.{Csv, Text}
use Rattle.acq_control.specs.FindLines.{comma_in}
use Rattle.acq_control.specs.declared.merchant_statement.MerchantStatement.{MerchantStatement}

-- the text is the date of a day, or of none, as what isn't UTF-8 is
abbrev pub AsksOnDay : List ℕ → StatementForm → List ℕ → Option MerchantStatement → Type 0
AsksOnDay merchant form text (Some asked) =
    (asked.merchant ≡ merchant) × (asked.form ≡ form) × (text ≡ date_text_of asked.day)
AsksOnDay merchant form text None = IsUtf8 text → IsNoDateText text

-- a form behind a date is CSV, or none
abbrev pub AsksCsv : Bool → List ℕ → List ℕ → Option MerchantStatement → Type 0
AsksCsv true merchant date asked = AsksOnDay merchant Csv date asked
AsksCsv false merchant date asked = asked ≡ None

-- the day, in the form behind the first comma, if one stands there
abbrev pub AsksInForm : List ℕ → List ℕ → Option ℕ → Option MerchantStatement → Type 0
AsksInForm merchant text None asked = AsksOnDay merchant Text text asked
AsksInForm merchant text (Some comma) asked =
    AsksCsv (bytes_eq (drop (comma + 1) text) (codes "csv")) merchant (take comma text) asked

-- of a merchant
abbrev pub AsksOf : Option (List ℕ) → List ℕ → Option MerchantStatement → Type 0
AsksOf None text asked = asked ≡ None
AsksOf (Some merchant) text asked = AsksInForm merchant text (comma_in text) asked

-- the merchant stands before the first comma, what is asked behind it
abbrev pub AsksStatement : List ℕ → Option ℕ → Option MerchantStatement → Type 0
AsksStatement text None asked = asked ≡ None
AsksStatement text (Some comma) asked =
    AsksOf (merchant_of_text (take comma text)) (drop (comma + 1) text) asked
