-- The row of a recorded request.
use Rattle.std.specs.Prelude.{◌≡◌, ◌≢◌, ℕ, List, [], ◌∷◌, Option, Some, None, Ok}
use Rattle.sqlite_value.specs.declared.value.Value.{Value}
use Rattle.sqlite_value.specs.declared.value.Value.TheVariants.{Text}
use Rattle.sqlite_value.specs.Order.{Row, column}
use Rattle.row_lemmas.specs.Values.{number, number_or_null, text_or_null}
use Rattle.iso_codec.specs.Message.{IsMessage}
use Rattle.iso_codec.specs.Reading.{reading_of}
use Rattle.acq_message.specs.Services.{digits_of}
use Rattle.acq_message.specs.declared.request_key.RequestKey.{RequestKey}
use Rattle.acq_message.specs.declared.service.Service.{Service}
use Rattle.acq_core.specs.declared.request.Request.{Request}
use Rattle.acq_core.specs.declared.status.Status.{Status}
use Rattle.acq_core.specs.Statuses.{status_number}
use Rattle.acq_soundness.specs.Rows.{FitsKey}
use Rattle.acq_sql_rows.specs.Rows.{request_row, leg_number, bit_of}

-- the request's row, with this text for its reply
abbrev pub request_cells : Request → List ℕ → Row
request_cells r reply =
    Text r.key.merchant ∷ Text r.key.terminal ∷ Text (digits_of r.key.service) ∷ Text r.key.trace
    ∷ Text r.key.transmission ∷ Text r.essence ∷ number r.day ∷ number (status_number r.status)
    ∷ number (bit_of r.admitted) ∷ number_or_null r.reference ∷ number_or_null r.follows
    ∷ number r.amount ∷ number (leg_number r.leg) ∷ text_or_null r.card ∷ text_or_null r.acquirer
    ∷ number_or_null r.hold_days ∷ number_or_null r.hold_end ∷ Text reply ∷ []

-- the row is the request's, and its reply's text reads as the reply
abbrev pub IsRowOf : Row → Request → Type 0
IsRowOf row r =
    (reply : List ℕ) × (row ≡ request_cells r reply) × (reading_of reply ≡ Ok r.reply)

-- the first five columns
pub record HasKey (row : Row) (key : RequestKey) : Type 0 where
  pub merchant : column row 0 ≡ Text key.merchant
  pub terminal : column row 1 ≡ Text key.terminal
  pub kind : column row 2 ≡ Text (digits_of key.service)
  pub trace : column row 3 ≡ Text key.trace
  pub stamp : column row 4 ≡ Text key.transmission

-- no key such as a book has stands there
abbrev pub HasNoKey : Row → Type 0
HasNoKey row = (key : RequestKey) → HasKey row key → ¬ FitsKey key

-- the value is not the digits of a service
abbrev pub NamesNoService : Value → Type 0
NamesNoService value = (s : Service) → value ≢ Text (digits_of s)

-- the value is the number of a status
abbrev pub NumbersStatus : Value → Type 0
NumbersStatus value = (s : Status) × (value ≡ number (status_number s))

-- the request's row, or none
abbrev pub ShowsRequest : Option Request → List Row → Type 0
ShowsRequest None rows = rows ≡ []
ShowsRequest (Some r) rows = (rows ≡ request_row r ∷ []) × IsMessage r.reply
