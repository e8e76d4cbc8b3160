-- The lines that a gateway to issuers gets (own profile): CSV without a header, a line for a row.
use Rattle.std.specs.Prelude.{ℕ, ◌-◌, ◌&&◌, Bool, List, [], ◌∷◌, find, take, codes}
use Rattle.std.specs.Prelude.{Option, Some, None, Result, Ok, Err, unwrap_or, option_and_then}
use Rattle.std.specs.Prelude.{if◌then◌else◌}
use Rattle.std.specs.Fmt.{decimal}
use Rattle.std.specs.Str.{bytes_eq}
use Rattle.hex.specs.Hex.{encode_upper}
use Rattle.iso_codec.specs.declared.decode_fault.DecodeFault.{DecodeFault}
use Rattle.iso_codec.specs.Message.{IsoMessage}
use Rattle.iso_codec.specs.Reading.{reading_of}
use Rattle.card_no.specs.CardNumbers.{is_valid_card, prefix_of}
use Rattle.card_no.specs.declared.range.Range.{Range}
use Rattle.day_totals.specs.Digits.{zero_padded}
use Rattle.day_totals.specs.declared.leg.Leg.{Leg}
use Rattle.day_totals.specs.declared.leg.Leg.TheVariants.{Credit}
use Rattle.acq_message.specs.declared.service.Service.{Service}
use Rattle.acq_message.specs.declared.service.Service.TheVariants.{Authorization, Completion}
use Rattle.acq_message.specs.declared.service.Service.TheVariants.{Financial}
use Rattle.acq_message.specs.Elements.{or_empty, remaining_in, text_at}
use Rattle.acq_message.specs.Numbers.{is_number}
use Rattle.acq_core.specs.declared.merchant.Merchant.{Merchant}
use Rattle.acq_core.specs.declared.request.Request.{Request}
use Rattle.acq_core.specs.Tables.{Tables}
use Rattle.acq_book.specs.Lookups.{merchant_at, range_at, referred_at}
use Rattle.acq_reports.specs.Marks.{csv_line}
use Rattle.acq_gateway_lines.specs.declared.advice.Advice.{Advice}
use Rattle.acq_gateway_lines.specs.declared.known_of_row.KnownOfRow.{KnownOfRow}
use Rattle.acq_gateway_lines.specs.declared.notice.Notice.{Notice}
use Rattle.acq_gateway_lines.specs.declared.notice.Notice.TheVariants as notice
use Rattle.acq_gateway_lines.specs.declared.waiting_message.WaitingMessage.{WaitingMessage}
use Rattle.acq_gateway_lines.specs.Notices.{notice_of}

-- ---- the terminal's message

-- it is the message of a row
abbrev pub is_of : Request → WaitingMessage → Bool
is_of row message =
    is_number message.reference row.reference && bytes_eq message.merchant row.key.merchant

-- a row's message among these
abbrev pub message_in : Request → List WaitingMessage → Option WaitingMessage
message_in row messages = find (is_of row) messages

-- in hexadecimal
abbrev pub hex_of : Option WaitingMessage → List ℕ
hex_of None = []
hex_of (Some message) = encode_upper message.text

abbrev pub hex_in : Request → List WaitingMessage → List ℕ
hex_in row messages = hex_of (message_in row messages)

-- ---- what a row's line says beside the row

-- the card: a reversal's is its original's
abbrev pub card_of : Notice → Request → Option Request → List ℕ
card_of notice.Reversal row None = []
card_of notice.Reversal row (Some original) = or_empty original.card
card_of other row original = or_empty row.card

-- the range that holds a card
abbrev pub range_of : Tables → List ℕ → Option Range
range_of t card = if is_valid_card card then range_at t (prefix_of card) else None

-- the request that a row refers to
abbrev pub original_of : Tables → Notice → Request → Option Request
original_of t notice.Reversal row =
    option_and_then (referred_at t row.key.merchant) row.follows
original_of t other row = None

-- what the tables know beside the row
abbrev pub known_at : Tables → Notice → Request → KnownOfRow
known_at t what row =
    record {
      original = original_of t what row;
      merchant = merchant_at t row.key.merchant;
      range = range_of t (card_of what row (original_of t what row));
    }

abbrev pub currency_of : Option Merchant → List ℕ
currency_of None = []
currency_of (Some merchant) = merchant.currency

abbrev pub issuer_of : Option Range → List ℕ
issuer_of None = []
issuer_of (Some range) = range.issuer

-- ---- words

abbrev pub kind_word : Service → List ℕ
kind_word Authorization = codes "authorization"
kind_word Completion = codes "completion"
kind_word other = codes "financial"

abbrev pub kind_word_if : Option Service → List ℕ
kind_word_if None = []
kind_word_if (Some service) = kind_word service

abbrev pub leg_word : Leg → List ℕ
leg_word Credit = codes "credit"
leg_word other = codes "debit"

-- a hold has no leg in its row: it debits
abbrev pub leg_of : Service → Leg → List ℕ
leg_of Authorization leg = codes "debit"
leg_of service leg = leg_word leg

abbrev pub notice_word : Notice → List ℕ
notice_word notice.Query = codes "query"
notice_word notice.Completion = codes "completion"
notice_word notice.Reversal = codes "reversal"
notice_word notice.Timeout = codes "timeout"

-- ---- queries

abbrev pub query_fields : ℕ → List WaitingMessage → ℕ → Request → KnownOfRow → List (List ℕ)
query_fields moment messages number row known =
    codes "query" ∷ decimal number ∷ row.key.merchant
    ∷ zero_padded 12 (unwrap_or row.reference 0) ∷ kind_word row.key.service
    ∷ leg_of row.key.service row.leg ∷ or_empty row.card ∷ decimal row.amount
    ∷ currency_of known.merchant ∷ issuer_of known.range ∷ decimal moment ∷ hex_in row messages
    ∷ []

-- ---- advices

-- the service of the request that element 90 of a reversal names
abbrev pub service_named : List ℕ → Service
service_named digits =
    if bytes_eq digits (codes "010") then Authorization
    else if bytes_eq digits (codes "020") then Financial
    else Completion

-- a reversal, by what its message says: what of its original's amount it takes back, and what it
-- lets remain
abbrev pub reversal_of : Request → Result IsoMessage DecodeFault → Advice
reversal_of row (Ok message) =
    record {
      service = Some (service_named (take 3 (text_at message 90)));
      reference = row.follows;
      amount = row.amount - remaining_in message;
      remains = remaining_in message;
    }
reversal_of row (Err fault) =
    record { service = None; reference = row.follows; amount = row.amount; remains = 0 }

-- what is advised of a row
abbrev pub advice_of : Notice → Request → Advice
advice_of notice.Completion row =
    record {
      service = Some Authorization;
      reference = row.follows;
      amount = row.amount;
      remains = 0;
    }
advice_of notice.Reversal row = reversal_of row (reading_of row.essence)
advice_of other row =
    record {
      service = Some row.key.service;
      reference = row.reference;
      amount = row.amount;
      remains = 0;
    }

abbrev pub advice_fields : Notice → ℕ → Request → Advice → KnownOfRow → List (List ℕ)
advice_fields what number row advice known =
    codes "advice" ∷ decimal number ∷ row.key.merchant
    ∷ zero_padded 12 (unwrap_or advice.reference 0) ∷ notice_word what
    ∷ kind_word_if advice.service ∷ card_of what row known.original ∷ decimal advice.amount
    ∷ decimal advice.remains ∷ currency_of known.merchant ∷ issuer_of known.range ∷ []

-- ---- lines

-- the line of a row of which this is told
abbrev pub line_of : ℕ → List WaitingMessage → ℕ → Notice → Request → KnownOfRow → List ℕ
line_of moment messages number notice.Query row known =
    csv_line (query_fields moment messages number row known)
line_of moment messages number what row known =
    csv_line (advice_fields what number row (advice_of what row) known)

-- the line of a row, or nothing
abbrev pub line_if :
    Tables → (moment : ℕ) → List WaitingMessage → (number : ℕ) → Request → Option Notice → List ℕ
line_if t moment messages number row None = []
line_if t moment messages number row (Some what) =
    line_of moment messages number what row (known_at t what row)

-- the line of the row with a number, as it stands in these tables, written at a moment
abbrev pub row_line :
    Tables → (moment : ℕ) → List WaitingMessage → (number : ℕ) → Request → List ℕ
row_line t moment messages number row = line_if t moment messages number row (notice_of row)
