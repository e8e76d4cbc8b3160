-- The row of each element of a list, in the order of its table's columns.
use Rattle.std.specs.Prelude.{ℕ, negsuc, Bool, true, false, List, [], ◌∷◌, map, reverse}
use Rattle.sqlite_value.specs.declared.value.Value.TheVariants.{Null, Int, Text}
use Rattle.sqlite_value.specs.Order.{Row}
use Rattle.row_lemmas.specs.Values.{number, number_or_null, text_or_null}
use Rattle.iso_codec.specs.Reading.{spelling}
use Rattle.card_no.specs.declared.range.Range.{Range}
use Rattle.day_totals.specs.declared.leg.Leg.{Leg}
use Rattle.day_totals.specs.declared.leg.Leg.TheVariants.{Credit, CreditReversal, Debit}
use Rattle.day_totals.specs.declared.leg.Leg.TheVariants.{DebitReversal}
use Rattle.acq_message.specs.Services.{digits_of}
use Rattle.acq_message.specs.declared.request_key.RequestKey.{RequestKey}
use Rattle.acq_core.specs.declared.merchant.Merchant.{Merchant}
use Rattle.acq_core.specs.declared.terminal.Terminal.{Terminal}
use Rattle.acq_core.specs.declared.request.Request.{Request}
use Rattle.acq_core.specs.declared.posting.Posting.{Posting}
use Rattle.acq_core.specs.declared.reconciliation.Reconciliation.{Reconciliation}
use Rattle.acq_core.specs.Statuses.{status_number}
use Rattle.acq_sql_rows.specs.declared.tables.TheConstants.{VERSION, VERSION_OF_SIX_DIGITS}
use Rattle.acq_sql_rows.specs.Tallies.{Tally, Running}

-- ---- numbers of words

abbrev pub leg_number : Leg → ℕ
leg_number Credit = 0
leg_number CreditReversal = 1
leg_number Debit = 2
leg_number DebitReversal = 3

abbrev pub bit_of : Bool → ℕ
bit_of true = 1
bit_of false = 0

-- ---- rows

-- a book's row, of any version
abbrev pub book_row_of : ℕ → ℕ → ℕ → Row
book_row_of version limit day = number version ∷ number limit ∷ number day ∷ []

-- the version in force
abbrev pub version : ℕ
version = VERSION

-- the version before it, whose ranges are of six digits
abbrev pub version_of_six_digits : ℕ
version_of_six_digits = VERSION_OF_SIX_DIGITS

abbrev pub book_row : ℕ → ℕ → Row
book_row = book_row_of version

abbrev pub merchant_row : Merchant → Row
merchant_row m = Text m.id ∷ Text m.currency ∷ number m.first_reference ∷ []

abbrev pub terminal_row : Terminal → Row
terminal_row t = Text t.merchant ∷ Text t.id ∷ []

-- low stands as the rowid, and its column empty
abbrev pub range_row : Range → Row
range_row r = number r.low ∷ Null ∷ number r.high ∷ Text r.issuer ∷ number r.hold_days ∷ []

abbrev pub range_rows : List Range → List Row
range_rows ranges = map range_row ranges

-- while ranges are widened, -1 - low stands in place of low
abbrev pub turned_row : Range → Row
turned_row r =
    Int (negsuc r.low) ∷ Null ∷ number r.high ∷ Text r.issuer ∷ number r.hold_days ∷ []

-- so the last range comes first
abbrev pub turned_rows : List Range → List Row
turned_rows ranges = reverse (map turned_row ranges)

-- merchant, terminal, kind, trace, stamp
abbrev pub key_row : RequestKey → Row
key_row key =
    Text key.merchant ∷ Text key.terminal ∷ Text (digits_of key.service) ∷ Text key.trace
    ∷ Text key.transmission ∷ []

-- the key, and then essence, day, status, admitted, reference, follows, amount, leg, card,
-- acquirer, hold_days, until and the spelling of the reply
abbrev pub request_row : Request → Row
request_row r =
    Text r.key.merchant ∷ Text r.key.terminal ∷ Text (digits_of r.key.service) ∷ Text r.key.trace
    ∷ Text r.key.transmission ∷ Text r.essence ∷ number r.day ∷ number (status_number r.status)
    ∷ number (bit_of r.admitted) ∷ number_or_null r.reference ∷ number_or_null r.follows
    ∷ number r.amount ∷ number (leg_number r.leg) ∷ text_or_null r.card ∷ text_or_null r.acquirer
    ∷ number_or_null r.hold_days ∷ number_or_null r.hold_end ∷ Text (spelling r.reply) ∷ []

-- with its number of the merchant and day
abbrev pub posting_row : ℕ × Posting → Row
posting_row p =
    Text p.1.merchant ∷ number p.1.day ∷ number p.0 ∷ number (leg_number p.1.leg)
    ∷ number p.1.amount ∷ number p.1.reference ∷ Text p.1.card ∷ Text p.1.terminal
    ∷ Text p.1.trace ∷ []

abbrev pub reconciliation_row : ℕ × Reconciliation → Row
reconciliation_row r =
    Text r.1.merchant ∷ number r.1.day ∷ number r.0 ∷ number (bit_of r.1.in_balance) ∷ []

-- used, four counts and four amounts
abbrev pub tally_row : Tally → Row
tally_row t =
    number t.used ∷ number t.totals.credits.count ∷ number t.totals.credit_reversals.count
    ∷ number t.totals.debits.count ∷ number t.totals.debit_reversals.count
    ∷ number t.totals.credits.amount ∷ number t.totals.credit_reversals.amount
    ∷ number t.totals.debits.amount ∷ number t.totals.debit_reversals.amount ∷ []

abbrev pub running_row : Running → Row
running_row r = Text r.merchant ∷ number r.day ∷ tally_row r.tally
