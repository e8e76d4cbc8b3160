-- The tables that a database stands for, read back from its rows. A row that is none of the host's
-- reads as something too.
use Rattle.std.specs.Prelude.{ℕ, pos, ◌==◌, Bool, List, [], ◌∷◌, map, find, slice_index_or}
use Rattle.std.specs.Prelude.{Option, Some, None, unwrap_or, Result, Ok, Err}
use Rattle.std.specs.Str.{bytes_eq}
use Rattle.sqlite_value.specs.declared.value.Value.{Value}
use Rattle.sqlite_value.specs.declared.value.Value.TheVariants.{Int, Text}
use Rattle.sqlite_value.specs.Order.{Row, column, bytes}
use Rattle.sqlite_trees.specs.Objects.{number_in}
use Rattle.sqlite_trees.specs.Tree.{Trees}
use Rattle.sqlite.specs.Effect.{Database}
use Rattle.iso_codec.specs.declared.decode_fault.DecodeFault.{DecodeFault}
use Rattle.iso_codec.specs.Message.{IsoMessage}
use Rattle.iso_codec.specs.Reading.{reading_of}
use Rattle.card_no.specs.declared.range.Range.{Range}
use Rattle.day_totals.specs.Totals.{all_legs}
use Rattle.day_totals.specs.declared.leg.Leg.{Leg}
use Rattle.day_totals.specs.declared.leg.Leg.TheVariants.{Credit}
use Rattle.acq_message.specs.Services.{digits_of}
use Rattle.acq_message.specs.declared.service.Service.{Service}
use Rattle.acq_message.specs.declared.service.Service.TheVariants.{Authorization, Financial}
use Rattle.acq_message.specs.declared.service.Service.TheVariants.{Completion, Reversal}
use Rattle.acq_message.specs.declared.service.Service.TheVariants.{NetworkManagement}
use Rattle.acq_message.specs.declared.service.Service.TheVariants as service
use Rattle.acq_message.specs.declared.request_key.RequestKey.{RequestKey}
use Rattle.acq_core.specs.declared.merchant.Merchant.{Merchant}
use Rattle.acq_core.specs.declared.terminal.Terminal.{Terminal}
use Rattle.acq_core.specs.declared.request.Request.{Request}
use Rattle.acq_core.specs.declared.status.Status.{Status}
use Rattle.acq_core.specs.declared.status.Status.TheVariants.{Refused}
use Rattle.acq_core.specs.declared.posting.Posting.{Posting}
use Rattle.acq_core.specs.declared.reconciliation.Reconciliation.{Reconciliation}
use Rattle.acq_core.specs.Statuses.{status_numbered}
use Rattle.acq_core.specs.Tables.{Tables}
use Rattle.acq_sql_rows.specs.Schema.{book_tree, merchants_tree, terminals_tree, ranges_tree}
use Rattle.acq_sql_rows.specs.Schema.{requests_tree, postings_tree, reconciliations_tree}

-- ---- columns of a row; column 0 is its rowid

abbrev pub text_at : Row → ℕ → List ℕ
text_at row at = bytes (column row at)

abbrev pub number_at : Row → ℕ → ℕ
number_at row at = number_in (column row at)

abbrev pub text_if : Value → Option (List ℕ)
text_if (Text text) = Some text
text_if value = None

abbrev pub number_if : Value → Option ℕ
number_if (Int (pos n)) = Some n
number_if value = None

abbrev pub bit_at : Row → ℕ → Bool
bit_at row at = number_at row at == 1

abbrev pub leg_at : Row → ℕ → Leg
leg_at row at = slice_index_or all_legs (number_at row at) Credit

abbrev pub status_at : Row → ℕ → Status
status_at row at = unwrap_or (status_numbered (number_at row at)) Refused

abbrev pub all_services : List Service
all_services =
    Authorization ∷ Financial ∷ Completion ∷ Reversal ∷ service.ReversalAdvice
    ∷ service.Reconciliation ∷ NetworkManagement ∷ []

abbrev pub service_at : Row → ℕ → Service
service_at row at =
    unwrap_or (find (λ s. bytes_eq (digits_of s) (text_at row at)) all_services) Authorization

abbrev pub message_read : Result IsoMessage DecodeFault → IsoMessage
message_read (Ok message) = message
message_read (Err fault) = record { kind = []; elements = [] }

-- the message that the text spells
abbrev pub message_at : Row → ℕ → IsoMessage
message_at row at = message_read (reading_of (text_at row at))

-- ---- the element that a row stands for

abbrev pub merchant_at : Row → Merchant
merchant_at row =
    record { id = text_at row 1; currency = text_at row 2; first_reference = number_at row 3 }

abbrev pub terminal_at : Row → Terminal
terminal_at row = record { merchant = text_at row 1; id = text_at row 2 }

abbrev pub range_at : Row → Range
range_at row =
    record {
      low = number_at row 0;
      high = number_at row 2;
      issuer = text_at row 3;
      hold_days = number_at row 4;
    }

abbrev pub key_at : Row → RequestKey
key_at row =
    record {
      merchant = text_at row 1;
      terminal = text_at row 2;
      service = service_at row 3;
      trace = text_at row 4;
      transmission = text_at row 5;
    }

abbrev pub request_at : Row → Request
request_at row =
    record {
      key = key_at row;
      essence = text_at row 6;
      day = number_at row 7;
      status = status_at row 8;
      admitted = bit_at row 9;
      reference = number_if (column row 10);
      follows = number_if (column row 11);
      amount = number_at row 12;
      leg = leg_at row 13;
      card = text_if (column row 14);
      acquirer = text_if (column row 15);
      hold_days = number_if (column row 16);
      hold_end = number_if (column row 17);
      reply = message_at row 18;
    }

-- with its number
abbrev pub posting_at : Row → ℕ × Posting
posting_at row = (
  number_at row 3,
  record {
    merchant = text_at row 1;
    day = number_at row 2;
    leg = leg_at row 4;
    amount = number_at row 5;
    reference = number_at row 6;
    card = text_at row 7;
    terminal = text_at row 8;
    trace = text_at row 9;
  },
)

-- with its number
abbrev pub reconciliation_at : Row → ℕ × Reconciliation
reconciliation_at row = (
  number_at row 3,
  record {
    merchant = text_at row 1;
    day = number_at row 2;
    in_balance = bit_at row 4;
  },
)

-- ---- the tables

-- the book's one row
abbrev pub book_row_in : Trees → Row
book_row_in trees = slice_index_or (trees book_tree) 0 []

unfoldable pub tables_in : Trees → Tables
tables_in trees =
    record {
      limit = number_at (book_row_in trees) 2;
      day = number_at (book_row_in trees) 3;
      merchants = map merchant_at (trees merchants_tree);
      terminals = map terminal_at (trees terminals_tree);
      ranges = map range_at (trees ranges_tree);
      requests = map request_at (trees requests_tree);
      postings = map posting_at (trees postings_tree);
      reconciliations = map reconciliation_at (trees reconciliations_tree);
    }

-- the tables that a database stands for
abbrev pub tables_of : Database → Tables
tables_of db = tables_in db.trees
