-- When a write is refused.
use Rattle.std.specs.Prelude.{◌≡◌, ℕ, ◌+◌, ◌<◌, ◌≤◌, ◌^◌, ◌==◌, ◌&&◌, Bool, true, false, List}
use Rattle.std.specs.Prelude.{length, map, None, IfSome}
use Rattle.std.specs.List.{AllByRecursion, list_any}
use Rattle.std.specs.Str.{bytes_eq}
use Rattle.sqlite.specs.Effect.{Database}
use Rattle.sqlite_catalog.specs.Listing.{IsSound}
use Rattle.row_lemmas.specs.Created.{IsBlank}
use Rattle.card_no.specs.declared.range.Range.{Range}
use Rattle.card_no.specs.Ranges.{is_valid_range}
use Rattle.acq_core.specs.declared.merchant.Merchant.{Merchant}
use Rattle.acq_core.specs.declared.terminal.Terminal.{Terminal}
use Rattle.acq_core.specs.declared.request.Request.{Request}
use Rattle.acq_core.specs.declared.posting.Posting.{Posting}
use Rattle.acq_core.specs.declared.reconciliation.Reconciliation.{Reconciliation}
use Rattle.acq_core.specs.Tables.{Tables}
use Rattle.acq_soundness.specs.Keys.{are_distinct}
use Rattle.acq_message.specs.Elements.{same_key}
use Rattle.acq_book.specs.Lookups.{merchant_at, has_terminal_at, request_at}
use Rattle.acq_sql_rows.specs.declared.form.Form.{Form}
use Rattle.acq_sql_rows.specs.Schema.{book_schema, merchants_tree, terminals_tree}
use Rattle.acq_sql_rows.specs.Schema.{ranges_tree}
use Rattle.acq_sql_rows.specs.Schema.{requests_tree, postings_tree, reconciliations_tree}
use Rattle.acq_sql_rows.specs.Schema.{running_tree}
use Rattle.acq_sql_rows.specs.Tallies.{Tally, Running, FitsTally, plus, tally_in}
use Rattle.acq_sql_rows.specs.Relation.{HoldsRows}

-- it has the rows of some tables of which this is so
abbrev pub HasTables : (Tables → Type 0) → Database → Type 0
HasTables fits db =
    (t : Tables) × (runs : List Running) × fits t × HoldsRows db t runs

-- of any tables
abbrev pub AnyTables : Tables → Type 0
AnyTables t = Unit {0}

-- its tables are those of a book, and have no rows
pub record IsEmptyBook (db : Database) : Type 0 where
  pub form : Form
  pub rows : IsBlank (book_schema form) db
  pub sound : IsSound (book_schema form) db.trees

-- rows are numbered from 1, and one more row gets a number that a column can keep
abbrev pub HasNumberLeft : {X : Type 0} → List X → Type 0
HasNumberLeft rows = length rows + 1 < 2 ^ 63

-- a column can keep it: a million bytes at most
abbrev pub IsShortText : List ℕ → Type 0
IsShortText text = length text ≤ 10 ^ 6

-- those texts of a request that its type leaves open are short
pub record HasShortTexts (row : Request) : Type 0 where
  pub essence : IsShortText row.essence
  pub card : IfSome row.card IsShortText
  pub acquirer : IfSome row.acquirer IsShortText

-- the merchant's name is new
pub record TakesMerchant (m : Merchant) (t : Tables) : Type 0 where
  pub name : merchant_at t m.id ≡ None
  pub room : HasNumberLeft t.merchants

-- the merchant has no such terminal yet
pub record TakesTerminal (x : Terminal) (t : Tables) : Type 0 where
  pub name : has_terminal_at t x.merchant x.id ≡ false
  pub room : HasNumberLeft t.terminals

-- its values are those of a range, and no other begins where it does
pub record TakesRange (r : Range) (t : Tables) : Type 0 where
  pub valid : is_valid_range r ≡ true
  pub begins : list_any (λ s. s.low == r.low) t.ranges ≡ false

-- the request's key is new, and its texts are short
pub record TakesRequest (row : Request) (t : Tables) : Type 0 where
  pub key : request_at t row.key ≡ None
  pub texts : HasShortTexts row
  pub room : HasNumberLeft t.requests

abbrev pub AreShort : List Request → Type 0
AreShort = AllByRecursion HasShortTexts

-- so it is of the requests that are there, and no two have one key
pub record HasShortRequests (t : Tables) : Type 0 where
  pub texts : AreShort t.requests
  pub keys : are_distinct same_key (map (λ row. row.key) t.requests) ≡ true
  pub room : HasNumberLeft t.requests

-- a row has this number of a merchant and day
abbrev pub is_posting : ℕ → Posting → ℕ × Posting → Bool
is_posting number p row =
    bytes_eq row.1.merchant p.merchant && (row.1.day == p.day) && (row.0 == number)

abbrev pub is_reconciliation : ℕ → Reconciliation → ℕ × Reconciliation → Bool
is_reconciliation number r row =
    bytes_eq row.1.merchant r.merchant && (row.1.day == r.day) && (row.0 == number)

-- the number is new, and the card number is short
pub record TakesPosting (number : ℕ) (p : Posting) (t : Tables) : Type 0 where
  pub fresh : list_any (is_posting number p) t.postings ≡ false
  pub card : IsShortText p.card
  pub room : HasNumberLeft t.postings

pub record TakesReconciliation (number : ℕ) (r : Reconciliation) (t : Tables) : Type 0 where
  pub fresh : list_any (is_reconciliation number r) t.reconciliations ≡ false
  pub room : HasNumberLeft t.reconciliations

-- it has the rows of some running totals of which this is so
abbrev pub HasRuns : (List Running → Type 0) → Database → Type 0
HasRuns fits db =
    (t : Tables) × (runs : List Running) × fits runs × HoldsRows db t runs

-- columns can keep the totals of the day with what came
pub record TakesMore (merchant : List ℕ) (day : ℕ) (more : Tally) (runs : List Running) : Type 0
  where
    pub fits : FitsTally (plus (tally_in runs merchant day) more)
    pub room : HasNumberLeft runs

-- each table has a number left for one more row
pub record HasNumbersLeft (db : Database) : Type 0 where
  pub merchants : HasNumberLeft (db.trees merchants_tree)
  pub terminals : HasNumberLeft (db.trees terminals_tree)
  pub ranges : HasNumberLeft (db.trees ranges_tree)
  pub requests : HasNumberLeft (db.trees requests_tree)
  pub postings : HasNumberLeft (db.trees postings_tree)
  pub reconciliations : HasNumberLeft (db.trees reconciliations_tree)
  pub running : HasNumberLeft (db.trees running_tree)
