-- When a look-up fails.
use Rattle.std.specs.Prelude.{◌≡◌, ◌<◌, ◌-◌, ◌^◌, List, ℕ, true, length}
use Rattle.std.specs.Prelude.{Some, Result, IfErr}
use Rattle.sqlite.specs.declared.error.ErrorCode.TheVariants as code
use Rattle.sqlite.specs.declared.error.Error.{Error}
use Rattle.sqlite.specs.declared.error.Error.TheVariants.{SqliteFailure}
use Rattle.sqlite_value.specs.declared.value.Value.{Value}
use Rattle.sqlite_value.specs.declared.value.Value.TheVariants.{Text}
use Rattle.sqlite_value.specs.Order.{Row}
use Rattle.sqlite.specs.State.{State}
use Rattle.card_no.specs.declared.range.Range.{Range}
use Rattle.card_no.specs.CardNumbers.{is_valid_card}
use Rattle.card_no.specs.Ranges.{is_valid_range}
use Rattle.day_totals.specs.Totals.{IsWithinLimits}
use Rattle.acq_core.specs.declared.merchant.Merchant.{Merchant}
use Rattle.acq_core.specs.declared.posting.Posting.{Posting}
use Rattle.acq_core.specs.declared.reconciliation.Reconciliation.{Reconciliation}
use Rattle.acq_core.specs.declared.request.Request.{Request}
use Rattle.acq_core.specs.declared.terminal.Terminal.{Terminal}
use Rattle.acq_core.specs.Pasts.{HasPast}
use Rattle.acq_core.specs.Tables.{Tables}
use Rattle.acq_book.specs.Lookups.{merchant_at}
use Rattle.acq_soundness.specs.Rows.{FitsMerchant, FitsPosting, FitsRequest, FitsTerminal}
use Rattle.acq_sql_rows.specs.Rows.{version, merchant_row, posting_row, tally_row, terminal_row}
use Rattle.acq_sql_rows.specs.Tallies.{Tally}
use Rattle.acq_sql_rows.specs.Standing.{FailsExcusedAt, IsOpenOver}
use Rattle.acq_sql_reads.specs.Looked.{balance_cells, range_cells}
use Rattle.acq_sql_reads.specs.Recorded.{IsRowOf}

-- an error is want of memory
abbrev pub FailsForMemory : {T : Type 0} → Result T Error → Type 0
FailsForMemory result = IfErr result (λ e. e ≡ SqliteFailure code.OutOfMemory)

-- want of memory is told only of a column that has a text
abbrev pub NeedsText : {T : Type 0} → Value → Result T Error → Type 0
NeedsText value result =
    IfErr result (λ e. e ≡ SqliteFailure code.OutOfMemory → (text : List ℕ) × (value ≡ Text text))

-- over a book whose tables events led to, in a transaction or not, with no limit of steps set, a
-- look-up fails only for memory or since the store failed
abbrev pub FailsOnlyExcused : {T : Type 0} → State → State → Result T Error → Type 0
FailsOnlyExcused old new result = FailsExcusedAt (IsOpenOver version) old new result HasPast

-- the same, of tables of which this is so too
abbrev pub FailsOnlyExcusedWhere :
    {T : Type 0} → State → State → Result T Error → (Tables → Type 0) → Type 0
FailsOnlyExcusedWhere old new result fits =
    FailsExcusedAt (IsOpenOver version) old new result (λ t. HasPast t × fits t)

-- the row is that of a merchant whose columns are such as a book has
abbrev pub IsMerchantRow : Row → Type 0
IsMerchantRow row = (m : Merchant) × (row ≡ merchant_row m) × FitsMerchant m

-- the row is that of a terminal whose columns are such as a book has
abbrev pub IsTerminalRow : Row → Type 0
IsTerminalRow row = (x : Terminal) × (row ≡ terminal_row x) × FitsTerminal x

-- the row is that of a day's running totals, within the limits of a day
abbrev pub IsTallyRow : Row → Type 0
IsTallyRow row = (tally : Tally) × (row ≡ tally_row tally) × IsWithinLimits tally.totals

-- the row is that of a reconciliation, with its number
abbrev pub IsBalanceRow : Row → Type 0
IsBalanceRow row = (r : ℕ × Reconciliation) × (row ≡ balance_cells r)

-- the row is that of a range that is valid
abbrev pub IsRangeRow : Row → Type 0
IsRangeRow row = (r : Range) × (row ≡ range_cells r) × (is_valid_range r ≡ true)

-- the row is that of a request whose columns are such as a book has
abbrev pub IsRequestRow : Row → Type 0
IsRequestRow row = (r : Request) × IsRowOf row r × FitsRequest r

-- the row is that of a posting to a valid card whose columns are such as a book of some limit has
abbrev pub IsPostingRow : Row → Type 0
IsPostingRow row =
    (limit : ℕ) × (p : ℕ × Posting) × (row ≡ posting_row p) × FitsPosting limit p
    × (is_valid_card p.1.card ≡ true)

-- ---- tables

-- the merchant is enrolled
abbrev pub IsEnrolled : List ℕ → Tables → Type 0
IsEnrolled id t = (m : Merchant) × (merchant_at t id ≡ Some m)

-- it is, with this first reference
abbrev pub IsEnrolledFrom : List ℕ → ℕ → Tables → Type 0
IsEnrolledFrom id first t =
    (m : Merchant) × (merchant_at t id ≡ Some m) × (m.first_reference ≡ first)

-- there are fewer than a walk hands over at most
abbrev pub CanBeWalked : {X : Type 0} → List X → Type 0
CanBeWalked rows = length rows < 2 ^ 64 - 1

-- they are numbered from 1, and a column can keep the number of each
abbrev pub AreNumbered : {X : Type 0} → List X → Type 0
AreNumbered rows = length rows < 2 ^ 63

-- count(*) tells so many, and not only that there are more
abbrev pub IsTold : ℕ → Type 0
IsTold many = many < 2 ^ 63 - 1
