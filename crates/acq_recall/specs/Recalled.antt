-- What is recalled of a book's tables.
use Rattle.std.specs.Prelude.{◌≡◌, ℕ, nat_eq, ◌&&◌, true, List, find, Some, IfSome}
use Rattle.std.specs.List.{list_any}
use Rattle.std.specs.Str.{bytes_eq}
use Rattle.indexmap.specs.IndexMap.{get}
use Rattle.card_no.specs.declared.range.Range.{Range}
use Rattle.card_no.specs.Ranges.{range_of_prefix}
use Rattle.acq_core.specs.declared.merchant.Merchant.{Merchant}
use Rattle.acq_core.specs.declared.request.Request.{Request}
use Rattle.acq_core.specs.declared.terminal.Terminal.{Terminal}
use Rattle.acq_core.specs.Tables.{Tables}
use Rattle.acq_book.specs.Keys.{merchant_eq}
use Rattle.acq_lists.specs.declared.merchant_terminal.MerchantTerminal.{MerchantTerminal}
use Rattle.acq_lists.specs.Keys.{terminal_eq}
use Rattle.acq_recall.specs.Counts.{RecallsCounts}
use Rattle.acq_recall.specs.Enrolled.{RecallsEnrolled}
use Rattle.acq_recall.specs.Kept.{SaysOf}
use Rattle.acq_recall.specs.Waiting.{RecallsWaiting}
use Rattle.acq_recall.specs.declared.recollection.Recollection.{Recollection}

-- the merchant with this name
abbrev pub IsMerchant : List Merchant → List ℕ → Merchant → Type 0
IsMerchant merchants id row = find (λ one. bytes_eq one.id id) merchants ≡ Some row

-- the merchant has this terminal
abbrev pub IsTerminal : List Terminal → MerchantTerminal → Unit {0} → Type 0
IsTerminal terminals k here =
    list_any (λ row. bytes_eq row.merchant k.merchant && bytes_eq row.id k.id) terminals ≡ true

-- the range that holds this prefix
abbrev pub IsRange : List Range → ℕ → Range → Type 0
IsRange ranges prefix range = range_of_prefix ranges prefix ≡ Some range

-- it is so of a limit and a day, and of these rows
pub record RecallsRows (r : Recollection) (limit_and_day : ℕ × ℕ) (enrolled : List Merchant)
    (installed : List Terminal) (listed : List Range) (recorded : List Request) : Type 0 where
  pub row : IfSome r.row (λ row. row ≡ limit_and_day)
  pub merchants : SaysOf (IsMerchant enrolled) (get merchant_eq r.merchants.entries)
  pub terminals : SaysOf (IsTerminal installed) (get terminal_eq r.terminals.entries)
  pub ranges : SaysOf (IsRange listed) (get nat_eq r.ranges.entries)
  pub enrolled_counts : RecallsEnrolled r.enrolled_counts installed listed
  pub counts : RecallsCounts r.counts recorded
  pub waiting : RecallsWaiting r.waiting recorded

-- it is so of the tables
abbrev pub Recalls : Recollection → Tables → Type 0
Recalls r t = RecallsRows r (t.limit, t.day) t.merchants t.terminals t.ranges t.requests
