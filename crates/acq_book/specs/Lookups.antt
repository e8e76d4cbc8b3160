-- What each look-up and each walk gives of the tables' lists.
use Rattle.std.specs.Prelude.{ℕ, ◌==◌, nat_lt, Bool, true, false, ◌&&◌, List, filter, find}
use Rattle.std.specs.Prelude.{Option, Some, None, option_map, length, drop}
use Rattle.std.specs.List.{list_any}
use Rattle.std.specs.Str.{bytes_eq}
use Rattle.std.specs.Ordering.{nat_cmp, ordering_then, is_lt}
use Rattle.std.specs.Cmp.Lexicographic.{slice_cmp}
use Rattle.card_no.specs.declared.range.Range.{Range}
use Rattle.card_no.specs.Ranges.{range_of_prefix, between, overlapped_by}
use Rattle.day_totals.specs.Totals.{DayTotals}
use Rattle.acq_message.specs.declared.service.Service.{Service}
use Rattle.acq_message.specs.declared.service.Service.TheVariants.{Authorization}
use Rattle.acq_message.specs.declared.request_key.RequestKey.{RequestKey}
use Rattle.acq_message.specs.Numbers.{is_number}
use Rattle.acq_message.specs.Elements.{same_key}
use Rattle.acq_core.specs.declared.merchant.Merchant.{Merchant}
use Rattle.acq_core.specs.declared.terminal.Terminal.{Terminal}
use Rattle.acq_core.specs.declared.request.Request.{Request}
use Rattle.acq_core.specs.declared.posting.Posting.{Posting}
use Rattle.acq_core.specs.declared.reconciliation.Reconciliation.{Reconciliation}
use Rattle.acq_core.specs.Tables.{Tables, count, is_approved, is_pending, requests_of, postings_of}
use Rattle.acq_core.specs.Tables.{admitted_in, used_in, totals_on}
use Rattle.acq_book.specs.Order.{in_order, last_of}

-- ---- look-ups

-- the merchant with this name
abbrev pub merchant_at : Tables → List ℕ → Option Merchant
merchant_at t id = find (λ row. bytes_eq row.id id) t.merchants

-- the merchant has this terminal
abbrev pub has_terminal_at : Tables → List ℕ → List ℕ → Bool
has_terminal_at t m id =
    list_any (λ row. bytes_eq row.merchant m && bytes_eq row.id id) t.terminals

-- how many terminals there are, of all merchants
abbrev pub terminal_count_at : Tables → ℕ
terminal_count_at t = length t.terminals

-- the range that holds a prefix
abbrev pub range_at : Tables → ℕ → Option Range
range_at t prefix = range_of_prefix t.ranges prefix

-- of the ranges that overlap these ends, the one of least low
abbrev pub overlapping_at : Tables → ℕ → ℕ → Option Range
overlapping_at t low high = overlapped_by (between low high) t.ranges

-- how many ranges there are
abbrev pub range_count_at : Tables → ℕ
range_count_at t = length t.ranges

-- the request with this key
abbrev pub request_at : Tables → RequestKey → Option Request
request_at t key = find (λ row. same_key row.key key) t.requests

-- the merchant's request with this reference
abbrev pub referred_at : Tables → List ℕ → ℕ → Option Request
referred_at t m reference =
    find (λ row. is_number reference row.reference) (requests_of m t.requests)

-- how many of the merchant's requests were admitted
abbrev pub admitted_at : Tables → List ℕ → ℕ
admitted_at t m = admitted_in (requests_of m t.requests)

-- how many of its messages count against the limit of a day
abbrev pub used_at : Tables → List ℕ → ℕ → ℕ
used_at t m day = used_in (requests_of m t.requests) day

-- how many messages of all merchants do so
abbrev pub used_on_at : Tables → ℕ → ℕ
used_on_at t day = used_in t.requests day

-- its totals of a day
abbrev pub totals_at : Tables → List ℕ → ℕ → DayTotals
totals_at t m day = totals_on (postings_of m t.postings) day

-- how many requests of a day are pending, of all merchants
abbrev pub pending_at : Tables → ℕ → ℕ
pending_at t day = count (λ row. is_pending row.status && (row.day == day)) t.requests

-- the merchant's last reconciliation of a day
abbrev pub last_reconciliation_at : Tables → List ℕ → ℕ → Option Reconciliation
last_reconciliation_at t m day =
    option_map (λ row. row.1)
    (last_of (filter (λ row. bytes_eq row.1.merchant m && (row.1.day == day)) t.reconciliations))

-- ---- walks

-- by merchant, and of one merchant by number
abbrev pub is_posting_before : ℕ × Posting → ℕ × Posting → Bool
is_posting_before a b =
    is_lt (ordering_then (slice_cmp nat_cmp a.1.merchant b.1.merchant) (nat_cmp a.0 b.0))

-- the postings of a day, in order of merchant and number
abbrev pub postings_at : Tables → ℕ → List (ℕ × Posting)
postings_at t day = in_order is_posting_before (filter (λ row. row.1.day == day) t.postings)

-- those of a merchant and day with numbers above one, in order of number
abbrev pub postings_above_at : Tables → List ℕ → (day number : ℕ) → List (ℕ × Posting)
postings_above_at t m day number =
    in_order is_posting_before
    (filter (λ row. bytes_eq row.1.merchant m && (row.1.day == day) && nat_lt number row.0)
    t.postings)

-- those of a day of the merchants behind one, in order of merchant and number
abbrev pub postings_behind_at : Tables → List ℕ → ℕ → List (ℕ × Posting)
postings_behind_at t m day =
    in_order is_posting_before
    (filter (λ row. (row.1.day == day) && is_lt (slice_cmp nat_cmp m row.1.merchant)) t.postings)

-- by name
abbrev pub is_merchant_before : Merchant → Merchant → Bool
is_merchant_before a b = is_lt (slice_cmp nat_cmp a.id b.id)

-- the merchants, in order of their names
abbrev pub merchants_at : Tables → List Merchant
merchants_at t = in_order is_merchant_before t.merchants

-- by merchant, and of one merchant by name
abbrev pub is_terminal_before : Terminal → Terminal → Bool
is_terminal_before a b =
    is_lt (ordering_then (slice_cmp nat_cmp a.merchant b.merchant) (slice_cmp nat_cmp a.id b.id))

-- the terminals of all merchants, in order of merchant and name
abbrev pub terminals_at : Tables → List Terminal
terminals_at t = in_order is_terminal_before t.terminals

-- the ranges, which are in order of low
abbrev pub ranges_at : Tables → List Range
ranges_at t = t.ranges

-- an authorization
abbrev pub is_authorization : Service → Bool
is_authorization Authorization = true
is_authorization service = false

-- one reference is less than another; none is before all
abbrev pub is_reference_before : Option ℕ → Option ℕ → Bool
is_reference_before a None = false
is_reference_before None (Some n) = true
is_reference_before (Some n) (Some other) = nat_lt n other

-- the merchant's approved holds, in order of reference
abbrev pub holds_at : Tables → List ℕ → List Request
holds_at t m =
    in_order (λ a b. is_reference_before a.reference b.reference)
    (filter (λ row. is_authorization row.key.service && is_approved row.status)
    (requests_of m t.requests))

-- the pending requests of all merchants and days, in the order in which they came
abbrev pub waiting_at : Tables → List Request
waiting_at t = filter (λ row. is_pending row.status) t.requests

-- how many these are
abbrev pub waiting_count_at : Tables → ℕ
waiting_count_at t = length (waiting_at t)

-- the requests behind so many rows, in the order in which they came
abbrev pub requests_behind_at : Tables → ℕ → List Request
requests_behind_at t rows = drop rows t.requests
