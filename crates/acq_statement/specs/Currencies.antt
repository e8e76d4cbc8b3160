-- The currencies of merchants, and the sums of each.
use Rattle.std.specs.Prelude.{ℕ, Bool, List, [], ◌∷◌, ◌++◌, map, filter, flat_map, if◌then◌else◌}
use Rattle.std.specs.List.{list_any}
use Rattle.std.specs.Str.{bytes_eq}
use Rattle.day_totals.specs.Totals.{DayTotals}
use Rattle.acq_core.specs.declared.merchant.Merchant.{Merchant}
use Rattle.acq_core.specs.Tables.{Tables}
use Rattle.acq_book.specs.Lookups.{totals_at}
use Rattle.acq_statement.specs.Sums.{sums_of}

-- one of these currencies
abbrev pub is_one_of : List (List ℕ) → List ℕ → Bool
is_one_of found currency = list_any (λ one. bytes_eq one currency) found

-- these, and one more unless it is one of them
abbrev pub with_currency : List (List ℕ) → List ℕ → List (List ℕ)
with_currency found currency =
    if is_one_of found currency then found else found ++ currency ∷ []

-- these, and each currency of the merchants once, in order of the first merchant that has it
abbrev pub with_currencies : List (List ℕ) → List Merchant → List (List ℕ)
with_currencies found [] = found
with_currencies found (merchant ∷ more) =
    with_currencies (with_currency found merchant.currency) more

abbrev pub currencies_of : List Merchant → List (List ℕ)
currencies_of merchants = with_currencies [] merchants

-- the merchants of a currency
abbrev pub merchants_in : List ℕ → List Merchant → List Merchant
merchants_in currency merchants =
    filter (λ merchant. bytes_eq merchant.currency currency) merchants

-- a merchant's totals of each of these days
abbrev pub totals_of_days : Tables → List ℕ → Merchant → List DayTotals
totals_of_days t days merchant = map (λ day. totals_at t merchant.id day) days

-- the sums of all days of these merchants
abbrev pub sums_of_days : Tables → List ℕ → List Merchant → DayTotals
sums_of_days t days merchants = sums_of (flat_map (totals_of_days t days) merchants)

-- the sums of a currency
abbrev pub currency_sums : Tables → List ℕ → List Merchant → List ℕ → DayTotals
currency_sums t days merchants currency = sums_of_days t days (merchants_in currency merchants)
