-- What is enrolled (own profile): CSV, a header and a record for each merchant, terminal or range of
-- cards, in order.
use Rattle.std.specs.Prelude.{ℕ, List, [], ◌∷◌, ◌++◌, flat_map, codes, Option, Some, None}
use Rattle.std.specs.Prelude.{if◌then◌else◌}
use Rattle.std.specs.Str.{bytes_eq}
use Rattle.std.specs.Fmt.{decimal}
use Rattle.card_no.specs.declared.range.Range.{Range}
use Rattle.day_totals.specs.Digits.{zero_padded}
use Rattle.acq_core.specs.declared.merchant.Merchant.{Merchant}
use Rattle.acq_core.specs.declared.terminal.Terminal.{Terminal}
use Rattle.acq_core.specs.Tables.{Tables}
use Rattle.acq_book.specs.Lookups.{merchants_at, terminals_at, ranges_at}
use Rattle.acq_reports.specs.Marks.{csv_line}
use Rattle.acq_directory.specs.declared.listing.Listing.{Listing}
use Rattle.acq_directory.specs.declared.listing.Listing.TheVariants.{Merchants, Terminals, Ranges}

-- the listing of this name
abbrev pub listing_named : List ℕ → Option Listing
listing_named name =
    if bytes_eq name (codes "merchants") then Some Merchants
    else if bytes_eq name (codes "terminals") then Some Terminals
    else if bytes_eq name (codes "ranges") then Some Ranges
    else None

-- the names of a record's fields
abbrev pub header_of : Listing → List ℕ
header_of Merchants = codes "merchant,currency,first_reference\n"
header_of Terminals = codes "merchant,terminal\n"
header_of Ranges = codes "low,high,issuer,hold_days\n"

abbrev pub merchant_line : Merchant → List ℕ
merchant_line row = csv_line (row.id ∷ row.currency ∷ decimal row.first_reference ∷ [])

abbrev pub terminal_line : Terminal → List ℕ
terminal_line row = csv_line (row.merchant ∷ row.id ∷ [])

-- the ends are prefixes of eight digits
abbrev pub range_line : Range → List ℕ
range_line row =
    csv_line (zero_padded 8 row.low ∷ zero_padded 8 row.high ∷ row.issuer ∷ decimal row.hold_days
    ∷ [])

-- in order of the merchants' bytes, of these and the terminals', or of low
abbrev pub records_of : Listing → Tables → List ℕ
records_of Merchants t = flat_map merchant_line (merchants_at t)
records_of Terminals t = flat_map terminal_line (terminals_at t)
records_of Ranges t = flat_map range_line (ranges_at t)

abbrev pub listing_text : Listing → Tables → List ℕ
listing_text listing t = header_of listing ++ records_of listing t
