-- References are consecutive.
use Rattle.std.specs.Prelude.{◌≡◌, ℕ, nat_eq, List, [], Option, Some, None, find, true}
use Rattle.std.specs.List.{filter_map, range_with_len}
use Rattle.std.specs.Str.{bytes_eq}
use Rattle.acq_core.specs.declared.event.Event.{Event}
use Rattle.acq_core.specs.declared.merchant.Merchant.{Merchant}
use Rattle.acq_core.specs.declared.request.Request.{Request}
use Rattle.acq_core.specs.Tables.{Opening, Tables, new_tables, tables_after, requests_of}
use Rattle.acq_core.specs.Tables.{admitted_in}
use Rattle.acq_soundness.specs.Keys.{are_distinct}

-- the merchant with a name, if it is enrolled
abbrev pub merchant_in : Tables → List ℕ → Option Merchant
merchant_in t m = find (λ row. bytes_eq row.id m) t.merchants

-- the references of rows, in the order in which they came
abbrev pub references_in : List Request → List ℕ
references_in rows = filter_map (λ row. row.reference) rows

-- the rows of a merchant have its references, from its first on and one more each; one that isn't
-- enrolled has no rows
abbrev pub AreRowsOf : Option Merchant → List Request → Type 0
AreRowsOf None rows = rows ≡ []
AreRowsOf (Some merchant) rows =
    references_in rows ≡ range_with_len merchant.first_reference (admitted_in rows)

-- so it is for each merchant: its references count up from its first
abbrev pub HasConsecutiveReferences : Tables → Type 0
HasConsecutiveReferences t =
    (m : List ℕ) → AreRowsOf (merchant_in t m) (requests_of m t.requests)

-- no two requests of a merchant have the same reference
abbrev pub HasUniqueReferences : Tables → Type 0
HasUniqueReferences t =
    (m : List ℕ) → are_distinct nat_eq (references_in (requests_of m t.requests)) ≡ true

-- Whatever comes, the references of each merchant are consecutive, so that none is given twice.
abbrev pub ReferencesAreConsecutive : Type 0
ReferencesAreConsecutive =
    (opening : Opening) (es : List Event) →
    let t = tables_after (new_tables opening) es in
    HasConsecutiveReferences t × HasUniqueReferences t
