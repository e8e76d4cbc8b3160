-- How far a search has come, which goes over the requests twice: first for the references of those
-- that are asked for, then for the places of those that are found by them; and then over the
-- postings of their days.
use Rattle.std.specs.Prelude.{◌≡◌, ◌⊎◌, ℕ, ◌+◌, ◌≤◌, List, [], ◌∷◌, ◌++◌, flat_map, length, take}
use Rattle.std.specs.List.{All}
use Rattle.acq_book.specs.Lookups.{requests_behind_at}
use Rattle.acq_core.specs.declared.request.Request.{Request}
use Rattle.acq_core.specs.Tables.{Tables}
use Rattle.acq_inquiry.specs.declared.inquiry.Inquiry.{Inquiry}
use Rattle.acq_inquiry.specs.declared.search.Search.{Search}
use Rattle.acq_inquiry.specs.Gathering.{place_if, references_if}
use Rattle.acq_inquiry.specs.KeptPostings.{IsKept, KeepsDays}

-- it asks for this, of a merchant's requests
abbrev pub Asks : List ℕ → Inquiry → Search → Type 0
Asks merchant inquiry search = (search.merchant ≡ merchant) × (search.inquiry ≡ inquiry)

-- what rows give, the first of which stands at a place
abbrev pub given_from : {X : Type 0} → (ℕ → Request → List X) → ℕ → List Request → List X
given_from gives place [] = []
given_from gives place (row ∷ rows) = gives place row ++ given_from gives (place + 1) rows

-- It has the references of the first requests, those that it has seen, where they are asked for;
-- and the places of the first, those that it has looked at, where they are found by these. Of days
-- it has the postings with one of these.
pub record IsSearched (t : Tables) (search : Search) : Type 0 where
  pub seen : search.seen ≤ length t.requests
  pub looked : search.looked ≤ length t.requests
  pub references :
      search.references.items
      ≡ flat_map (references_if search.merchant search.inquiry) (take search.seen t.requests)
  pub places :
      search.places.items
      ≡ given_from (place_if search.merchant search.inquiry search.references.items) 0
      (take search.looked t.requests)
  pub days : All (IsKept t search.merchant search.references.items) search.days.items

-- it has seen all requests, and looked at all
pub record IsWhole (t : Tables) (search : Search) : Type 0 where
  pub searched : IsSearched t search
  pub seen : search.seen ≡ length t.requests
  pub looked : search.looked ≡ length t.requests

-- the request at a place
abbrev pub row_at : Tables → ℕ → List Request
row_at t place = take 1 (requests_behind_at t place)

-- a copy
pub record IsCopied (old new : Search) : Type 0 where
  pub asks : Asks old.merchant old.inquiry new
  pub references : new.references.items ≡ old.references.items
  pub seen : new.seen ≡ old.seen
  pub places : new.places.items ≡ old.places.items
  pub looked : new.looked ≡ old.looked
  pub days : KeepsDays old.days.items new.days.items

-- A search that has seen more rows, which added these references. If they added any, it looks from
-- the first row on.
pub record SeesMore (old : Search) (more : List ℕ) (rows : ℕ) (new : Search) : Type 0 where
  pub asks : Asks old.merchant old.inquiry new
  pub references : new.references.items ≡ old.references.items ++ more
  pub seen : new.seen ≡ rows
  pub looks :
      ((more ≡ []) × (new.places.items ≡ old.places.items) × (new.looked ≡ old.looked)
      × KeepsDays old.days.items new.days.items)
      ⊎ ((new.places.items ≡ []) × (new.looked ≡ 0) × (new.days.items ≡ []))
