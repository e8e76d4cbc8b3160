-- What visitors make of a row.
use Rattle.std.specs.Prelude.{◌≡◌, ◌⊎◌, ℕ, ◌+◌, ◌==◌, Bool, true, false, ◌&&◌, List, [], ◌∷◌}
use Rattle.std.specs.Prelude.{◌++◌, if◌then◌else◌}
use Rattle.std.specs.List.{list_any}
use Rattle.std.specs.Str.{bytes_eq}
use Rattle.acq_core.specs.declared.posting.Posting.{Posting}
use Rattle.acq_core.specs.declared.request.Request.{Request}
use Rattle.acq_inquiry.specs.declared.inquiry.Inquiry.{Inquiry}
use Rattle.acq_reports.specs.Slices.{goes_on}
use Rattle.acq_inquiry.specs.declared.keeping.Keeping.{Keeping}
use Rattle.acq_inquiry.specs.declared.looking.Looking.{Looking}
use Rattle.acq_inquiry.specs.declared.posting_lines.PostingLines.{PostingLines}
use Rattle.acq_inquiry.specs.declared.rows_at.Copying.{Copying}
use Rattle.acq_inquiry.specs.declared.seeing.Seeing.{Seeing}
use Rattle.acq_inquiry.specs.Inquiries.{is_asked, is_found, references_of}
use Rattle.acq_inquiry.specs.PostingLines.{posting_line}

-- the references of a request of a merchant, where it is asked for
abbrev pub references_if : List ℕ → Inquiry → Request → List ℕ
references_if merchant inquiry row =
    if bytes_eq row.key.merchant merchant && is_asked inquiry row then references_of row else []

-- a request of a merchant, where it is found
abbrev pub row_if : List ℕ → Inquiry → List ℕ → Request → List Request
row_if merchant inquiry references row =
    if bytes_eq row.key.merchant merchant && is_found inquiry references row then row ∷ [] else []

-- a posting's line is there if the request made it, or memory ran out
abbrev pub PutsPosting : PostingLines → ℕ × Posting → Bool → PostingLines → Type 0
PutsPosting old posted true new =
    (new.text.items ≡ old.text.items ++ posting_line old.request.now posted)
    × (new.request ≡ old.request)
PutsPosting old posted false new = new.is_short ≡ true

-- the place of a request of a merchant, where it is found
abbrev pub place_if : List ℕ → Inquiry → List ℕ → ℕ → Request → List ℕ
place_if merchant inquiry references place row =
    if bytes_eq row.key.merchant merchant && is_found inquiry references row then place ∷ [] else []

-- a row's references are there if it is asked for, or memory ran out
abbrev pub Sees : Seeing → Request → Bool → Seeing → Type 0
Sees old row more new =
    ((new.references.items ≡ old.references.items
    ++ references_if old.search.now.merchant old.search.now.inquiry row)
    × (new.seen ≡ old.seen + 1) × (new.end ≡ old.end) × (more ≡ goes_on new.end new.seen)
    × (new.search ≡ old.search))
    ⊎ ((new.is_short ≡ true) × (more ≡ false))

-- a row's place is there if it is found, or memory ran out
abbrev pub LooksAt : Looking → Request → Bool → Looking → Type 0
LooksAt old row more new =
    ((new.places.items ≡ old.places.items ++ place_if old.search.now.merchant
    old.search.now.inquiry old.search.now.references.items old.looked row)
    × (new.looked ≡ old.looked + 1) × (new.end ≡ old.end) × (more ≡ goes_on new.end new.looked)
    × (new.search ≡ old.search))
    ⊎ ((new.is_short ≡ true) × (more ≡ false))

-- a row is there, or memory ran out; no other is wanted
abbrev pub Copies : Copying → Request → Bool → Copying → Type 0
Copies old row more new =
    ((new.rows.items ≡ old.rows.items ++ row ∷ []) ⊎ (new.is_short ≡ true)) × (more ≡ false)

-- a posting has one of these references
abbrev pub has_one_of : List ℕ → ℕ × Posting → Bool
has_one_of references posted = list_any (λ other. other == posted.1.reference) references

-- a posting, where it has one of these references
abbrev pub kept_if : List ℕ → ℕ × Posting → List (ℕ × Posting)
kept_if references posted = if has_one_of references posted then posted ∷ [] else []

-- a posting is kept if it has one of the references, or memory ran out
abbrev pub KeepsOne : Keeping → ℕ × Posting → Bool → Keeping → Type 0
KeepsOne old posted more new =
    ((new.postings.items ≡ old.postings.items ++ kept_if old.references.now posted)
    × (new.number ≡ posted.0) × (new.gone ≡ old.gone + 1) × (new.end ≡ old.end)
    × (more ≡ goes_on new.end new.gone) × (new.references ≡ old.references))
    ⊎ ((new.is_short ≡ true) × (more ≡ false))
