-- The records of a slice, as they are gathered.
use Rattle.std.specs.Prelude.{◌≡◌, ◌⊎◌, ℕ, Bool, true, false, ◌++◌, ◌&&◌, length, nat_lt, not}
use Rattle.std.specs.Prelude.{Result, Ok, Err}
use Rattle.acq_core.specs.declared.posting.Posting.{Posting}
use Rattle.acq_book.specs.declared.book_fault.BookFault.{BookFault}
use Rattle.acq_book.specs.declared.book_fault.BookFault.TheVariants.{Memory, Store}
use Rattle.acq_clearing.specs.ClearingFile.{posting_line}
use Rattle.acq_clearing.specs.declared.bookmark.Bookmark.TheVariants.{Behind, End}
use Rattle.acq_clearing.specs.declared.slice.Records.{Records}
use Rattle.acq_clearing.specs.declared.slice.Slice.{Slice}

-- the slice is to have more: memory is there, and it has less than 5 KiB
abbrev pub wants_more : Records → Bool
wants_more r = not r.is_short && nat_lt (length r.text.items) 5120

-- a record is put behind the others, or memory ran out
abbrev pub Gathers : Records → ℕ × Posting → Bool → Records → Type 0
Gathers old row more new =
    ((new.text.items ≡ old.text.items ++ posting_line row)
    × (new.last ≡ Behind row.1.merchant row.0) × (new.is_short ≡ old.is_short)
    × (more ≡ wants_more new))
    ⊎ ((new.is_short ≡ true) × (more ≡ false))

-- the slice is what was gathered, and the next one begins behind it, or there is none
abbrev pub Cuts : Records → Result Slice BookFault → Type 0
Cuts r (Ok slice) =
    (r.is_short ≡ false) × (slice.text.items ≡ r.text.items)
    × (((wants_more r ≡ true) × (slice.next ≡ End))
    ⊎ ((wants_more r ≡ false) × (slice.next ≡ r.last)))
Cuts r (Err Memory) = r.is_short ≡ true
Cuts r (Err Store) = ⊥
