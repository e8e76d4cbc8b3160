-- What a call promises whoever holds a book: the members of the trait `Book` in one word.
use Rattle.std.specs.Prelude.{Bool, Result}
use Rattle.acq_core.specs.Tables.{Tables}
use Rattle.acq_book.specs.declared.book.Book.{Ghosts}
use Rattle.acq_book.specs.declared.book_fault.BookFault.{BookFault}
use Rattle.acq_book.specs.Groups.{GivesWithinBy, IsLive, MakesWithinBy}
use Rattle.acq_book.specs.Promise.{LooksBy, MakesBy}

-- it leaves the tables as they are
abbrev pub Looks : {S : Type 0} → Ghosts S → S → S → Bool → Type 0
Looks book =
    LooksBy book.tables book.is_honest book.is_open book.may_leave book.leaves_books book.failures
    book.store_faults

-- it leads to these tables, or is not made
abbrev pub Makes : {S : Type 0} → Ghosts S → S → S → Bool → Tables → Type 0
Makes book =
    MakesBy book.tables book.is_honest book.is_open book.may_leave book.leaves_books book.failures
    book.store_faults

-- ---- groups

-- it is open, outside a group or within one
abbrev pub Lives : {S : Type 0} → Ghosts S → S → Type 0
Lives book = IsLive book.is_open book.is_within

-- within a group it leaves the tables as they are, and says this of them
abbrev pub GivesWithin : {S T : Type 0} → Ghosts S → S → S → Result T BookFault → (T → Type 0)
    → Type 0
GivesWithin book =
    GivesWithinBy book.tables book.is_honest book.is_within book.can_return

-- within a group it leads to these tables, and commits nothing
abbrev pub MakesWithin : {S : Type 0} → Ghosts S → S → S → Bool → Tables → Type 0
MakesWithin book =
    MakesWithinBy book.tables book.is_honest book.is_within book.can_return book.may_leave
    book.leaves_books
