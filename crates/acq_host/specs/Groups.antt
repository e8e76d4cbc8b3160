-- Groups of a host's book: the members of the trait `Book` in one word.
use Rattle.std.specs.Prelude.{Bool}
use Rattle.acq_book.specs.declared.book.Book.{Ghosts}
use Rattle.acq_book.specs.Groups.{BeginsBy, KeepsBy, ReturnsBy}

abbrev pub Begins : {S : Type 0} → Ghosts S → S → S → Bool → Type 0
Begins book =
    BeginsBy book.tables book.is_honest book.is_open book.is_within book.may_leave
    book.leaves_books book.failures book.store_faults

abbrev pub Keeps : {S : Type 0} → Ghosts S → S → S → Bool → Type 0
Keeps book =
    KeepsBy book.tables book.is_honest book.is_open book.is_within book.may_leave
    book.leaves_books book.failures book.store_faults

abbrev pub Returns : {S : Type 0} → Ghosts S → S → S → Type 0
Returns book =
    ReturnsBy book.tables book.is_honest book.is_open book.can_return book.may_leave
    book.leaves_books book.failures book.store_faults
