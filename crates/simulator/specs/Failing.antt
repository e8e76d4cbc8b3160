-- What is said of a book that refuses a call: what is said of the book that it stands before.
use Rattle.std.specs.Prelude.{ℕ}
use Rattle.acq_core.specs.Tables.{Tables}
use Rattle.acq_book.specs.declared.book.Book.{Ghosts}
use Rattle.simulator.specs.declared.failing_book.FailingBook.{FailingBook}

module _ {B : Type 0} (book : Ghosts B) where
  abbrev pub tables : FailingBook B → Tables
  tables f = book.tables f.book

  abbrev pub is_honest : FailingBook B → Type 0
  is_honest f = book.is_honest f.book

  abbrev pub is_open : FailingBook B → Type 0
  is_open f = book.is_open f.book

  abbrev pub is_within : FailingBook B → Tables → ℕ → Type 0
  is_within f = book.is_within f.book

  abbrev pub can_return : FailingBook B → Tables → ℕ → Type 0
  can_return f = book.can_return f.book

  abbrev pub may_leave : FailingBook B → Tables → Type 0
  may_leave f = book.may_leave f.book

  abbrev pub leaves_books : FailingBook B → Type 0
  leaves_books f = book.leaves_books f.book

  abbrev pub failures : FailingBook B → ℕ
  failures f = book.failures f.book

  abbrev pub store_faults : FailingBook B → ℕ
  store_faults f = book.store_faults f.book

  abbrev pub has_room : FailingBook B → Type 0
  has_room f = book.has_room f.book
