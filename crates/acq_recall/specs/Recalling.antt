-- What is said of a book in front of which things are recalled: what is said of the book itself,
-- and that what is recalled is so.
use Rattle.std.specs.Prelude.{ℕ}
use Rattle.acq_core.specs.Tables.{Tables}
use Rattle.acq_book.specs.declared.book.Book.{Ghosts}
use Rattle.acq_recall.specs.Recalled.{Recalls}
use Rattle.acq_recall.specs.declared.recalling_book.RecallingBook.{RecallingBook}

module _ {B : Type 0} (book : Ghosts B) where
  abbrev pub tables : RecallingBook B → Tables
  tables r = book.tables r.book

  abbrev pub is_honest : RecallingBook B → Type 0
  is_honest r = book.is_honest r.book

  abbrev pub is_open : RecallingBook B → Type 0
  is_open r = book.is_open r.book × Recalls r.recalled (tables r)

  abbrev pub is_within : RecallingBook B → Tables → ℕ → Type 0
  is_within r began faults = book.is_within r.book began faults × Recalls r.recalled (tables r)

  abbrev pub can_return : RecallingBook B → Tables → ℕ → Type 0
  can_return r = book.can_return r.book

  abbrev pub may_leave : RecallingBook B → Tables → Type 0
  may_leave r = book.may_leave r.book

  abbrev pub leaves_books : RecallingBook B → Type 0
  leaves_books r = book.leaves_books r.book

  abbrev pub failures : RecallingBook B → ℕ
  failures r = book.failures r.book

  abbrev pub store_faults : RecallingBook B → ℕ
  store_faults r = book.store_faults r.book

  abbrev pub has_room : RecallingBook B → Type 0
  has_room r = book.has_room r.book
