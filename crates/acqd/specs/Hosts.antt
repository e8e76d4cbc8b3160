-- The host over the book in a file.
use Rattle.sqlite_trees.specs.declared.store.Store.{Ghosts}
use Rattle.acq_core.specs.Tables.{Tables}
use Rattle.acq_recall.specs.Recalled.{Recalls}
use Rattle.acq_recall.specs.declared.recalling_book.RecallingBook.{RecallingBook}
use Rattle.acq_sql.specs.declared.once_book.OnceBook.{OnceBook}
use Rattle.acq_sql.specs.Holding.{is_open, shown}

module _ {S : Type 0} (store : Ghosts S) where
  -- its tables
  abbrev pub tables : RecallingBook (OnceBook S) → Tables
  tables host = shown store host.book.book host.book.held

  -- its book is open, and what it recalls is so
  abbrev pub IsOpen : RecallingBook (OnceBook S) → Type 0
  IsOpen host =
      is_open store host.book.book host.book.held × Recalls host.recalled (tables host)
