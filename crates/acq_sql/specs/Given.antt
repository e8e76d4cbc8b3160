-- What a look-up of a book in SQL gives, and what is looked up first.
use Rattle.std.specs.Prelude.{false, None, Result}
use Rattle.sqlite_trees.specs.declared.store.Store.{Ghosts}
use Rattle.acq_core.specs.declared.wanted.Wanted.{Wanted}
use Rattle.acq_core.specs.Tables.{Tables}
use Rattle.acq_book.specs.declared.book_fault.BookFault.{BookFault}
use Rattle.acq_book.specs.Groups.{GivesWithinBy}
use Rattle.acq_book.specs.Promise.{GivesBy}
use Rattle.acq_sql.specs.Kept.{Kept}
use Rattle.acq_sql.specs.Opened as opened

-- outside a group and within one, as the trait has it
pub record Found {S T : Type 0} (g : Ghosts S) (old new : Kept S) (result : Result T BookFault)
    (says : T → Type 0) : Type 0 where
  pub gives :
      GivesBy (opened.tables g) (opened.is_honest g) (opened.is_open g) (opened.may_leave g)
      (opened.leaves_books g) (λ book. book.failures) (opened.store_faults g) (opened.has_room g)
      old new result says
  pub within :
      GivesWithinBy (opened.tables g) (opened.is_honest g) (opened.is_within g)
      (opened.can_return g) old new result says

-- what is said is said of its tables
abbrev pub Gives : {S T : Type 0} → Ghosts S → Kept S → Kept S → Result T BookFault →
    (Tables → T → Type 0) → Type 0
Gives g old new result says = Found g old new result (says (opened.tables g old))

-- of what is wanted, what is looked up for no merchant, or under a whole key
abbrev pub rows_of : Wanted → Wanted
rows_of w =
    record w {
      merchant = None;
      terminal = None;
      reference = None;
      admitted = false;
      used_day = None;
      totals_day = None;
    }
