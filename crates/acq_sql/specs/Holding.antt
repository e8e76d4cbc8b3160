-- A request that a book in SQL holds back within a group.
use Rattle.std.specs.Prelude.{◌≡◌, ℕ, ◌≤◌, Option, Some, None, Result, is_ok}
use Rattle.sqlite_trees.specs.declared.store.Store.{Ghosts}
use Rattle.acq_core.specs.declared.change.Change.{Change}
use Rattle.acq_core.specs.declared.change.Change.TheVariants as change
use Rattle.acq_core.specs.declared.posting.Posting.{Posting}
use Rattle.acq_core.specs.declared.request.Request.{Request}
use Rattle.acq_core.specs.Pasts.{HasPast}
use Rattle.acq_core.specs.Tables.{Tables, after}
use Rattle.acq_book.specs.declared.book_fault.BookFault.{BookFault}
use Rattle.acq_book.specs.Fits.{Fits}
use Rattle.acq_book.specs.Groups.{MakesWithinBy}
use Rattle.acq_book.specs.Promise.{CountsFault}
use Rattle.acq_sql_changes.specs.Changed.{with_posted}
use Rattle.acq_sql.specs.Applied.{SuitsPosted}
use Rattle.acq_sql.specs.Kept.{Kept}
use Rattle.acq_sql.specs.Opened as opened

-- it fits the tables, and leads to some that events lead to
abbrev pub Leads : Change → Tables → Type 0
Leads c t = Fits t c × HasPast (after t c)

-- the same of a request as it ends, with the posting that it makes, if any
abbrev pub LeadsPosted : Request → Option Posting → Tables → Type 0
LeadsPosted row posting t = SuitsPosted row posting t × HasPast (with_posted row posting t)

-- the same of a change behind a request
abbrev pub LeadsBehind : Request → Change → Tables → Type 0
LeadsBehind row c t = Leads (change.AddRequest row) t × Leads c (after t (change.AddRequest row))

-- the tables with the request and the change behind it
abbrev pub after_both : Request → Change → Tables → Tables
after_both row c t = after (after t (change.AddRequest row)) c

-- the tables with the request that is held back, if one is
abbrev pub with_held : Option Request → Tables → Tables
with_held None t = t
with_held (Some row) t = after t (change.AddRequest row)

-- it can be recorded
abbrev pub CanRecord : Option Request → Tables → Type 0
CanRecord None t = Unit {0}
CanRecord (Some row) t = Leads (change.AddRequest row) t

-- A change within a group. Where it suits the tables, it leads to these, or the group is to be
-- given up.
pub record ChangesGroup {S T : Type 0} (g : Ghosts S) (old new : Kept S)
    (result : Result T BookFault) (suits : Tables → Type 0) (changed : Tables → Tables) : Type 0
  where
    pub within :
        ((began : Tables) (faults : ℕ) → opened.is_within g old began faults
        → suits (opened.tables g old))
        → MakesWithinBy (opened.tables g) (opened.is_honest g) (opened.is_within g)
        (opened.can_return g) (opened.may_leave g) (opened.leaves_books g) old new (is_ok result)
        (changed (opened.tables g old))
    pub was_honest : opened.is_honest g new → opened.is_honest g old
    pub rise : old.failures ≤ new.failures
    pub counts : opened.store_faults g old ≤ opened.store_faults g new
    pub store : CountsFault result old.failures new.failures

-- ---- a book with such a request

module _ {S : Type 0} (g : Ghosts S) where
  -- the tables
  abbrev pub shown : Kept S → Option Request → Tables
  shown book held = with_held held (opened.tables g book)

  -- it is open, and none is held back
  abbrev pub is_open : Kept S → Option Request → Type 0
  is_open book held = opened.is_open g book × (held ≡ None)

  -- it is within a group, and the one that is held back can be recorded
  abbrev pub is_within : Kept S → Option Request → Tables → ℕ → Type 0
  is_within book held began faults =
      opened.is_within g book began faults × CanRecord held (opened.tables g book)

  -- nothing but memory and a fault of the store is in the way of its calls
  abbrev pub has_room : Kept S → Option Request → Type 0
  has_room book held = opened.has_room g book × (held ≡ None)
