-- The laws of a book in SQL that holds a request back.
use Rattle.std.proofs.Common.{◌≡◌, sym, ap, subst, ◌∙◌, Option, Some, None}
use Rattle.sqlite_trees.specs.declared.store.Store.{Ghosts}
use Rattle.acq_core.specs.declared.request.Request.{Request}
use Rattle.acq_core.specs.Pasts.{HasPast}
use Rattle.acq_core.specs.Tables.{Tables}
use Rattle.acq_sql.specs.Holding.{CanRecord, is_open, shown, with_held}
use Rattle.acq_sql.specs.Kept.{Kept}
use Rattle.acq_sql.specs.Laws.{LeavesCommit, settled_at}
use Rattle.acq_sql.specs.Opened as opened

-- events led to the tables, with or without it
pub past_with_none : (held : Option Request) {t : Tables} → held ≡ None → HasPast t
    → HasPast (with_held held t)
past_with_none held {t} none past = subst (λ h. HasPast (with_held h t)) (sym none) past

pub past_recorded : (held : Option Request) {t : Tables} → CanRecord held t → HasPast t
    → HasPast (with_held held t)
past_recorded None can past = past
past_recorded (Some row) can past = can.1

module _ {S : Type 0} (g : Ghosts S) where
  -- where none is held back, the tables are those of the database
  pub open_is : (book : Kept S) (held : Option Request) → held ≡ None
      → shown g book held ≡ opened.tables g book
  open_is book held none = ap (λ h. with_held h (opened.tables g book)) none

  pub settled_shown : LeavesCommit g → (book : Kept S) (held : Option Request)
      → is_open g book held → (t : Tables) → opened.may_leave g book t → t ≡ shown g book held
  settled_shown law book held is t way =
      settled_at g law book is.0 t way ∙ sym (open_is book held is.1)
