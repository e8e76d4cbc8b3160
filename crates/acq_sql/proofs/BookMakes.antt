-- A change over a connection is one of its book.
use Rattle.std.proofs.Common.{◌≡◌, inl, inr, ◌≤◌, Bool, true, false, true≢false, IsTrue, ⊎_elim}
use Rattle.std.proofs.Common.{refl, sym, subst, ◌∙◌, arith, Result, Ok, Err, is_ok}
use Rattle.sqlite_trees.specs.declared.store.Store.{Ghosts}
use Rattle.sqlite.specs.declared.error.Error.{Error}
use Rattle.sqlite.specs.State.{State, HasCleanDisk}
use Rattle.sqlite.specs.Held.{state}
use Rattle.acq_core.specs.declared.change.Change.{Change}
use Rattle.acq_core.specs.Pasts.{HasPast}
use Rattle.acq_core.specs.Tables as core
use Rattle.acq_book.specs.Fits.{Fits}
use Rattle.acq_book.specs.Promise.{MakesBy}
use Rattle.acq_sql_rows.specs.Rows.{version}
use Rattle.acq_sql_rows.proofs.TablesReadBack.{tables_of-holds}
use Rattle.acq_sql_rows.specs.Standing.{IsAt}
use Rattle.acq_sql_changes.specs.Changed.{LeadsTo, LeavesTables}
use Rattle.acq_sql.specs.Applied.{Applies, Suits}
use Rattle.acq_sql.specs.Kept.{Kept}
use Rattle.acq_sql.specs.declared.memo.Memo.{Memo}
use Rattle.acq_sql.specs.Memos.{Recalls, nothing_recalled}
use Rattle.acq_sql.specs.Opened.{tables, is_honest, is_open, may_leave}
use Rattle.acq_sql.specs.Opened.{leaves_books, store_faults}
use Rattle.acq_sql.specs.Laws.{LeavesCommit, settled_at, stored_at, stores_what_it_reads}
use Rattle.acq_sql_checking.proofs.Blaming.{risen_by}

-- what recalls nothing recalls nothing wrong
pub nothing_wrong : {memo : Memo} → memo ≡ nothing_recalled → (t : core.Tables) → Recalls memo t
nothing_wrong is t =
    subst (λ (m : Memo). Recalls m t) (sym is) (record { row = tt; waiting = tt; used = tt })

-- a connection at tables that events lead to is an open book, where it recalls what is so, and no
-- group is begun
pub opens : {S : Type 0} (g : Ghosts S) (new : Kept S) (t : core.Tables)
    → HasCleanDisk (state g new.connection) → IsAt (state g new.connection) t → HasPast t
    → Recalls new.memo t → new.in_group ≡ false → is_open g new
opens g new t clean at past recalls outside =
    let same = sym (tables_of-holds (state g new.connection).now t at.holds) in
    record {
      opened = record {
        clean = clean;
        at = subst (IsAt (state g new.connection)) same at;
        past = subst HasPast same past;
      };
      recalls = subst (Recalls new.memo) same recalls;
      outside = outside;
    }

module _ {S T : Type 0} (g : Ghosts S) (law : LeavesCommit g) (old new : Kept S) (change : Change)
    (result : Result T Error)
    (applies : Applies (state g old.connection) (state g new.connection) result change)
    (fits : is_open g old → Fits (tables g old) change)
    (past : is_open g old → HasPast (core.after (tables g old) change))
    (recalls : is_ok result ≡ true → (t : core.Tables) → HasPast t → Recalls old.memo t
    → Recalls new.memo (core.after t change))
    (forgets : is_ok result ≡ false → new.memo ≡ nothing_recalled)
    (same_group : new.in_group ≡ old.in_group) where
  abbrev before : State
  before = state g old.connection

  abbrev after : State
  after = state g new.connection

  abbrev after_change : core.Tables → core.Tables
  after_change t = core.after t change

  abbrev changed : core.Tables
  changed = after_change (tables g old)

  suits : is_open g old → Suits change (tables g old)
  suits o = (fits o, o.opened.past)

  led : is_ok result ≡ true → HasCleanDisk after → is_open g old → IsAt after changed
  led is clean o =
      let step : (r : Result T Error) → LeadsTo version before after r (Suits change) after_change →
      is_ok r ≡ true → IsAt after changed =
      elim [
        | Ok x ↦ (λ did is. did clean (tables g old) o.opened.at (suits o))
        | Err e ↦ (λ did is. absurd (true≢false (sym is)))
      ] in
      step result applies.done is

  tables_led : is_ok result ≡ true → HasCleanDisk after → is_open g old → tables g new ≡ changed
  tables_led is clean o = tables_of-holds after.now changed (led is clean o).holds

  left : is_ok result ≡ false → HasCleanDisk after → IsTrue after.is_open → is_open g old
      → IsAt after (tables g old)
  left is clean opened o =
      let step : (r : Result T Error) → LeavesTables version before after r → is_ok r ≡ false →
      IsAt after (tables g old) =
      elim [
        | Ok x ↦ (λ did is. absurd (true≢false is))
        | Err e ↦ (λ did is. did clean opened (tables g old) o.opened.at)
      ] in
      step result applies.undone is

  opens_changed : is_ok result ≡ true → HasCleanDisk after → is_open g old → is_open g new
  opens_changed is clean o =
      opens g new changed clean (led is clean o) (past o)
      (recalls is (tables g old) o.opened.past o.recalls) (same_group ∙ o.outside)

  stays : HasCleanDisk after → is_open g old → IsTrue after.is_open → is_open g new
  stays clean o opened =
      let by : (b : Bool) → is_ok result ≡ b → is_open g new =
      elim [
        | true ↦ (λ is. opens_changed is clean o)
        | false ↦ (λ is. opens g new (tables g old) clean (left is clean opened o) o.opened.past
            (nothing_wrong (forgets is) (tables g old)) (same_group ∙ o.outside))
      ] in
      by (is_ok result) refl

  pub makes_at : old.failures ≤ new.failures
      → MakesBy (tables g) (is_honest g) (is_open g) (may_leave g) (leaves_books g)
      (λ (b : Kept S). b.failures) (store_faults g) old new (is_ok result) changed
  makes_at rise = record {
    was_honest = λ clean. let up = applies.stop.clean in omega (arith, up, clean);
    was_open = λ end. inr end.opened.past;
    stays_open = opens_changed;
    shuts = λ clean o. ⊎_elim (λ opened. inl (stays clean o opened))
        (λ more. inr (risen_by more)) (applies.stop.closes clean o.opened.at.is_open);
    made = λ is o end. tables_led is end.opened.clean o;
    unmade = λ is o end. tables_of-holds after.now (tables g old)
        (left is end.opened.clean end.opened.at.is_open o).holds;
    leaves = λ o clean t way. ⊎_elim
        (λ (was : before.may_leave way.0). inl (way.0, was, way.2))
        (λ whole. inr (way.2
        ∙ tables_of-holds _ changed (whole (tables g old) o.opened.at (suits o)).1))
        (applies.stop.crash clean way.0 way.1);
    settled = λ is o clean t way.
        settled_at g law new (opens_changed is clean o) t way
        ∙ tables_led is clean o;
    books = λ o clean trees way. ⊎_elim (λ was. stored_at g law old o trees was)
        (λ whole. stores_what_it_reads changed trees (whole (tables g old) o.opened.at (suits o)))
        (applies.stop.crash clean trees way);
    rise = rise;
    counts = applies.stop.counts;
  }
