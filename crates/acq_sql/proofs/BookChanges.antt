-- A change over a connection in a transaction is one of its book's group.
use Rattle.std.proofs.Common.{◌≡◌, inl, inr, ℕ, true, true≢false, ⊎_elim, sym, subst}
use Rattle.std.proofs.Common.{◌∙◌, ap, arith, Bool, not, Result, Ok, Err, IfErr, is_ok}
use Rattle.sqlite_trees.specs.declared.store.Store.{Ghosts}
use Rattle.sqlite.specs.declared.error.Error.{Error}
use Rattle.sqlite.specs.State.{State, HasCleanDisk}
use Rattle.sqlite.specs.Held.{state}
use Rattle.acq_core.specs.Pasts.{HasPast}
use Rattle.acq_core.specs.Tables.{Tables}
use Rattle.acq_book.specs.Groups.{MakesWithinBy}
use Rattle.acq_book.proofs.Chains.{risen_after}
use Rattle.acq_sql_rows.proofs.TablesReadBack.{tables_of-holds}
use Rattle.acq_sql_rows.specs.Standing.{IsIn}
use Rattle.acq_sql_changes.specs.Transactions.{ChangesInside, LeadsInside}
use Rattle.acq_sql_writes.specs.Apart.{IsToldApart}
use Rattle.acq_sql_checking.proofs.Blaming.{risen_by}
use Rattle.acq_sql.specs.Faults.{IsTheStores}
use Rattle.acq_sql.specs.Kept.{Kept}
use Rattle.acq_sql.specs.Memos.{Recalls}
use Rattle.acq_sql.specs.Opened.{tables, is_honest, is_within, can_return, may_leave}
use Rattle.acq_sql.specs.Opened.{leaves_books}

module _ {S T : Type 0} (g : Ghosts S) (old new : Kept S) (result : Result T Error)
    (suits : Tables → Type 0) (changes : Tables → Tables)
    (made : ChangesInside (state g old.connection) (state g new.connection) result suits changes)
    (fits : (began : Tables) (faults : ℕ) → is_within g old began faults → suits (tables g old))
    (past : (began : Tables) (faults : ℕ) → is_within g old began faults
    → HasPast (changes (tables g old)))
    (recalls : is_ok result ≡ true → HasPast (tables g old) → Recalls old.memo (tables g old)
    → Recalls new.memo (changes (tables g old)))
    (same_group : new.in_group ≡ old.in_group) where
  abbrev before : State
  before = state g old.connection

  abbrev after : State
  after = state g new.connection

  abbrev changed : Tables
  changed = changes (tables g old)

  in_changed : (began : Tables) (faults : ℕ) → is_ok result ≡ true → HasCleanDisk after
      → is_within g old began faults → IsIn after began changed
  in_changed began faults is clean w =
      let step : (r : Result T Error) → LeadsInside before after r suits changes
      → is_ok r ≡ true → IsIn after began changed =
      elim [
        | Ok x ↦ (λ did is. did clean began (tables g old) w.inside (fits began faults w))
        | Err e ↦ (λ did is. absurd (true≢false (sym is)))
      ] in
      step result made.done is

  shows : (began : Tables) (faults : ℕ) → is_ok result ≡ true → HasCleanDisk after
      → is_within g old began faults → tables g new ≡ changed
  shows began faults is clean w =
      tables_of-holds after.now changed (in_changed began faults is clean w).holds

  pub changes_at : MakesWithinBy (tables g) (is_honest g) (is_within g) (can_return g)
      (may_leave g) (leaves_books g) old new (is_ok result) changed
  changes_at = record {
    stays = λ began faults is clean w.
        let same = sym (shows began faults is clean w) in
        let up = made.stop.counts in
        let since = w.since in
        record {
          clean = clean;
          inside = subst (IsIn after began) same (in_changed began faults is clean w);
          past = subst HasPast same (past began faults w);
          began_past = w.began_past;
          recalls = subst (Recalls new.memo) same (recalls is w.past w.recalls);
          begun = same_group ∙ w.begun;
          since = omega (arith, up, since);
        };
    made = shows;
    breaks = λ began faults is clean w.
        let up = made.stop.counts in
        let since = w.since in
        record {
          based = made.based clean began (tables g old) w.inside;
          past = w.began_past;
          shuts = ⊎_elim inl (λ more. inr (risen_after since up (risen_by more)))
              (made.stop.closes clean w.inside.is_open);
          since = omega (arith, up, since);
        };
    leaves = λ began faults clean w t way. (
      way.0,
      ⊎_elim (λ (was : before.may_leave way.0). was)
          (λ none. absurd (none began (tables g old) w.inside))
          (made.stop.crash clean way.0 way.1),
      way.2,
    );
    books = λ began faults clean w was trees way. was trees
        (⊎_elim (λ (earlier : before.may_leave trees). earlier)
        (λ none. absurd (none began (tables g old) w.inside))
        (made.stop.crash clean trees way));
  }

-- what tells a refusal from a fault of the store tells its faults
pub the_stores : (was later : State) {has_ended : Bool} → has_ended ≡ not later.in_transaction
    → (answer : Result (Unit {0}) Error) → IfErr answer (IsToldApart was later)
    → IfErr answer (IsTheStores has_ended was.faults later.faults)
the_stores was later ended (Ok done) why = tt
the_stores was later ended (Err e) (inl stands) =
    λ has memory large. absurd (true≢false (sym has ∙ ended ∙ ap not stands))
the_stores was later ended (Err e) (inr (inl (inl is))) = λ has memory large. absurd (memory is)
the_stores was later ended (Err e) (inr (inl (inr more))) = λ has memory large. risen_by more
the_stores was later ended (Err e) (inr (inr is)) = λ has memory large. absurd (large is)
