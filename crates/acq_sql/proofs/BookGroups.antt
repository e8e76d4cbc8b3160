-- Groups over a connection are groups of its book.
use Rattle.std.proofs.Common.{◌≡◌, inl, inr, ℕ, ◌≤◌, Bool, true, false, true≢false, IsTrue}
use Rattle.std.proofs.Common.{⊎_elim, sym, ap, subst, ◌∙◌, arith, Result, Ok, Err, is_ok}
use Rattle.std.proofs.Common.{IfOk, IfErr}
use Rattle.sqlite_trees.specs.declared.store.Store.{Ghosts}
use Rattle.sqlite.specs.declared.error.Error.{Error}
use Rattle.sqlite.specs.State.{HasCleanDisk}
use Rattle.sqlite.specs.Held.{state}
use Rattle.acq_core.specs.declared.change.Change.{Change}
use Rattle.acq_core.specs.Pasts.{HasPast}
use Rattle.acq_core.specs.Tables as core
use Rattle.acq_book.specs.declared.book_fault.BookFault.{BookFault}
use Rattle.acq_book.specs.Fits.{Fits}
use Rattle.acq_book.specs.Groups.{BeginsBy, IsLive, KeepsBy, MakesWithinBy, ReturnsBy}
use Rattle.acq_book.specs.Promise.{BlamesStore, HasRisen, MakesBy}
use Rattle.acq_book.proofs.Chains.{risen_after}
use Rattle.acq_sql_rows.specs.ReadBack.{tables_of}
use Rattle.acq_sql_rows.proofs.TablesReadBack.{tables_of-holds}
use Rattle.acq_sql_rows.specs.Standing.{IsAt, IsIn}
use Rattle.acq_sql_writes.specs.Written.{CommitsNothing}
use Rattle.acq_sql_changes.specs.Transactions.{Begins, CommitsShown, FailsWhile, Keeps}
use Rattle.acq_sql_changes.specs.Transactions.{Returns, ReturnsOnErr, StaysAt}
use Rattle.acq_sql_changes.proofs.Commits.{left_holds}
use Rattle.acq_sql_checking.proofs.Blaming.{risen_by}
use Rattle.acq_sql.specs.Applied.{AppliesInside, Suits}
use Rattle.acq_sql.specs.Faults.{book_fault_of}
use Rattle.acq_sql.specs.Kept.{Kept}
use Rattle.acq_sql.specs.Laws.{returnable, stores_what_it_reads}
use Rattle.acq_sql.specs.Memos.{Recalls, nothing_recalled}
use Rattle.acq_sql.specs.Opened.{tables, is_honest, is_open, is_within, can_return, may_leave}
use Rattle.acq_sql.specs.Opened.{leaves_books, store_faults}
use Rattle.acq_sql.proofs.BookBlames.{told}
use Rattle.acq_sql.proofs.BookChanges.{changes_at}
use Rattle.acq_sql.proofs.BookMakes.{nothing_wrong, opens}

-- a count that has risen has risen later, too
pub risen_on : {a b c : ℕ} → b ≤ c → HasRisen a b → HasRisen a c
risen_on up risen = grind arith

-- ---- a change

-- of what is said within a group nothing is said outside one
pub makes_outside_only : {S : Type 0} (g : Ghosts S) (old new : Kept S) (succeeded : Bool)
    → old.in_group ≡ false → {changed : core.Tables}
    → MakesWithinBy (tables g) (is_honest g) (is_within g) (can_return g) (may_leave g)
    (leaves_books g) old new succeeded changed
makes_outside_only g old new succeeded outside = record {
  stays = λ began faults is clean w. absurd (true≢false (sym w.begun ∙ outside));
  made = λ began faults is clean w. absurd (true≢false (sym w.begun ∙ outside));
  breaks = λ began faults is clean w. absurd (true≢false (sym w.begun ∙ outside));
  leaves = λ began faults clean w t way. absurd (true≢false (sym w.begun ∙ outside));
  books = λ began faults clean w was trees way. absurd (true≢false (sym w.begun ∙ outside));
}

module _ {S T : Type 0} (g : Ghosts S) (old new : Kept S) (change : Change)
    (result : Result T Error)
    (applies : AppliesInside (state g old.connection) (state g new.connection) result change) where
  abbrev changed : core.Tables
  changed = core.after (tables g old) change

  -- of what is said outside a group nothing is said within one
  pub makes_within_only : old.in_group ≡ true → old.failures ≤ new.failures
      → MakesBy (tables g) (is_honest g) (is_open g) (may_leave g) (leaves_books g)
      (λ (b : Kept S). b.failures) (store_faults g) old new (is_ok result) changed
  makes_within_only inside rise = record {
    was_honest = λ clean. let up = applies.stop.clean in omega (arith, up, clean);
    was_open = λ end. inr end.opened.past;
    stays_open = λ is clean o. absurd (none o);
    shuts = λ clean o. absurd (none o);
    made = λ is o end. absurd (none o);
    unmade = λ is o end. absurd (none o);
    leaves = λ o clean t way. absurd (none o);
    settled = λ is o clean t way. absurd (none o);
    books = λ o clean. absurd (none o);
    rise = rise;
    counts = applies.stop.counts;
  }
    where
      none : is_open g old → ⊥
      none o = true≢false (sym inside ∙ o.outside)

  module _ (fits : IsLive (is_open g) (is_within g) old → Fits (tables g old) change)
      (past : IsLive (is_open g) (is_within g) old → HasPast changed)
      (recalls : is_ok result ≡ true → (t : core.Tables) → HasPast t → Recalls old.memo t
      → Recalls new.memo (core.after t change))
      (same_group : new.in_group ≡ old.in_group) where
    pub makes_within_at : MakesWithinBy (tables g) (is_honest g) (is_within g) (can_return g)
        (may_leave g) (leaves_books g) old new (is_ok result) changed
    makes_within_at =
        changes_at g old new result (Suits change) (λ t. core.after t change) applies
        (λ began faults w. (fits (inr (began, (faults, w))), w.past))
        (λ began faults w. past (inr (began, (faults, w))))
        (λ is. recalls is (tables g old)) same_group

-- ---- its beginning

module _ {S : Type 0} (g : Ghosts S) (old new : Kept S) (result : Result (Unit {0}) Error)
    (begins : Begins (state g old.connection) (state g new.connection) result)
    (stays : StaysAt (state g old.connection) (state g new.connection) result)
    (stop : CommitsNothing (state g old.connection) (state g new.connection))
    (same_memo : new.memo ≡ old.memo)
    (grouped : is_ok result ≡ true → new.in_group ≡ true)
    (ungrouped : is_ok result ≡ false → new.in_group ≡ old.in_group) where
  begun : is_ok result ≡ true → HasCleanDisk (state g new.connection) → is_open g old
      → IsIn (state g new.connection) (tables g old) (tables g old)
      × ((state g new.connection).now ≡ (state g old.connection).now)
  begun is clean o =
      let step : (r : Result (Unit {0}) Error)
      → Begins (state g old.connection) (state g new.connection) r
      → is_ok r ≡ true → IsIn (state g new.connection) (tables g old) (tables g old)
      × ((state g new.connection).now ≡ (state g old.connection).now) =
      elim [
        | Ok x ↦ (λ did is. did clean (tables g old) o.opened.at)
        | Err e ↦ (λ did is. absurd (true≢false (sym is)))
      ] in
      step result begins is

  stayed : is_ok result ≡ false → HasCleanDisk (state g new.connection)
      → IsTrue (state g new.connection).is_open → is_open g old
      → IsAt (state g new.connection) (tables g old)
  stayed is clean opened o =
      let step : (r : Result (Unit {0}) Error)
      → StaysAt (state g old.connection) (state g new.connection) r
      → is_ok r ≡ false → IsAt (state g new.connection) (tables g old) =
      elim [
        | Ok x ↦ (λ did is. absurd (true≢false is))
        | Err e ↦ (λ did is. did clean opened (tables g old) o.opened.at)
      ] in
      step result stays is

  pub begins_at : old.failures ≤ new.failures
      → BeginsBy (tables g) (is_honest g) (is_open g) (is_within g) (may_leave g) (leaves_books g)
      (λ (b : Kept S). b.failures) (store_faults g) old new (is_ok result)
  begins_at rise = record {
    was_honest = λ clean. let up = stop.clean in omega (arith, up, clean);
    begins = λ is clean o.
        let it = begun is clean o in
        let same : tables g new ≡ tables g old = ap tables_of it.1 in
        record {
          clean = clean;
          inside = subst (IsIn (state g new.connection) (tables g old)) (sym same) it.0;
          past = subst HasPast (sym same) o.opened.past;
          began_past = o.opened.past;
          recalls = subst (λ m. Recalls m (tables g new)) (sym same_memo)
              (subst (Recalls old.memo) (sym same) o.recalls);
          begun = grouped is;
          since = stop.counts;
        };
    same = λ is clean o. ap tables_of (begun is clean o).1;
    unmade = λ is o end. tables_of-holds (state g new.connection).now (tables g old)
        (stayed is end.opened.clean end.opened.at.is_open o).holds;
    shuts = λ is clean o. ⊎_elim
        (λ opened. inl (opens g new (tables g old) clean (stayed is clean opened o)
        o.opened.past (subst (λ m. Recalls m (tables g old)) (sym same_memo) o.recalls)
        (ungrouped is ∙ o.outside)))
        (λ more. inr (risen_by more)) (stop.closes clean o.opened.at.is_open);
    leaves = λ clean o t way. (
      way.0,
      ⊎_elim (λ (was : (state g old.connection).may_leave way.0). was) (λ none. absurd none)
          (stop.crash clean way.0 way.1),
      way.2,
    );
    books = λ clean o was trees way. was trees
        (⊎_elim (λ (earlier : (state g old.connection).may_leave trees). earlier)
        (λ none. absurd none) (stop.crash clean trees way));
    rise = rise;
    counts = stop.counts;
  }

-- one that doesn't begin blames the store only since it failed
pub blames_begin : {S : Type 0} (g : Ghosts S) (old new : Kept S)
    (answer : Result (Unit {0}) Error) (result : Result (Unit {0}) BookFault)
    → FailsWhile false (state g old.connection) (state g new.connection) answer
    → IfOk answer (λ x. result ≡ Ok x) → IfErr answer (λ e. result ≡ Err (book_fault_of e))
    → is_honest g new → is_open g old
    → BlamesStore result (store_faults g old) (store_faults g new)
blames_begin g old new answer result fails same fault clean o =
    told answer result (state g old.connection) (state g new.connection) same fault
    (fails clean o.opened.at.is_open o.opened.at.settled)

-- ---- it is kept

module _ {S : Type 0} (g : Ghosts S) (old new : Kept S) (result : Result (Unit {0}) Error)
    (keeps : Keeps (state g old.connection) (state g new.connection) result)
    (undoes : ReturnsOnErr (state g old.connection) (state g new.connection) result)
    (stop : CommitsShown (state g old.connection) (state g new.connection))
    (same_memo : is_ok result ≡ true → new.memo ≡ old.memo)
    (forgets : is_ok result ≡ false → new.memo ≡ nothing_recalled)
    (ended : new.in_group ≡ false) where
  kept_at : (began : core.Tables) (faults : ℕ) → is_ok result ≡ true
      → HasCleanDisk (state g new.connection) → is_within g old began faults
      → IsAt (state g new.connection) (tables g old)
  kept_at began faults is clean w =
      let step : (r : Result (Unit {0}) Error)
      → Keeps (state g old.connection) (state g new.connection) r
      → is_ok r ≡ true → IsAt (state g new.connection) (tables g old) =
      elim [
        | Ok x ↦ (λ did is. did clean began (tables g old) w.inside)
        | Err e ↦ (λ did is. absurd (true≢false (sym is)))
      ] in
      step result keeps is

  undone_at : (began : core.Tables) (faults : ℕ) → is_ok result ≡ false
      → HasCleanDisk (state g new.connection) → IsTrue (state g new.connection).is_open
      → is_within g old began faults → IsAt (state g new.connection) began
  undone_at began faults is clean opened w =
      let step : (r : Result (Unit {0}) Error)
      → ReturnsOnErr (state g old.connection) (state g new.connection) r
      → is_ok r ≡ false → IsAt (state g new.connection) began =
      elim [
        | Ok x ↦ (λ did is. absurd (true≢false is))
        | Err e ↦ (λ did is. did clean opened began (returnable w).based)
      ] in
      step result undoes is

  pub keeps_at : old.failures ≤ new.failures
      → KeepsBy (tables g) (is_honest g) (is_open g) (is_within g) (may_leave g) (leaves_books g)
      (λ (b : Kept S). b.failures) (store_faults g) old new (is_ok result)
  keeps_at rise = record {
    was_honest = λ clean. let up = stop.clean in omega (arith, up, clean);
    kept = λ began faults is clean w. opens g new (tables g old) clean
        (kept_at began faults is clean w) w.past
        (subst (λ m. Recalls m (tables g old)) (sym (same_memo is)) w.recalls) ended;
    same = λ began faults is clean w. tables_of-holds (state g new.connection).now (tables g old)
        (kept_at began faults is clean w).holds;
    undone = λ began faults is w end. tables_of-holds (state g new.connection).now began
        (undone_at began faults is end.opened.clean end.opened.at.is_open w).holds;
    shuts = λ began faults is clean w. ⊎_elim
        (λ opened. inl (opens g new began clean (undone_at began faults is clean opened w)
        w.began_past (nothing_wrong (forgets is) began) ended))
        (λ more. inr (risen_after w.since stop.counts (risen_by more)))
        (stop.closes clean w.inside.is_open);
    leaves = λ began faults clean w t way. ⊎_elim
        (λ (was : (state g old.connection).may_leave way.0). inl (way.0, was, way.2))
        (λ whole. inr (way.2 ∙ tables_of-holds _ (tables g old)
        (left_holds (state g old.connection).now way.0 (tables g old) w.inside.holds whole).1))
        (stop.crash clean way.0 way.1);
    books = λ began faults clean w was trees way. ⊎_elim
        (λ (earlier : (state g old.connection).may_leave trees). was trees earlier)
        (λ whole. stores_what_it_reads (tables g old) trees
        (left_holds (state g old.connection).now trees (tables g old) w.inside.holds whole))
        (stop.crash clean trees way);
    rise = rise;
    counts = stop.counts;
  }

-- one that isn't kept blames the store only since it failed
pub blames_keep : {S : Type 0} (g : Ghosts S) (old new : Kept S)
    (answer : Result (Unit {0}) Error) (result : Result (Unit {0}) BookFault)
    → FailsWhile true (state g old.connection) (state g new.connection) answer
    → IfOk answer (λ x. result ≡ Ok x) → IfErr answer (λ e. result ≡ Err (book_fault_of e))
    → (began : core.Tables) (faults : ℕ) → is_honest g new → is_within g old began faults
    → BlamesStore result (store_faults g old) (store_faults g new)
blames_keep g old new answer result fails same fault began faults clean w =
    told answer result (state g old.connection) (state g new.connection) same fault
    (fails clean w.inside.is_open w.inside.inside)

-- ---- it is given up

module _ {S : Type 0} (g : Ghosts S) (old new : Kept S)
    (returns : Returns (state g old.connection) (state g new.connection))
    (stop : CommitsNothing (state g old.connection) (state g new.connection))
    (forgets : new.memo ≡ nothing_recalled) (ended : new.in_group ≡ false) where
  pub returns_at : new.failures ≡ old.failures
      → ReturnsBy (tables g) (is_honest g) (is_open g) (can_return g) (may_leave g)
      (leaves_books g) (λ (b : Kept S). b.failures) (store_faults g) old new
  returns_at uncounted = record {
    was_honest = λ clean. let up = stop.clean in omega (arith, up, clean);
    undone = λ began faults can end. tables_of-holds (state g new.connection).now began
        (returns end.opened.clean end.opened.at.is_open began can.based).holds;
    shuts = λ began faults clean can. ⊎_elim
        (λ was. ⊎_elim
        (λ opened. inl (opens g new began clean (returns clean opened began can.based) can.past
        (nothing_wrong forgets began) ended))
        (λ more. inr (risen_after can.since stop.counts (risen_by more)))
        (stop.closes clean was))
        (λ risen. inr (risen_on stop.counts risen)) can.shuts;
    leaves = λ began faults clean can t way. (
      way.0,
      ⊎_elim (λ (was : (state g old.connection).may_leave way.0). was) (λ none. absurd none)
          (stop.crash clean way.0 way.1),
      way.2,
    );
    books = λ began faults clean can was trees way. was trees
        (⊎_elim (λ (earlier : (state g old.connection).may_leave trees). earlier)
        (λ none. absurd none) (stop.crash clean trees way));
    uncounted = uncounted;
    counts = stop.counts;
  }
