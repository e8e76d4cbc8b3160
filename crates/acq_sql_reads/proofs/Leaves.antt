-- What a SELECT leaves, also where it fails.
use Rattle.std.proofs.Common.{◌≡◌, ◌⊎◌, inl, inr, ℕ, Bool, true, false, true≢false, List, Ok, Err}
use Rattle.std.proofs.Common.{Result, IfOk, IfErr}
use Rattle.std.proofs.Common.{IsTrue, IsErr, is_ok, None, [], refl, sym, subst, ◌∙◌, arith, ⊎_elim}
use Rattle.sqlite_value.specs.Order.{Row}
use Rattle.sqlite_trees.specs.Tree.{Trees}
use Rattle.sqlite_resolve.specs.declared.compiled.Compiled.{Compiled}
use Rattle.sqlite.specs.declared.error.Error.{Error}
use Rattle.sqlite.specs.Clock.{timed}
use Rattle.sqlite.specs.Listing.{understood}
use Rattle.sqlite.specs.State.{State, HasCleanDisk, Shown, ShowsRows, FailsToQuery, FailsToShow}
use Rattle.sqlite.specs.State.{IsNotRun}
use Rattle.sqlite.specs.State.{IsUnchanged, IsRolledBack, Survives, CommitsShowing}
use Rattle.sqlite.proofs.StateLemmas.{survives_weaker, survives_then}
use Rattle.sqlite.proofs.Callers.{IsPlain, never_commits, unchanged_then}
use Rattle.row_lemmas.specs.Selects.{IsSelect}
use Rattle.row_lemmas.proofs.BareQueries.{understood_bare, IsBareIfAny}
use Rattle.acq_core.specs.Tables.{Tables}
use Rattle.acq_sql_rows.specs.Relation.{HoldsOf, Holds}
use Rattle.acq_sql_rows.specs.Standing.{IsAtOf, IsOpenOver}
use Rattle.acq_sql_reads.specs.Looked.{LooksOnly}

pub at_unchanged : {number : ℕ} (old new : State) (t : Tables) → IsUnchanged old new
    → IsAtOf number old t → IsAtOf number new t
at_unchanged {number} old new t h at =
    record {
      is_open = h.0.is_open;
      settled = h.0.mode ∙ at.settled;
      same = h.0.now_is ∙ at.same ∙ sym h.0.committed_is;
      holds = subst (λ d. HoldsOf number d t) (sym h.0.now_is) at.holds;
    }

-- so is a connection that is open over it, in a transaction or not
pub open_unchanged : {number : ℕ} (old new : State) (t : Tables) → IsUnchanged old new
    → IsOpenOver number old t → IsOpenOver number new t
open_unchanged {number} old new t h at =
    record {
      is_open = h.0.is_open;
      holds = subst (λ d. HoldsOf number d t) (sym h.0.now_is) at.holds;
    }

pub at_undone : {number : ℕ} (old new : State) (t : Tables) → IsTrue new.is_open
    → IsRolledBack old new → IsAtOf number old t → IsAtOf number new t
at_undone {number} old new t opened h at =
    let back = h.undone opened in
    record {
      is_open = opened;
      settled = h.autocommit;
      same = back.0 ∙ sym back.1;
      holds = subst (λ d. HoldsOf number d t) (sym (back.0 ∙ sym at.same)) at.holds;
    }

-- the tables stay as they were where the store is still open
pub kept : {number : ℕ} (old new : State) (succeeded : Bool) → LooksOnly old new succeeded
    → HasCleanDisk new → IsTrue new.is_open → (t : Tables)
    → IsAtOf number old t → IsAtOf number new t
kept old new succeeded looks clean opened t at =
    ⊎_elim (λ same. at_unchanged old new t same at) (λ undone. at_undone old new t opened undone at)
    (looks.undone clean opened)

module _ (sql : List ℕ) (params : Row) (old new : State) (begins : IsSelect sql) where
  pub bare : (c : Compiled) → understood old.now.schema sql ≡ Ok c →
      (c.returning ≡ None) × (c.formats ≡ [])
  bare c is = subst IsBareIfAny is (understood_bare old.now.schema sql begins)

  shown_same : (rows : List Row) → Shown sql params old new rows → IsUnchanged old new
  unfolding Shown
  shown_same rows h =
      (subst (ShowsRows old new sql h.0 (timed params h.0.formats h.1.now) rows)
      (bare h.0 h.1.is).0 h.2).3

  pub fails_same : (e : Error) → FailsToQuery sql params old new e →
      IsUnchanged old new ⊎ IsRolledBack old new
  unfolding FailsToQuery IsNotRun
  fails_same e (inl (inl h)) = inl h.1
  fails_same e (inl (inr h)) = inr h.3
  fails_same e (inr (c, it, h)) =
      inl (subst (FailsToShow old new sql c (timed params c.formats it.now) e) (bare c it.is).0 h).3

  pub commits_nothing : (db : Trees) → CommitsShowing sql params old db → ⊥
  unfolding CommitsShowing
  commits_nothing db h = never_commits sql params old db
      (subst IsPlain (sym h.1.is) (bare h.0 h.1.is)) h

  unchanged : {X : Type 0} (rows_of : X → List Row) (result : Result X Error)
      → IfOk result (λ x. Shown sql params old new (rows_of x)) → is_ok result ≡ true →
      IsUnchanged old new
  unchanged rows_of (Ok x) ok is = shown_same (rows_of x) ok
  unchanged rows_of (Err e) ok is = absurd (true≢false (sym is))

  undone : {X : Type 0} (rows_of : X → List Row) (result : Result X Error)
      → IfOk result (λ x. Shown sql params old new (rows_of x)) →
      IfErr result (FailsToQuery sql params old new)
      → IsUnchanged old new ⊎ IsRolledBack old new
  undone rows_of (Ok x) ok err = inl (shown_same (rows_of x) ok)
  undone rows_of (Err e) ok err = fails_same e err

  -- of what `query_all` says
  pub looks : {X : Type 0} (rows_of : X → List Row) (result : Result X Error)
      → (HasCleanDisk new → IfOk result (λ x. Shown sql params old new (rows_of x)))
      → (HasCleanDisk new → IfErr result (FailsToQuery sql params old new))
      → (old.in_transaction ≡ false → new.in_transaction ≡ false)
      → Survives old new (CommitsShowing sql params old) → LooksOnly old new (is_ok result)
  looks rows_of result ok err settled survives =
      record {
        same = λ clean is. unchanged rows_of result (ok clean) is;
        undone = λ clean opened. undone rows_of result (ok clean) (err clean);
        settled = settled;
        stop = survives_weaker old new _ _ (λ _ db. commits_nothing db) survives;
      }

-- ---- no look-up at all

stops_nowhere : (s : State) → Survives s s (λ _. ⊥)
stops_nowhere s =
    record {
      clean = omega arith;
      shield = λ h. h;
      counts = omega arith;
      limit = refl;
      closes = λ clean h. inl h;
      crash = λ clean db h. inl h;
    }

pub looks_nowhere : (s : State) → LooksOnly s s false
looks_nowhere s =
    record {
      same = λ clean is. absurd cc;
      undone = λ clean opened. inl (
        record {
          was_open = opened;
          is_open = opened;
          now_is = refl;
          committed_is = refl;
          mode =
              refl;
        },
        record { changes = refl; last_rowid = refl },
        refl,
      );
      settled = λ out. out;
      stop = stops_nowhere s;
    }

-- ---- one look-up, by what is made of it

-- it failed
pub looks_in_vain : {T : Type 0} {old new : State} → LooksOnly old new false
    → (result : Result T Error) → IsErr result → LooksOnly old new (is_ok result)
looks_in_vain looks (Ok x) is = absurd (true≢false (sym is))
looks_in_vain looks (Err e) is = looks

-- it succeeded, whatever became of what was found
pub looks_once : {old new : State} → LooksOnly old new true → (succeeded : Bool)
    → LooksOnly old new succeeded
looks_once looks succeeded =
    record {
      same = λ clean is. looks.same clean refl;
      undone = looks.undone;
      settled = looks.settled;
      stop = looks.stop;
    }

-- ---- one look-up after another that succeeded

pub rolled_back : (old mid new : State) → IsUnchanged old mid → IsRolledBack mid new →
    IsRolledBack old new
rolled_back old mid new same back =
    record {
      was_open = λ opened. same.0.was_open;
      undone = λ opened.
          let u = back.undone opened in
          (u.0 ∙ same.0.committed_is, u.1 ∙ same.0.committed_is);
      autocommit = back.autocommit;
      unmarked = back.unmarked;
      counts = record {
        changes = back.counts.changes ∙ same.1.changes;
        last_rowid = back.counts.last_rowid ∙ same.1.last_rowid;
      };
    }

module _ (old mid new : State) (first : LooksOnly old mid true) where
  pub holds_still : HasCleanDisk mid → (t : Tables) → Holds old.now t → Holds mid.now t
  holds_still clean t holds = subst (λ d. Holds d t) (sym (first.same clean refl).0.now_is) holds

  pub clean_before : Survives mid new (λ _. ⊥) → HasCleanDisk new → HasCleanDisk mid
  clean_before stops clean = omega (arith, stops.clean, clean)

  pub looks_then : (succeeded : Bool) → LooksOnly mid new succeeded → LooksOnly old new succeeded
  looks_then succeeded second =
      let before = clean_before second.stop in
      record {
        same = λ clean is. unchanged_then old mid new (first.same (before clean) refl)
            (second.same clean is);
        undone = λ clean opened.
            let one = first.same (before clean) refl in
            ⊎_elim (λ same. inl (unchanged_then old mid new one same))
            (λ back. inr (rolled_back old mid new one back))
            (second.undone clean opened);
        settled = λ out. second.settled (first.settled out);
        stop = survives_then old mid new _ _ (λ _. ⊥) (λ _ db none. none)
            (λ _ db none. none) first.stop second.stop;
      }
