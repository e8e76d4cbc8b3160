-- What a transaction that begins, or ends, leaves.
use Rattle.std.proofs.Common.{◌≡◌, ◌⊎◌, inl, inr, false, true, List, ℕ, [], Ok, Err, Result, OnOk}
use Rattle.std.proofs.Common.{OnErr, IfErr, IsTrue, sym, subst, ◌∙◌}
use Rattle.std.proofs.lemmas.Bool.{cases_Bool}
use Rattle.sqlite.specs.declared.error.Error.{Error}
use Rattle.sqlite.specs.State.{State, HasCleanDisk, CommitsBy, IsRolledBack, IsUnchanged, Shows}
use Rattle.sqlite.specs.State.{Survives}
use Rattle.sqlite.proofs.StateLemmas.{survives_weaker}
use Rattle.row_lemmas.specs.Excused.{IsExcused}
use Rattle.acq_core.specs.Tables.{Tables}
use Rattle.acq_sql_rows.specs.Relation.{Holds}
use Rattle.acq_sql_rows.specs.Standing.{IsAt, IsIn, IsBased}
use Rattle.acq_sql_rows.specs.Texts as text
use Rattle.acq_sql_writes.specs.Written.{Executes, CommitsNothing}
use Rattle.acq_sql_writes.proofs.Executed.{failed}
use Rattle.acq_sql_changes.specs.Transactions.{Begins, CommitsShown, Ends, FailsWhile, Keeps}
use Rattle.acq_sql_changes.specs.Transactions.{Returns, ReturnsOnErr, StaysAt, StaysOutside}
use Rattle.acq_sql_changes.proofs.Commands.{begun, not_begun, begin_commits, committed}
use Rattle.acq_sql_changes.proofs.Commands.{not_committed, commit_commits, undone, not_undone}
use Rattle.acq_sql_changes.proofs.Commands.{rollback_commits}

-- a commit leaves the connection between two transactions
pub at_commit : (last end : State) (t : Tables) → Holds last.now t
    → Shows last end last.now last.now false → IsAt end t
at_commit last end t h shown =
    record {
      is_open = shown.is_open;
      settled = shown.mode;
      same = shown.now_is ∙ sym shown.committed_is;
      holds = subst (λ d. Holds d t) (sym shown.now_is) h;
    }

module _ (old new : State) where
  -- so does a rollback
  at_rolled_back : (t : Tables) → IsTrue new.is_open → IsRolledBack old new
      → (IsTrue old.is_open → Holds old.committed t) → IsAt new t
  at_rolled_back t opened back holds =
      let gone = back.undone opened in
      record {
        is_open = opened;
        settled = back.autocommit;
        same = gone.0 ∙ sym gone.1;
        holds = subst (λ d. Holds d t) (sym gone.0) (holds (back.was_open opened));
      }

  -- what changed nothing or rolled back, and in a transaction rolled back
  abbrev Rolls : Type 0
  Rolls =
      (IsUnchanged old new ⊎ IsRolledBack old new)
      × (old.in_transaction ≡ true → IsRolledBack old new)

  at_return : (began : Tables) → IsTrue new.is_open → Rolls → IsBased old began → IsAt new began
  at_return began opened rolls base =
      elim (cases_Bool old.in_transaction) [
        | inl inside ↦ at_rolled_back began opened (rolls.1 inside) base.committed
        | inr out ↦ elim rolls.0 [
          | inr back ↦ at_rolled_back began opened back base.committed
          | inl same ↦
              let shows = same.0 in
              let was = base.ended out shows.was_open in
              record {
                is_open = opened;
                settled = shows.mode ∙ out;
                same = shows.now_is ∙ was ∙ sym shows.committed_is;
                holds = subst (λ d. Holds d began) (sym (shows.now_is ∙ was))
                    (base.committed shows.was_open);
              }
        ]
      ]

  ended : Rolls → new.in_transaction ≡ false
  ended rolls =
      elim (cases_Bool old.in_transaction) [
        | inl inside ↦ (rolls.1 inside).autocommit
        | inr out ↦ elim rolls.0 [
          | inr back ↦ back.autocommit
          | inl same ↦ same.0.mode ∙ out
        ]
      ]

module _ (old new : State) (res : Result (Unit {0}) Error) where
  abbrev Ran : List ℕ → Type 0
  Ran sql = HasCleanDisk new → Executes sql [] old new res

  -- ---- it begins

  pub begins : Ran text.begin_text → Begins old new res
  begins ran clean t at = step res (ran clean)
    where
      step : (r : Result (Unit {0}) Error) → Executes text.begin_text [] old new r
          → OnOk r (IsIn new t t × (new.now ≡ old.now))
      step (Err e) h = tt
      step (Ok done) (count, h) =
          let shown = begun old new count h in (
            record {
              is_open = shown.is_open;
              inside = shown.mode;
              committed = subst (λ d. Holds d t) (at.same ∙ sym shown.committed_is) at.holds;
              holds = subst (λ d. Holds d t) (sym shown.now_is) at.holds;
            },
            shown.now_is,
          )

  pub stays : Ran text.begin_text → StaysAt old new res
  stays ran clean opened t at = step res (ran clean)
    where
      step : (r : Result (Unit {0}) Error) → Executes text.begin_text [] old new r
          → OnErr r (IsAt new t)
      step (Ok done) h = tt
      step (Err e) h =
          at_rolled_back old new t opened (not_begun old new at.settled e h).0
          (λ was. subst (λ d. Holds d t) at.same at.holds)

  pub outside : Ran text.begin_text → StaysOutside old new res
  outside ran clean out = step res (ran clean)
    where
      step : (r : Result (Unit {0}) Error) → Executes text.begin_text [] old new r
          → OnErr r (new.in_transaction ≡ false)
      step (Ok done) h = tt
      step (Err e) h = (not_begun old new out e h).0.autocommit

  pub begin_fails : Ran text.begin_text → FailsWhile false old new res
  begin_fails ran clean opened out = step res (ran clean)
    where
      step : (r : Result (Unit {0}) Error) → Executes text.begin_text [] old new r
          → IfErr r (IsExcused old new)
      step (Ok done) h = tt
      step (Err e) h = (not_begun old new out e h).1 opened

  pub begin_stop : Survives old new (CommitsBy text.begin_text [] old) → CommitsNothing old new
  begin_stop = survives_weaker old new _ _ (λ _ db may. begin_commits old new db may)

  -- ---- it is committed

  pub keeps : Ran text.commit_text → Keeps old new res
  keeps ran clean began t i = step res (ran clean)
    where
      step : (r : Result (Unit {0}) Error) → Executes text.commit_text [] old new r
          → OnOk r (IsAt new t)
      step (Err e) h = tt
      step (Ok done) (count, h) = at_commit old new t i.holds (committed old new count h)

  commit_rolls : (e : Error) → Executes text.commit_text [] old new (Err e) → Rolls old new
  commit_rolls e h =
      (failed text.commit_text [] old new e h, λ inside. (not_committed old new inside e h).0)

  pub undoes : Ran text.commit_text → ReturnsOnErr old new res
  undoes ran clean opened began base = step res (ran clean)
    where
      step : (r : Result (Unit {0}) Error) → Executes text.commit_text [] old new r
          → OnErr r (IsAt new began)
      step (Ok done) h = tt
      step (Err e) h = at_return old new began opened (commit_rolls e h) base

  pub commit_ends : Ran text.commit_text → Ends new
  commit_ends ran clean = step res (ran clean)
    where
      step : (r : Result (Unit {0}) Error) → Executes text.commit_text [] old new r
          → new.in_transaction ≡ false
      step (Ok done) (count, h) = (committed old new count h).mode
      step (Err e) h = ended old new (commit_rolls e h)

  pub commit_fails : Ran text.commit_text → FailsWhile true old new res
  commit_fails ran clean opened inside = step res (ran clean)
    where
      step : (r : Result (Unit {0}) Error) → Executes text.commit_text [] old new r
          → IfErr r (IsExcused old new)
      step (Ok done) h = tt
      step (Err e) h = (not_committed old new inside e h).1 opened

  pub commit_stop : Survives old new (CommitsBy text.commit_text [] old) → CommitsShown old new
  commit_stop = survives_weaker old new _ _ (λ _ db may. commit_commits old new db may)

  -- ---- it is rolled back

  rolls : (r : Result (Unit {0}) Error) → Executes text.rollback_text [] old new r → Rolls old new
  rolls (Ok done) (count, h) = let back = undone old new count h in (inr back, λ inside. back)
  rolls (Err e) h =
      (failed text.rollback_text [] old new e h, λ inside. not_undone old new inside e h)

  pub returns : Ran text.rollback_text → Returns old new
  returns ran clean opened began base =
      at_return old new began opened (rolls res (ran clean)) base

  pub rollback_ends : Ran text.rollback_text → Ends new
  rollback_ends ran clean = ended old new (rolls res (ran clean))

  pub rollback_stop : Survives old new (CommitsBy text.rollback_text [] old)
      → CommitsNothing old new
  rollback_stop = survives_weaker old new _ _ (λ _ db may. rollback_commits old new db may)
