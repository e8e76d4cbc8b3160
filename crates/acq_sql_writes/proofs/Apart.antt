-- A statement that failed in a transaction tells a refusal from a fault of the store.
use Rattle.std.proofs.Common.{◌≡◌, ◌⊎◌, inl, inr, List, ℕ, true≢false, Ok, Err, Result, IfErr}
use Rattle.std.proofs.Common.{IsTrue, false, sym, ◌∙◌}
use Rattle.std.proofs.lemmas.Bool.{cases_Bool}
use Rattle.sqlite_value.specs.Order.{Row}
use Rattle.sqlite_trees.specs.declared.error.StoreError.{StoreError}
use Rattle.sqlite_trees.specs.declared.error.StoreError.TheVariants.{OutOfMemory, Io, Corrupt, Full}
use Rattle.sqlite_trees.specs.declared.error.StoreError.TheVariants.{Broken, Unstorable}
use Rattle.sqlite.specs.declared.error.Error.{Error}
use Rattle.sqlite.specs.declared.error.Error.TheVariants.{SqliteFailure}
use Rattle.sqlite.specs.declared.error.ErrorCode.TheVariants.{TooBig}
use Rattle.sqlite.specs.Clock.{timed}
use Rattle.sqlite.specs.State.{State, HasCleanDisk, HasCause, Fails, IsUnchanged}
use Rattle.sqlite.specs.State.{RunsCommand, IsNotRun, ExecutesIn, shows_rows, store_error}
use Rattle.sqlite.specs.State as sqlite
use Rattle.row_lemmas.specs.Excused.{IsExcused}
use Rattle.acq_sql_writes.specs.Apart.{FailsApart, IsToldApart}
use Rattle.acq_sql_writes.specs.Written.{Executes}

module _ (old new : State) (e : Error) (opened : IsTrue old.is_open)
    (inside : IsTrue old.in_transaction) where
  -- the store failed
  by_store : {too_big : Type 0} → Fails old new too_big e
      → IsExcused old new e ⊎ (e ≡ SqliteFailure TooBig)
  by_store {too_big} h = go h.0 h.1 h.2
    where
      go : (cause : StoreError) → e ≡ store_error cause → HasCause old new too_big cause
          → IsExcused old new e ⊎ (e ≡ SqliteFailure TooBig)
      go OutOfMemory is why = inl (inl is)
      go Io is why = inl (inr why)
      go Corrupt is why = inl (inr why)
      go Full is why = inl (inr why)
      go Broken is why = absurd (true≢false (sym opened ∙ why))
      go Unstorable is why = inr is

  -- it changed nothing
  still : IsUnchanged old new → IsToldApart old new e
  still same = inl (same.0.mode ∙ inside)

  pub told_apart : (sql : List ℕ) (params : Row) → sqlite.Executes sql params old new (Err e)
      → IsToldApart old new e
  unfolding ExecutesIn IsNotRun
  told_apart sql params (inl (inl idle)) = still idle.1
  told_apart sql params (inl (inr fails)) = inr (by_store fails)
  told_apart sql params (inr (c, it, ran)) =
      elim (cases_Bool (shows_rows false c)) [
        | inl shows ↦ still (rw shows at ran).1
        | inr runs ↦ by (rw runs at ran)
      ]
    where
      by : RunsCommand old new sql c (timed params c.formats it.now) (Err e)
          → IsToldApart old new e
      by (inl refused) = still refused.1
      by (inr fails) = inr (by_store fails)

pub fails_apart : (old new : State) (res : Result (Unit {0}) Error) (sql : List ℕ) (params : Row)
    → (HasCleanDisk new → Executes sql params old new res) → FailsApart old new res
fails_apart old new res sql params ran clean opened inside = step res (ran clean)
  where
    step : (r : Result (Unit {0}) Error) → Executes sql params old new r
        → IfErr r (IsToldApart old new)
    step (Ok done) h = tt
    step (Err e) h = told_apart old new e opened inside sql params h
