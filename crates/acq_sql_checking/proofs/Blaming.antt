-- Why a transaction failed, and when the store is blamed for it.
use Rattle.std.proofs.Common.{◌≡◌, ℕ, inl, inr, ◌≤◌, true, true≢false, sym, ap, subst, ◌∙◌, arith}
use Rattle.std.proofs.Common.{Ok, Err, Result, IfErr}
use Rattle.std.specs.Result.{IsErrAnd}
use Rattle.std.proofs.lemmas.Result.{IfErr-weaker}
use Rattle.sqlite_disk.specs.Disk.{MoreFaults}
use Rattle.sqlite_trees.specs.Tree.{Trees}
use Rattle.sqlite_trees.specs.declared.memory.MemStore.{MemStore}
use Rattle.sqlite_trees.specs.declared.store.Store as store
use Rattle.sqlite.specs.declared.error.Error.{Error}
use Rattle.acq_book.specs.Promise.{HasRisen}
use Rattle.sqlite.specs.declared.error.Error.TheVariants.{SqliteFailure}
use Rattle.sqlite.specs.declared.error.ErrorCode.TheVariants.{OutOfMemory}
use Rattle.sqlite.specs.Effect.{Database}
use Rattle.sqlite.specs.Held.{Held, state}
use Rattle.sqlite.specs.State.{State, HasCleanDisk, Survives}
use Rattle.sqlite.specs.Steps.{FailsToCommit, over_memory}
use Rattle.row_lemmas.specs.Excused.{IsExcused}
use Rattle.row_lemmas.proofs.StatementFailures.{excused_only, excused_wider}
use Rattle.acq_sql_writes.specs.Widened.{IsNeverRefused}
use Rattle.acq_sql_writes.specs.Written.{CommitsNothing}
use Rattle.acq_sql_writes.proofs.Within.{begins, same_rows, was_clean}
use Rattle.acq_sql_checking.specs.Blames.{OpeningBlamesStore, FailsExcusably}
use Rattle.acq_sql_checking.specs.Faults.{fault_of}
use Rattle.acq_sql_checking.specs.declared.opening_fault.OpeningFault.TheVariants.{Memory, Store}
use Rattle.acq_sql_checking.proofs.GoingOn.{GoesOn}

-- the disk's count rose
pub risen_by : {old new : ℕ} → MoreFaults old new → HasRisen old new
risen_by more = grind (arith, more)

module _ {S : Type 0} (g : store.Ghosts S) (old : Held S) {begin : Held S} {last : State}
    (begun : begin ≡ record old { in_transaction = true }) where
  -- a write that is never refused of this database failed, and the transaction was dropped
  pub drop_fails : {T : Type 0} {e : Error} {end : State} (needs : Database → Type 0)
      → CommitsNothing (state g begin) last
      → IsNeverRefused {T = Unit {0}} (state g begin) last (Err e) needs
      → needs (state g old).now → Survives last end (λ _. ⊥)
      → (result : Result T Error) → IsErrAnd result (λ r. r ≡ e)
      → FailsExcusably (state g old) end result
  drop_fails needs stop never meets dropped (Ok x) is = absurd is
  drop_fails {e = e} {end = end} needs stop never meets dropped (Err r) is = λ clean opened free.
      let late : HasCleanDisk last = was_clean _ _ dropped.clean clean in
      let early : HasCleanDisk (state g begin) = was_clean _ _ stop.clean late in
      let within = begins g old begin begun in
      subst (IsExcused (state g old) end) (sym is)
      (excused_wider (state g old) (state g begin) last end e within.stop.counts dropped.counts
      (never late (within.inside early) (within.is_open early opened) (within.stop.limit ∙ free)
      (subst needs (sym (same_rows g old begin begun)) meets)))

  -- all was written, and the commit failed
  pub commit_fails : {T : Type 0} {end : State} {Commits : Trees → Type 0}
      → GoesOn (state g begin) last → (result : Result T Error)
      → (HasCleanDisk end → IfErr result (FailsToCommit last end)) → Survives last end Commits
      → FailsExcusably (state g old) end result
  commit_fails {end = end} on result err survives clean opened free =
      let was : HasCleanDisk last = was_clean _ _ survives.clean clean in
      let early : HasCleanDisk (state g begin) = was_clean _ _ on.stop.clean was in
      let within = begins g old begin begun in
      let shown = on.inside was (within.inside early) in
      let up : (state g old).faults ≤ last.faults =
      omega (arith, within.stop.counts, on.stop.counts) in
      IfErr-weaker result (FailsToCommit last end) (IsExcused (state g old) end)
      (λ e failed. elim failed [
        | inl fails ↦ excused_wider (state g old) last end end e up (omega arith)
            (excused_only last end e shown.is_open fails)
        | inr ended ↦ absurd (true≢false (sym shown.mode ∙ ended.1))
      ]) (err clean)

-- a store in memory never fails
pub memory_fails : (old new : Held MemStore) (e : Error)
    → IsExcused (state over_memory old) (state over_memory new) e → e ≡ SqliteFailure OutOfMemory
memory_fails old new e (inl memory) = memory
memory_fails old new e (inr more) = absurd (grind (arith, more))

-- ---- what an open tells of an error

memory_told : (e : Error) → e ≡ SqliteFailure OutOfMemory → ¬ (fault_of e ≡ Store)
memory_told e memory is = let told : Memory ≡ Store = sym (ap fault_of memory) ∙ is in cc

-- where the error is want of memory
pub memory_blames : (old new : State) (e : Error) → e ≡ SqliteFailure OutOfMemory
    → OpeningBlamesStore old new (fault_of e)
memory_blames old new e memory clean opened free is = absurd (memory_told e memory is)

-- where it is excused
pub excused_blames : (old new : State) (e : Error)
    → FailsExcusably {T = Unit {0}} old new (Err e) → OpeningBlamesStore old new (fault_of e)
excused_blames old new e fails clean opened free is =
    elim (fails clean opened free) [
      | inl memory ↦ absurd (memory_told e memory is)
      | inr more ↦ risen_by more
    ]
