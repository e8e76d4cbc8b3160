-- Why a change inside a transaction fails, also after a look-up there.
use Rattle.std.proofs.Common.{◌≡◌, inl, true, true≢false, None, refl, sym, subst, ◌∙◌}
use Rattle.std.proofs.Common.{arith, Result, Ok, Err, IfErr, IsErr}
use Rattle.std.specs.Result.{IsErrAnd}
use Rattle.std.proofs.lemmas.Result.{IfErr-weaker}
use Rattle.sqlite.specs.declared.error.Error.{Error}
use Rattle.sqlite.specs.declared.error.Error.TheVariants.{SqliteFailure}
use Rattle.sqlite.specs.declared.error.ErrorCode.TheVariants.{OutOfMemory}
use Rattle.sqlite.specs.State.{State, HasCleanDisk}
use Rattle.row_lemmas.specs.Excused.{IsExcused}
use Rattle.row_lemmas.proofs.StatementFailures.{excused_wider}
use Rattle.acq_core.specs.declared.change.Change.{Change}
use Rattle.acq_core.specs.Pasts.{HasPast}
use Rattle.acq_core.specs.Tables.{Tables}
use Rattle.acq_sql_rows.specs.Relation.{Holds}
use Rattle.acq_sql_rows.specs.Rows.{version}
use Rattle.acq_sql_rows.specs.Standing.{IsOpenOver}
use Rattle.acq_sql_changes.specs.Transactions.{ChangesInside}
use Rattle.acq_sql_changes.specs.Refused.{FailsInside, TellsApart}
use Rattle.acq_sql_writes.specs.Refused.{HasNumbersLeft}
use Rattle.acq_sql_reads.specs.Looked.{LooksOnly}
use Rattle.acq_sql.proofs.apply.ChangesLooked.{in_unchanged}

-- an error that is passed on has the same excuse
pub excused_on : {T : Type 0} (old new : State) {e : Error} (result : Result T Error)
    → IsErrAnd result (λ r. r ≡ e) → IsExcused old new e → IfErr result (IsExcused old new)
excused_on old new (Ok x) is why = tt
excused_on old new (Err r) is why = subst (IsExcused old new) (sym is) why

module _ {T : Type 0} {change : Change} where
  -- of fewer tables
  pub fails_for : (old new : State) (result : Result T Error) (late : Tables → Type 0)
      → ((t : Tables) → HasPast t → late t)
      → FailsInside old new result change late → FailsInside old new result change HasPast
  fails_for old new result late fits fails left clean t inside takes free =
      fails left clean t inside (takes.0, fits t takes.1) free

  -- after a look-up
  pub fails_from : {old mid new : State} {room : Tables → Type 0} {changed : Tables → Tables}
      (result : Result T Error) (late : Tables → Type 0) → LooksOnly old mid true
      → (HasCleanDisk mid → (t : Tables) → Holds old.now t → HasPast t → late t)
      → ChangesInside mid new result room changed
      → FailsInside mid new result change late → FailsInside old new result change HasPast
  fails_from {old} {mid} {new} result late looks leads changes fails left clean t (began, i) takes
      free =
      let first : HasCleanDisk mid = omega (arith, changes.stop.clean, clean) in
      let same = looks.same first refl in
      IfErr-weaker result (IsExcused mid new) (IsExcused old new)
      (λ e why. excused_wider old mid new new e looks.stop.counts (omega arith) why)
      (fails (subst HasNumbersLeft (sym same.0.now_is) left) clean t
      (began, in_unchanged old mid began t same i) (takes.0, leads first t i.holds takes.1)
      (looks.stop.limit ∙ free))

  -- ---- where it was refused before anything was written

  -- a look-up failed
  pub looks_fail : (old new : State) {e : Error} (early : Tables → Type 0)
      → (HasCleanDisk new → (t : Tables) → IsOpenOver version old t → HasPast t × early t
      → old.step_limit ≡ None → IsExcused old new e)
      → (HasNumbersLeft old.now → (t : Tables) → Holds old.now t → early t)
      → (result : Result T Error) → IsErr result × IsErrAnd result (λ r. r ≡ e)
      → FailsInside old new result change HasPast
  looks_fail old new early fails meets (Ok x) is = absurd (true≢false (sym is.0))
  looks_fail old new early fails meets (Err r) is =
      λ left clean t (began, i) takes free.
      subst (IsExcused old new) (sym is.1)
      (fails clean t (record { is_open = i.is_open; holds = i.holds })
      (takes.1, meets left t i.holds) free)

  -- memory ran out
  pub fails_for_memory : (old new : State) {e : Error} → e ≡ SqliteFailure OutOfMemory
      → (result : Result T Error) → IsErr result × IsErrAnd result (λ r. r ≡ e)
      → FailsInside old new result change HasPast
  fails_for_memory old new memory (Ok x) is = absurd (true≢false (sym is.0))
  fails_for_memory old new memory (Err r) is =
      λ left clean t inside takes free. inl (is.1 ∙ memory)

-- where nothing was written, the transaction is open still
pub still_apart : {T : Type 0} (s : State) (result : Result T Error) → TellsApart s s result
still_apart s (Ok x) clean t at = tt
still_apart s (Err e) clean t (began, i) = inl i.inside
