-- A change that failed tells a refusal from a fault of the store, whichever write of it failed.
use Rattle.std.proofs.Common.{◌≡◌, inl, inr, sym, subst, true≢false, arith, Ok, Err, Result, IfErr}
use Rattle.std.proofs.Common.{IsErr}
use Rattle.std.specs.Result.{IsErrAnd}
use Rattle.sqlite.specs.declared.error.Error.{Error}
use Rattle.sqlite.specs.Effect.{Database}
use Rattle.sqlite.specs.State.{State}
use Rattle.row_lemmas.proofs.StatementFailures.{excused_wider}
use Rattle.acq_core.specs.Tables.{Tables}
use Rattle.acq_sql_writes.specs.Apart.{FailsApart, IsToldApart}
use Rattle.acq_sql_writes.specs.Written.{WritesInside}
use Rattle.acq_sql_changes.specs.Refused.{TellsApart}
use Rattle.acq_sql_changes.proofs.Progress.{Wrote, clean_before, stands}

module _ {old mid new : State} {before : Tables → Tables} (so_far : Wrote old mid before)
    {Leads : Database → Database → Type 0} where
  -- at a write that was the last
  pub tells_apart : (result : Result (Unit {0}) Error) → WritesInside mid new result Leads
      → FailsApart mid new result → TellsApart old new result
  tells_apart result write fails clean t (began, i) =
      let it = (so_far.leads (clean_before so_far write clean) t i.holds.runs
      (stands old began t i)).0 in
      wider result (fails clean it.is_open it.inside)
    where
      wider : (r : Result (Unit {0}) Error) → IfErr r (IsToldApart mid new)
          → IfErr r (IsToldApart old new)
      wider (Ok done) why = tt
      wider (Err e) (inl inside) = inl inside
      wider (Err e) (inr (inl why)) =
          inr (inl (excused_wider old mid new new e so_far.stop.counts (omega arith) why))
      wider (Err e) (inr (inr large)) = inr (inr large)

  -- where one failed, and its error is passed on
  pub drops_apart : {e : Error} → WritesInside {T = Unit {0}} mid new (Err e) Leads
      → FailsApart {T = Unit {0}} mid new (Err e) → (result : Result (Unit {0}) Error)
      → IsErr result × IsErrAnd result (λ r. r ≡ e) → TellsApart old new result
  drops_apart write fails (Ok done) is = absurd (true≢false (sym is.0))
  drops_apart {e} write fails (Err r) is =
      subst (λ x. TellsApart {T = Unit {0}} old new (Err x)) (sym is.1)
      (tells_apart (Err e) write fails)
