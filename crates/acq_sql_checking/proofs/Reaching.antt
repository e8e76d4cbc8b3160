-- How far statements that make tables have come, and why one of them fails.
use Rattle.std.proofs.Common.{◌≡◌, ◌∙◌, refl, sym, subst, arith, Ok, Err, Result}
use Rattle.std.specs.Result.{IsErrAnd}
use Rattle.sqlite_schema.specs.declared.schema.Schema.{Schema}
use Rattle.sqlite.specs.declared.error.Error.{Error}
use Rattle.sqlite.specs.Effect.{Database}
use Rattle.sqlite.specs.State.{State}
use Rattle.row_lemmas.specs.Created.{IsBlank}
use Rattle.row_lemmas.specs.Excused.{IsExcused}
use Rattle.row_lemmas.proofs.StatementFailures.{excused_wider}
use Rattle.acq_sql_writes.specs.Widened.{IsNeverRefused}
use Rattle.acq_sql_writes.specs.Written.{CommitsNothing, KeepsCommitted, StaysInside}
use Rattle.acq_sql_writes.proofs.Within.{was_clean}
use Rattle.acq_sql_checking.specs.Made.{IsNew, Extends}
use Rattle.acq_sql_checking.proofs.GoingOn.{GoesOn, goes_then}

-- the transaction goes on, and one schema with no rows has become another
pub record Reached (from to : Schema) (old now : State) : Type 0 where
  pub on : GoesOn old now
  pub made : Extends {T = Unit {0}} old now (Ok tt) from to

-- by statements of which all this is so
pub reached : {from to : Schema} {old now : State} → CommitsNothing old now
    → KeepsCommitted old now → StaysInside {T = Unit {0}} old now (Ok tt)
    → Extends {T = Unit {0}} old now (Ok tt) from to → Reached from to old now
reached stop kept inside made =
    record { on = record { stop = stop; kept = kept; inside = inside }; made = made }

pub reached_then : {from middle to : Schema} {old mid new : State} → Reached from middle old mid
    → Reached middle to mid new → Reached from to old new
reached_then first second =
    record {
      on = goes_then first.on second.on;
      made = λ clean within blank.
          let early = was_clean _ _ second.on.stop.clean clean in
          second.made clean (first.on.inside early within).mode
          (first.made early within blank).rows;
    }

-- ---- an error is passed on, and so is its excuse

module _ {T : Type 0} {e : Error} {from : Schema} (needs : Database → Type 0) where
  -- of the first statement
  pub fails_first : (old new : State) → IsNeverRefused {T = Unit {0}} old new (Err e) needs
      → ((db : Database) → IsBlank from db → needs db)
      → (result : Result T Error) → IsErrAnd result (λ r. r ≡ e)
      → IsNeverRefused old new result (IsBlank from)
  fails_first old new never meets (Ok x) is = absurd is
  fails_first old new never meets (Err r) is = λ clean within opened free blank.
      subst (IsExcused old new) (sym is) (never clean within opened free (meets old.now blank))

  -- of a later one
  pub fails_then : {to : Schema} {old mid new : State} → Reached from to old mid
      → CommitsNothing mid new → IsNeverRefused {T = Unit {0}} mid new (Err e) needs
      → ((db : Database) → IsNew to db → needs db)
      → (result : Result T Error) → IsErrAnd result (λ r. r ≡ e)
      → IsNeverRefused old new result (IsBlank from)
  fails_then so_far stop never meets (Ok x) is = absurd is
  fails_then {old = old} {mid = mid} {new = new} so_far stop never meets (Err r) is =
      λ clean within opened free blank.
      let early = was_clean _ _ stop.clean clean in
      let shown = so_far.on.inside early within in
      subst (IsExcused old new) (sym is)
      (excused_wider old mid new new e so_far.on.stop.counts (omega arith)
      (never clean shown.mode shown.is_open (so_far.on.stop.limit ∙ free)
      (meets mid.now (so_far.made early within blank))))

-- where the last statement is never refused, none of them is
pub fails_next : {T : Type 0} {from to : Schema} {old mid new : State} (result : Result T Error)
    → Reached from to old mid → CommitsNothing mid new
    → IsNeverRefused mid new result (IsBlank to) → IsNeverRefused old new result (IsBlank from)
fails_next (Ok x) so_far stop never = λ clean within opened free blank. tt
fails_next {T} {to = to} (Err e) so_far stop never =
    fails_then {T = T} {e = e} (IsBlank to) so_far stop never (λ db new. new.rows) (Err e) refl
