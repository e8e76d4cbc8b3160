-- What writes inside a transaction leave, one after another.
use Rattle.std.proofs.Common.{Ok, Err, Result, OnOk, IsErr, IsTrue, true, ◌∙◌, inl, refl, arith}
use Rattle.sqlite.specs.State.{State, HasCleanDisk, Shows}
use Rattle.sqlite.proofs.StateLemmas.{survives_then}
use Rattle.acq_sql_writes.proofs.Within.{was_clean}
use Rattle.acq_sql_writes.specs.Written.{KeepsCommitted, CommitsNothing}

-- all succeeded, the transaction is still open, and nothing was committed
pub record GoesOn (old new : State) : Type 0 where
  pub stop : CommitsNothing old new
  pub kept : KeepsCommitted old new
  pub inside : HasCleanDisk new → IsTrue old.in_transaction
      → Shows old new new.now old.committed true

-- what did nothing left nothing
pub stop_none : (s : State) → CommitsNothing s s
stop_none s =
    record {
      clean = omega arith;
      shield = λ h. h;
      counts = omega arith;
      limit = refl;
      closes = λ clean opened. inl opened;
      crash = λ clean db left. inl left;
    }

-- one after the other
pub stop_after : (old mid new : State) → CommitsNothing old mid → CommitsNothing mid new
    → CommitsNothing old new
stop_after old mid new =
    survives_then old mid new _ _ (λ _. ⊥) (λ _ db none. none) (λ _ db none. none)

-- of an error this says nothing
pub not_ok : {T E : Type 0} (P : Type 0) (result : Result T E) → IsErr result → OnOk result P
not_ok P (Ok x) is = absurd (cc)
not_ok P (Err e) is = tt

module _ {old mid new : State} (first : GoesOn old mid) where
  pub stop_then : CommitsNothing mid new → CommitsNothing old new
  stop_then =
      survives_then old mid new _ _ (λ _. ⊥) (λ _ db none. none) (λ _ db none. none) first.stop

  pub kept_then : CommitsNothing mid new → KeepsCommitted mid new → KeepsCommitted old new
  kept_then stop kept clean within =
      let early = was_clean _ _ stop.clean clean in
      let one = first.kept early within in
      let two = kept clean (first.inside early within).mode in
      record {
        was_open = λ opened. one.was_open (two.was_open opened);
        committed = λ opened. two.committed opened ∙ one.committed (two.was_open opened);
      }

  pub goes_then : GoesOn mid new → GoesOn old new
  goes_then second =
      record {
        stop = stop_then second.stop;
        kept = kept_then second.stop second.kept;
        inside = λ clean within.
            let shown = first.inside (was_clean _ _ second.stop.clean clean) within in
            let last = second.inside clean shown.mode in
            record {
              was_open = shown.was_open;
              is_open = last.is_open;
              now_is = last.now_is;
              committed_is = last.committed_is ∙ shown.committed_is;
              mode = last.mode;
            };
      }
