-- What a change leaves after a look-up.
use Rattle.std.proofs.Common.{ℕ, true, refl, arith, Result}
use Rattle.sqlite.specs.declared.error.Error.{Error}
use Rattle.sqlite.specs.State.{State, HasCleanDisk}
use Rattle.sqlite.proofs.StateLemmas.{survives_then}
use Rattle.acq_core.specs.Tables.{Tables}
use Rattle.acq_sql_rows.specs.Relation.{HoldsOf}
use Rattle.acq_sql_rows.specs.Standing.{IsAtOf}
use Rattle.acq_sql_changes.specs.Changed.{ChangesWholeOf}
use Rattle.acq_sql_reads.specs.Looked.{LooksOnly}
use Rattle.acq_sql_reads.proofs.Leaves.{at_unchanged}

module _ {number : ℕ} {T : Type 0} {result : Result T Error} {early late : Tables → Type 0}
    {changed : Tables → Tables} {old mid new : State} where
  pub whole_from : LooksOnly old mid true
      → (HasCleanDisk mid → (t : Tables) → HoldsOf number old.now t → early t → late t)
      → ChangesWholeOf number mid new result late changed
      → ChangesWholeOf number old new result early changed
  whole_from looks leads whole =
      record {
        done = λ clean t at fit. whole.done clean t (at_first clean t at)
            (leads (clean_first clean) t at.holds fit);
        undone = λ clean opened t at. whole.undone clean opened t (at_first clean t at);
        stop = survives_then old mid new _ _ _ (λ _ db none. absurd none)
            (λ clean db left t at fit. left t (at_first clean t at)
            (leads (clean_first clean) t at.holds fit))
            looks.stop whole.stop;
      }
    where
      clean_first : HasCleanDisk new → HasCleanDisk mid
      clean_first clean = omega (arith, whole.stop.clean, clean)

      -- the look-up left the tables as they were
      at_first : HasCleanDisk new → (t : Tables) → IsAtOf number old t → IsAtOf number mid t
      at_first clean t at = at_unchanged old mid t (looks.same (clean_first clean) refl) at
