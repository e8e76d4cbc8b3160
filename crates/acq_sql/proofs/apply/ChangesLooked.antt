-- What a change inside a transaction leaves, also after a look-up there.
use Rattle.std.proofs.Common.{true, false, true≢false, refl, sym, subst, ◌∙◌, arith}
use Rattle.std.proofs.Common.{Result, Ok, Err, IsErr}
use Rattle.sqlite.specs.declared.error.Error.{Error}
use Rattle.sqlite.specs.State.{State, HasCleanDisk, IsUnchanged}
use Rattle.sqlite.proofs.StateLemmas.{survives_then, survives_weaker}
use Rattle.acq_core.specs.Tables.{Tables}
use Rattle.acq_sql_rows.specs.Relation.{Holds}
use Rattle.acq_sql_rows.specs.Standing.{IsIn}
use Rattle.acq_sql_changes.specs.Transactions.{ChangesInside}
use Rattle.acq_sql_changes.proofs.Progress.{based_still}
use Rattle.acq_sql_reads.specs.Looked.{LooksOnly}
use Rattle.acq_sql_reads.proofs.Leaves.{looks_nowhere}

pub in_unchanged : (old new : State) (began t : Tables) → IsUnchanged old new → IsIn old began t
    → IsIn new began t
in_unchanged old new began t same i =
    let shows = same.0 in
    record {
      is_open = shows.is_open;
      inside = shows.mode ∙ i.inside;
      committed = subst (λ d. Holds d began) (sym shows.committed_is) i.committed;
      holds = subst (λ d. Holds d t) (sym shows.now_is) i.holds;
    }

module _ {T : Type 0} {result : Result T Error} {early late : Tables → Type 0}
    {changed : Tables → Tables} where
  -- of fewer tables
  pub inside_for : {old new : State} → ((t : Tables) → early t → late t)
      → ChangesInside old new result late changed → ChangesInside old new result early changed
  inside_for fits changes =
      record {
        done = λ clean began t i fit. changes.done clean began t i (fits t fit);
        based = changes.based;
        stop = changes.stop;
      }

  -- after a look-up
  pub inside_from : {old mid new : State} → LooksOnly old mid true
      → (HasCleanDisk mid → (t : Tables) → Holds old.now t → early t → late t)
      → ChangesInside mid new result late changed → ChangesInside old new result early changed
  inside_from {old = old} {mid = mid} {new = new} looks leads changes =
      record {
        done = λ clean began t i fit. changes.done clean began t (in_first clean began t i)
            (leads (clean_first clean) t i.holds fit);
        based = λ clean began t i. changes.based clean began t (in_first clean began t i);
        stop = survives_then old mid new _ _ _ (λ _ db none. absurd none)
            (λ clean db may began t i. may began t (in_first clean began t i))
            looks.stop changes.stop;
      }
    where
      clean_first : HasCleanDisk new → HasCleanDisk mid
      clean_first clean = omega (arith, changes.stop.clean, clean)

      in_first : HasCleanDisk new → (began t : Tables) → IsIn old began t → IsIn mid began t
      in_first clean began t = in_unchanged old mid began t (looks.same (clean_first clean) refl)

-- ---- a change that was refused before anything was written

module _ {T : Type 0} {fits : Tables → Type 0} {changed : Tables → Tables} where
  -- a look-up failed
  pub inside_looking : {old new : State} → LooksOnly old new false → (result : Result T Error)
      → IsErr result → ChangesInside old new result fits changed
  inside_looking looks (Ok x) is = absurd (true≢false (sym is))
  inside_looking {old = old} {new = new} looks (Err e) is =
      record {
        done = λ clean began t i fit. tt;
        based = λ clean began t i. record {
          committed = λ opened.
              (based_still old new began i.inside i.committed (looks.undone clean opened)).committed
              opened;
          ended = λ out opened.
              (based_still old new began i.inside i.committed (looks.undone clean opened)).ended out
              opened;
        };
        stop = survives_weaker old new _ _ (λ _ db none. absurd none) looks.stop;
      }

  -- nothing was looked up
  pub inside_refuses : (s : State) → (result : Result T Error) → IsErr result
      → ChangesInside s s result fits changed
  inside_refuses s = inside_looking (looks_nowhere s)
