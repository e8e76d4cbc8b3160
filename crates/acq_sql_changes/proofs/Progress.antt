-- What a change has written so far, in a transaction that is open.
use Rattle.std.proofs.Common.{◌≡◌, ◌⊎◌, inl, inr, true, true≢false, refl, sym, subst, ◌∙◌, arith}
use Rattle.std.proofs.Common.{List, Ok, Err, Result, OnOk, OnErr, IsTrue}
use Rattle.sqlite.specs.declared.error.Error.{Error}
use Rattle.sqlite.specs.Effect.{Database}
use Rattle.sqlite.specs.State.{State, HasCleanDisk, IsRolledBack, IsUnchanged, Shows}
use Rattle.sqlite.specs.State.{Survives}
use Rattle.sqlite.proofs.StateLemmas.{survives_then}
use Rattle.acq_core.specs.Tables.{Tables}
use Rattle.acq_sql_rows.specs.Relation.{Holds, HoldsRows}
use Rattle.acq_sql_rows.specs.Standing.{IsIn, IsBased}
use Rattle.acq_sql_rows.specs.Tallies.{Running}
use Rattle.acq_sql_writes.specs.Written.{WritesInside, Changes}
use Rattle.acq_sql_writes.proofs.Within.{was_clean}
use Rattle.acq_sql_changes.specs.Transactions.{CanReturn, StopsInside}

-- a transaction is open, and shows these rows
pub record Stands (s : State) (t : Tables) (runs : List Running) : Type 0 where
  pub is_open : IsTrue s.is_open
  pub inside : IsTrue s.in_transaction
  pub rows : HoldsRows s.now t runs

pub stands : (s : State) (began t : Tables) (i : IsIn s began t) → Stands s t i.holds.runs
stands s began t i = record { is_open = i.is_open; inside = i.inside; rows = i.holds.rows }

-- the tables are changed so since, no running total, and nothing is committed
pub record Wrote (old now : State) (changed : Tables → Tables) : Type 0 where
  pub leads : HasCleanDisk now → (t : Tables) (runs : List Running) → Stands old t runs
      → Stands now (changed t) runs × (now.committed ≡ old.committed)
  pub stop : Survives old now (λ _. (t : Tables) (runs : List Running) → Stands old t runs → ⊥)

-- nothing is written yet
pub unwritten : (s : State) → Wrote s s (λ t. t)
unwritten s =
    record {
      leads = λ clean t runs at. (at, refl);
      stop = record {
        clean = omega arith;
        shield = λ h. h;
        counts = omega arith;
        limit = refl;
        closes = λ clean h. inl h;
        crash = λ clean db h. inl h;
      };
    }

module _ {old mid new : State} {before : Tables → Tables} (so_far : Wrote old mid before)
    {result : Result (Unit {0}) Error} {Leads : Database → Database → Type 0}
    (write : WritesInside mid new result Leads) where
  pub clean_before : HasCleanDisk new → HasCleanDisk mid
  clean_before clean = was_clean _ _ write.stop.clean clean

  -- a stop leaves nothing of one write more
  stop_still : Survives old new (λ _. (t : Tables) (runs : List Running) → Stands old t runs → ⊥)
  stop_still =
      survives_then old mid new _ _ _ (λ clean db none. none)
      (λ clean db may t runs at.
      let it = (so_far.leads (clean_before clean) t runs at).0 in may it.rows.schema it.inside)
      so_far.stop write.stop

  pub stops : StopsInside old new
  stops =
      survives_then old mid new _ _ _
      (λ clean db none began t i. none t i.holds.runs (stands old began t i))
      (λ clean db may began t i.
      let it = (so_far.leads (clean_before clean) t i.holds.runs (stands old began t i)).0 in
      may it.rows.schema it.inside)
      so_far.stop write.stop

-- with one write more
pub wrote : {old mid new : State} {before : Tables → Tables} {done : Unit {0}}
    → Wrote old mid before → (changed : Tables → Tables)
    → WritesInside mid new (Ok done) (Changes changed) → Wrote old new (λ t. changed (before t))
wrote {before = before} so_far changed write =
    record {
      leads = λ clean t runs at.
          let it = so_far.leads (clean_before so_far write clean) t runs at in
          let shown = write.inside it.0.rows.schema clean it.0.inside in (
            record {
              is_open = shown.is_open;
              inside = shown.mode;
              rows = write.leads clean it.0.inside (before t) runs it.0.rows;
            },
            shown.committed_is ∙ it.1,
          );
      stop = stop_still so_far write;
    }

-- ---- it can be given up

-- in a transaction that is open
pub based : (s : State) (began : Tables) → IsTrue s.in_transaction → Holds s.committed began
    → IsBased s began
based s began inside holds =
    record {
      committed = λ opened. holds;
      ended = λ out opened. absurd (true≢false (sym inside ∙ out));
    }

-- where a call in it changed nothing, or rolled back
pub based_still : (mid new : State) (began : Tables) → IsTrue mid.in_transaction
    → Holds mid.committed began → IsUnchanged mid new ⊎ IsRolledBack mid new → IsBased new began
based_still mid new began inside holds (inl same) =
    based new began (same.0.mode ∙ inside)
    (subst (λ d. Holds d began) (sym same.0.committed_is) holds)
based_still mid new began inside holds (inr back) =
    record {
      committed = λ opened. subst (λ d. Holds d began) (sym (back.undone opened).1) holds;
      ended = λ out opened. (back.undone opened).0 ∙ sym (back.undone opened).1;
    }

-- so it is after a write, whatever that led to
by_result : (mid new : State) (began : Tables) → IsTrue mid.in_transaction
    → Holds mid.committed began → (r : Result (Unit {0}) Error)
    → OnOk r (Shows mid new new.now mid.committed true)
    → OnErr r (IsUnchanged mid new ⊎ IsRolledBack mid new) → IsBased new began
by_result mid new began inside holds (Ok done) shown undone =
    based new began shown.mode (subst (λ d. Holds d began) (sym shown.committed_is) holds)
by_result mid new began inside holds (Err e) shown undone =
    based_still mid new began inside holds undone

pub based_after : {old mid new : State} {before : Tables → Tables} → Wrote old mid before
    → {result : Result (Unit {0}) Error} {Leads : Database → Database → Type 0}
    → WritesInside mid new result Leads → CanReturn old new
based_after {old} {mid} {new} so_far {result} write clean began t i =
    let it = so_far.leads (clean_before so_far write clean) t i.holds.runs
    (stands old began t i) in
    by_result mid new began it.0.inside (subst (λ d. Holds d began) (sym it.1) i.committed) result
    (write.inside it.0.rows.schema clean it.0.inside) (write.undone clean it.0.inside)
