-- What a transaction that began has left so far.
use Rattle.std.proofs.Common.{◌≡◌, ◌≤◌, inl, ℕ, true, refl}
use Rattle.std.proofs.Common.{◌∙◌, arith, Ok, Result}
use Rattle.std.proofs.Common.{IsTrue}
use Rattle.sqlite_trees.specs.declared.store.Store as store
use Rattle.sqlite.specs.declared.error.Error.{Error}
use Rattle.sqlite.specs.Effect.{Database}
use Rattle.sqlite.specs.Held.{Held, state}
use Rattle.sqlite.specs.State.{State, HasCleanDisk, KeepsCommit}
use Rattle.sqlite.specs.State.{Survives}
use Rattle.sqlite.proofs.StateLemmas.{survives_then}
use Rattle.sqlite.proofs.Callers.{survives_begin}
use Rattle.acq_sql_writes.specs.Written.{WritesGuarded}

-- a disk that is clean after a call was so before it
pub was_clean : (a b : ℕ) → a ≤ b → b ≡ 0 → a ≡ 0
was_clean a b up late = omega (arith, up, late)

-- a transaction that began here is open, with nothing committed, and a stop leaves nothing of it
pub record IsWithin (old now : State) : Type 0 where
  pub inside : HasCleanDisk now → IsTrue now.in_transaction
  pub is_open : HasCleanDisk now → IsTrue old.is_open → IsTrue now.is_open
  pub kept : HasCleanDisk now → KeepsCommit old now
  pub stop : Survives old now (λ _. ⊥)

-- where nothing is done, a stop leaves what it might before
survives_itself : (s : State) → Survives s s (λ _. ⊥)
survives_itself s =
    record {
      clean = omega arith;
      shield = λ h. h;
      counts = omega arith;
      limit = refl;
      closes = λ clean h. inl h;
      crash = λ clean db h. inl h;
    }

module _ {S : Type 0} (g : store.Ghosts S) (old begin : Held S)
    (is : begin ≡ record old { in_transaction = true }) where
  pub begins : IsWithin (state g old) (state g begin)
  begins =
      rw is (record {
        inside = λ clean. refl;
        is_open = λ clean h. h;
        kept = λ clean. record { was_open = λ h. h; committed = λ _. refl };
        stop = survives_begin g old (state g (record old { in_transaction = true })) (λ _. ⊥)
            (survives_itself (state g (record old { in_transaction = true })));
      })

  pub same_rows : (state g begin).now ≡ (state g old).now
  same_rows = rw is refl

module _ (old mid new : State) (so_far : IsWithin old mid) {T : Type 0} (result : Result T Error)
    (Leads : Database → Database → Type 0) (write : WritesGuarded mid new result Leads) where
  pub clean_before : HasCleanDisk new → HasCleanDisk mid
  clean_before clean = was_clean _ _ write.stop.clean clean

  pub kept_still : HasCleanDisk new → KeepsCommit old new
  kept_still clean =
      let early = clean_before clean in
      let first = so_far.kept early in
      let then = write.kept clean (so_far.inside early) in
      record {
        was_open = λ opened. first.was_open (then.was_open opened);
        committed = λ opened. then.committed opened ∙ first.committed (then.was_open opened);
      }

  pub stop_still : Survives old new (λ _. ⊥)
  stop_still =
      survives_then old mid new _ _ (λ _. ⊥) (λ _ db none. none) (λ _ db none. none) so_far.stop
      write.stop

module _ {old mid new : State} {done : Unit {0}} {Leads : Database → Database → Type 0} where
  -- one that succeeded leaves it open
  pub within_still : IsWithin old mid → WritesGuarded mid new (Ok done) Leads → IsWithin old new
  within_still so_far write =
      let shows = λ (clean : HasCleanDisk new). write.inside clean
      (so_far.inside (clean_before _ _ _ so_far _ _ write clean)) in
      record {
        inside = λ clean. (shows clean).mode;
        is_open = λ clean h. (shows clean).is_open;
        kept = kept_still _ _ _ so_far _ _ write;
        stop = stop_still _ _ _ so_far _ _ write;
      }
