-- What the end of a transaction leaves that ends where it is dropped.
use Rattle.std.proofs.Common.{◌≡◌, inl, inr, ℕ, false, true≢false, refl, sym}
use Rattle.std.proofs.Common.{subst, ◌∙◌, [], Ok, Err, Result, OnOk, IfErr, IsErr}
use Rattle.std.proofs.Common.{IsTrue}
use Rattle.std.proofs.lemmas.Result.{IfOk-weaker, IfErr-weaker}
use Rattle.sqlite_trees.specs.Tree.{Trees}
use Rattle.sqlite_trees.specs.declared.store.Store as store
use Rattle.sqlite.specs.declared.error.Error.{Error}
use Rattle.sqlite.specs.Effect.{Database}
use Rattle.sqlite.specs.Held.{Held, state}
use Rattle.sqlite.specs.State.{State, HasCleanDisk, Shows, KeepsCounts, KeepsCommit, IsRolledBack}
use Rattle.sqlite.specs.State.{Survives}
use Rattle.sqlite.specs.Steps.{FailsToCommit}
use Rattle.sqlite.proofs.StateLemmas.{survives_then}
use Rattle.acq_core.specs.Tables.{Tables}
use Rattle.acq_sql_rows.specs.Relation.{HoldsOf, Holds}
use Rattle.acq_sql_rows.specs.Standing.{IsAtOf, HoldsAfter}
use Rattle.acq_sql_writes.specs.Written.{WritesGuarded}
use Rattle.acq_sql_writes.proofs.Within.{was_clean, IsWithin, kept_still, stop_still}
use Rattle.acq_sql_changes.specs.Changed.{ChangesWholeOf}
use Rattle.acq_sql_changes.proofs.Transactions.{at_commit}

-- ---- the whole change

-- a transaction that began here, over a book of that version, has made the whole change of the
-- tables of which this is so
pub record MakesOf (earlier : ℕ) (old last : State) (fits : Tables → Type 0)
    (changed : Tables → Tables) : Type 0 where
  pub within : IsWithin old last
  pub holds : HasCleanDisk last → (t : Tables) → HoldsOf earlier old.now t → fits t →
      Holds last.now (changed t)

-- ---- the commit

-- what a commit leaves holds what was shown
pub left_holds : (db : Database) (trees : Trees) (t : Tables) → Holds db t → trees ≡ db.trees →
    HoldsAfter t trees
left_holds db trees t h is =
    let r = h.rows in
    rw is (
      r.schema.0,
      record {
        runs = h.runs;
        rows =
            record {
              schema = (r.schema.0, refl);
              sound = r.sound;
              book = r.book;
              merchants = r.merchants;
              terminals = r.terminals;
              ranges = r.ranges;
              rising = r.rising;
              requests = r.requests;
              recorded = r.recorded;
              postings = r.postings;
              reconciliations = r.reconciliations;
              running = r.running;
              apart = r.apart;
            };
        tallied = h.tallied;
        short = h.short;
      },
    )

-- what a transaction wrote is gone where it was rolled back
at_undone : {earlier : ℕ} (old last end : State) (t : Tables) → IsTrue end.is_open
    → (HasCleanDisk last → KeepsCommit old last) → HasCleanDisk last → IsRolledBack last end
    → IsAtOf earlier old t → IsAtOf earlier end t
at_undone {earlier} old last end t opened keeps clean back at =
    let gone = back.undone opened in
    let kept = (keeps clean).committed (back.was_open opened) in
    record {
      is_open = opened;
      settled = back.autocommit;
      same = gone.0 ∙ sym gone.1;
      holds = subst (λ d. HoldsOf earlier d t) (sym (gone.0 ∙ kept ∙ sym at.same)) at.holds;
    }

-- a transaction that its failed commit ended was rolled back
at_failure : {earlier : ℕ} (old last end : State) (t : Tables) (e : Error) → IsTrue end.is_open
    → IsWithin old last → HasCleanDisk last → FailsToCommit last end e
    → IsAtOf earlier old t → IsAtOf earlier end t
at_failure old last end t e opened within clean (inl fails) at =
    at_undone old last end t opened within.kept clean fails.3 at
at_failure old last end t e opened within clean (inr late) at =
    absurd (true≢false (sym (within.inside clean) ∙ late.1))

-- what a commit says, and the drop of a transaction
abbrev pub Committed : {S T : Type 0} → store.Ghosts S → State → Held S → Result T Error → Type 0
Committed g last end result =
    record {
      ended : end.in_transaction ≡ false;
      ok : HasCleanDisk (state g end) → OnOk result (IsTrue last.in_transaction
          × Shows last (state g end) last.now last.now false × KeepsCounts last (state g end)
          × ((state g end).marks ≡ []));
      err : HasCleanDisk (state g end) → IfErr result (FailsToCommit last (state g end));
      survives : Survives last (state g end) (λ trees. trees ≡ last.now.trees);
    }

abbrev pub Dropped : {S : Type 0} → store.Ghosts S → State → Held S → Type 0
Dropped g last end =
    record {
      ended : end.in_transaction ≡ false;
      undone : HasCleanDisk (state g end) → IsRolledBack last (state g end);
      survives : Survives last (state g end) (λ _. ⊥);
    }

module _ {S : Type 0} (g : store.Ghosts S) {earlier : ℕ} {old last : State} {end after : Held S}
    {fits : Tables → Type 0} {changed : Tables → Tables} {T : Type 0} where
  -- a commit makes the whole change, or rolls it back
  pub commits : MakesOf earlier old last fits changed → end ≡ after → (result : Result T Error)
      → Committed g last end result
      → ChangesWholeOf earlier old (state g after) result fits changed
  commits made same result commit =
      let end_state = state g end in
      let was = was_clean _ _ commit.survives.clean in
      let P : Trees → Type 0 = λ trees. (t : Tables) → IsAtOf earlier old t → fits t
      → HoldsAfter (changed t) trees in
      subst (λ x. ChangesWholeOf earlier old (state g x) result fits changed) same (record {
        done = λ clean t at fit. IfOk-weaker result _ _
            (λ _ shown. at_commit last end_state (changed t) (made.holds (was clean) t at.holds fit)
            shown.1)
            (commit.ok clean);
        undone = λ clean opened t at. IfErr-weaker result _ _
            (λ e failed. at_failure old last end_state t e opened made.within (was clean) failed at)
            (commit.err clean);
        stop = survives_then old last end_state _ _ P (λ _ db none. absurd none)
            (λ clean db is t at fit. left_holds last.now db (changed t)
            (made.holds (was clean) t at.holds fit) is)
            made.within.stop commit.survives;
      })

  -- where a write failed, its transaction was dropped, and all is rolled back
  pub gives_up : {mid : State} {U : Type 0} {written : Result U Error}
      {Leads : Database → Database → Type 0} → IsWithin old mid
      → WritesGuarded mid last written Leads → end ≡ after → Dropped g last end
      → (result : Result T Error) → IsErr result
      → ChangesWholeOf earlier old (state g after) result fits changed
  gives_up so_far write same dropped (Ok x) is =
      absurd (cc)
  gives_up so_far write same dropped (Err e) is =
      let end_state = state g end in
      let was = was_clean _ _ dropped.survives.clean in
      let P : Trees → Type 0 = λ trees. (t : Tables) → IsAtOf earlier old t → fits t
      → HoldsAfter (changed t) trees in
      subst (λ x. ChangesWholeOf earlier {T = T} old (state g x) (Err e) fits changed) same
      (record {
        done = λ clean t at fit. tt;
        undone = λ clean opened t at. at_undone old last end_state t opened
            (kept_still _ _ _ so_far _ _ write) (was clean) (dropped.undone clean) at;
        stop = survives_then old last end_state _ _ P (λ _ db none. absurd none)
            (λ _ db none. absurd none) (stop_still _ _ _ so_far _ _ write) dropped.survives;
      })
