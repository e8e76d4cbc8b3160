-- What a transaction that widens the ranges has done so far.
use Rattle.std.proofs.Common.{◌≡◌, ℕ, List, true, Ok, Err, sym}
use Rattle.std.proofs.Common.{subst}
use Rattle.std.proofs.Common.{◌∙◌, arith}
use Rattle.sqlite_trees.specs.declared.store.Store as store
use Rattle.sqlite.specs.declared.error.Error.{Error}
use Rattle.sqlite.specs.Effect.{Database}
use Rattle.sqlite.specs.Held.{Held, state}
use Rattle.sqlite.specs.State.{State, HasCleanDisk, Survives}
use Rattle.row_lemmas.proofs.StatementFailures.{excused_wider}
use Rattle.card_no.specs.Prefix.{six_digits, eight_digits}
use Rattle.acq_core.specs.Tables.{Tables}
use Rattle.acq_core.specs.Widening.{widened_tables}
use Rattle.acq_sql_rows.specs.Tallies.{Running}
use Rattle.acq_sql_rows.specs.Relation.{HoldsRowsOf, HoldsTurnedOf}
use Rattle.acq_sql_writes.specs.Written.{WritesGuarded}
use Rattle.acq_sql_writes.specs.Widened.{HasRangesUnder, WidensRanges, TurnsRanges, SetsVersion}
use Rattle.acq_sql_writes.specs.Widened.{IsNeverRefused, HasRangesOf, HasTurnedRangesOf}
use Rattle.acq_sql_rows.specs.Standing.{FailsExcused}
use Rattle.acq_sql_writes.proofs.Within.{IsWithin, begins, same_rows, within_still, clean_before}
use Rattle.acq_sql_changes.proofs.Commits.{MakesOf}
use Rattle.acq_sql_writes.proofs.RangeMoves.{all_valid}

-- ---- the stages, by the tables from before

abbrev pub Stage : Type 1
Stage = Tables → List Running → Database → Type 0

abbrev pub Untouched : ℕ → Stage
Untouched number t runs db = HoldsRowsOf number db t runs

abbrev pub Turned : ℕ → Stage
Turned number t runs db = HoldsTurnedOf number db (widened_tables t) runs

abbrev pub Widened : ℕ → Stage
Widened number t runs db = HoldsRowsOf number db (widened_tables t) runs

-- a transaction that began here, over a book of this version, has come so far
pub record Reached (number : ℕ) (old now : State) (stage : Stage) : Type 0 where
  pub within : IsWithin old now
  pub rows : HasCleanDisk now → (t : Tables) (runs : List Running) → HasRangesUnder six_digits t
      → HoldsRowsOf number old.now t runs → stage t runs now.now

pub starts : {S : Type 0} (g : store.Ghosts S) (number : ℕ) (old begin : Held S)
    → begin ≡ record old { in_transaction = true }
    → Reached number (state g old) (state g begin) (Untouched number)
starts g number old begin is =
    record {
      within = begins g old begin is;
      rows = λ clean t runs six h.
          subst (λ d. HoldsRowsOf number d t runs) (sym (same_rows g old begin is)) h;
    }

module _ {number : ℕ} {old mid new : State} {done : Unit {0}} where
  pub has_turned : Reached number old mid (Untouched number)
      → WritesGuarded mid new (Ok done) WidensRanges → Reached number old new (Turned number)
  has_turned so_far write =
      record {
        within = within_still so_far.within write;
        rows = λ clean t runs six h.
            let early = clean_before _ _ _ so_far.within _ _ write clean in
            write.leads clean (so_far.within.inside early) number t runs six
            (so_far.rows early t runs six h);
      }

  pub has_widened : Reached number old mid (Turned number)
      → WritesGuarded mid new (Ok done) TurnsRanges → Reached number old new (Widened number)
  has_widened so_far write =
      record {
        within = within_still so_far.within write;
        rows = λ clean t runs six h.
            let early = clean_before _ _ _ so_far.within _ _ write clean in
            write.leads clean (so_far.within.inside early) number (widened_tables t) runs
            (all_valid t.ranges six) (so_far.rows early t runs six h);
      }

  -- ranges are in no running total
  pub makes_widened : Reached number old mid (Widened number)
      → WritesGuarded mid new (Ok done) SetsVersion
      → MakesOf number old new (HasRangesUnder six_digits) widened_tables
  makes_widened so_far write =
      record {
        within = within_still so_far.within write;
        holds = λ clean t h six.
            let early = clean_before _ _ _ so_far.within _ _ write clean in
            record {
              runs = h.runs;
              rows = write.leads clean (so_far.within.inside early) number (widened_tables t) h.runs
                  (so_far.rows early t h.runs six h.rows);
              tallied = h.tallied;
              short = h.short;
            };
      }

-- ---- a statement that failed

module _ {number : ℕ} {old mid last end : State} {stage : Stage} {e : Error}
    {Leads : Database → Database → Type 0} (so_far : Reached number old mid stage)
    (write : WritesGuarded {T = Unit {0}} mid last (Err e) Leads)
    (dropped : Survives last end (λ _. ⊥))
  where
    excused_at : (fits : Database → Type 0) → IsNeverRefused {T = Unit {0}} mid last (Err e) fits
        → ((t : Tables) (runs : List Running) → HasRangesUnder six_digits t → stage t runs mid.now
        → fits mid.now) → FailsExcused number {T = Unit {0}} old end (Err e)
        (HasRangesUnder six_digits)
    excused_at fits never leads clean t at six free =
        let late : HasCleanDisk last = omega (arith, dropped.clean, clean) in
        let early = clean_before _ _ _ so_far.within _ _ write late in
        excused_wider old mid last end e so_far.within.stop.counts dropped.counts
        (never late (so_far.within.inside early) (so_far.within.is_open early at.is_open)
        (so_far.within.stop.limit ∙ free)
        (leads t at.holds.runs six (so_far.rows early t at.holds.runs six at.holds.rows)))

module _ {number : ℕ} {old mid last end : State} {e : Error}
    {Leads : Database → Database → Type 0} where
  pub turning_gives_up : Reached number old mid (Turned number)
      → WritesGuarded {T = Unit {0}} mid last (Err e) Leads → Survives last end (λ _. ⊥)
      → IsNeverRefused {T = Unit {0}} mid last (Err e) (HasTurnedRangesOf eight_digits)
      → FailsExcused number {T = Unit {0}} old end (Err e) (HasRangesUnder six_digits)
  turning_gives_up so_far write dropped never =
      excused_at so_far write dropped (HasTurnedRangesOf eight_digits) never
      (λ t runs six h. (number, widened_tables t, runs, all_valid t.ranges six, h))

  pub setting_gives_up : Reached number old mid (Widened number)
      → WritesGuarded {T = Unit {0}} mid last (Err e) Leads → Survives last end (λ _. ⊥)
      → IsNeverRefused {T = Unit {0}} mid last (Err e) (HasRangesOf eight_digits)
      → FailsExcused number {T = Unit {0}} old end (Err e) (HasRangesUnder six_digits)
  setting_gives_up so_far write dropped never =
      excused_at so_far write dropped (HasRangesOf eight_digits) never
      (λ t runs six h. (number, widened_tables t, runs, all_valid t.ranges six, h))
