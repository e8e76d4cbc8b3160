-- A change that is made in a transaction of its own is made whole or not at all.
use Rattle.std.proofs.Common.{true≢false, false, true, sym, subst, ◌∙◌, arith, Ok, Err}
use Rattle.std.proofs.Common.{Result, IfErr, IsErr}
use Rattle.sqlite.specs.declared.error.Error.{Error}
use Rattle.sqlite.specs.State.{State, HasCleanDisk, Survives}
use Rattle.sqlite.proofs.StateLemmas.{survives_then}
use Rattle.row_lemmas.specs.Excused.{IsExcused}
use Rattle.row_lemmas.proofs.StatementFailures.{excused_wider}
use Rattle.acq_core.specs.declared.change.Change.{Change}
use Rattle.acq_core.specs.Tables.{Tables}
use Rattle.acq_sql_rows.specs.Standing.{IsAt, IsIn, IsBased}
use Rattle.acq_sql_writes.specs.Refused.{HasNumbersLeft}
use Rattle.acq_sql_writes.specs.Written.{CommitsNothing}
use Rattle.acq_sql_writes.proofs.Within.{was_clean}
use Rattle.acq_sql_changes.specs.Changed.{ChangesWhole}
use Rattle.acq_sql_changes.specs.Refused.{FailsAmong, FailsInside, Takes}
use Rattle.acq_sql_changes.specs.Transactions.{Begins, ChangesInside, CommitsShown, FailsWhile}
use Rattle.acq_sql_changes.specs.Transactions.{Keeps, Returns, ReturnsOnErr}
use Rattle.acq_sql_changes.proofs.Commits.{left_holds}

-- ---- a transaction was begun

module _ {room : Tables → Type 0} {changed : Tables → Tables} {old mid last : State}
    {made : Result (Unit {0}) Error} (begins : Begins {T = Unit {0}} old mid (Ok tt))
    (nothing : CommitsNothing old mid) (changes : ChangesInside mid last made room changed) where
  clean_begun : HasCleanDisk last → HasCleanDisk mid
  clean_begun clean = was_clean _ _ changes.stop.clean clean

  -- before its end a stop leaves nothing of the change
  stop_before : Survives old last (λ _. (t : Tables) → IsAt old t → ⊥)
  stop_before =
      survives_then old mid last _ _ _ (λ clean db none. absurd none)
      (λ clean db may t at. may t t (begins (clean_begun clean) t at).0) nothing changes.stop

  -- it can be given up
  can_return : HasCleanDisk last → (t : Tables) → IsAt old t → IsBased last t
  can_return clean t at = changes.based clean t t (begins (clean_begun clean) t at).0

  -- ---- the change failed, and is rolled back

  module _ {new : State} where
    pub dropped_whole : IsErr made → Returns last new → CommitsNothing last new
        → ChangesWhole old new made room changed
    dropped_whole bad returns stop = go made bad
      where
        go : (r : Result (Unit {0}) Error) → IsErr r → ChangesWhole old new r room changed
        go (Ok done) bad = absurd (true≢false (sym bad))
        go (Err e) bad =
            record {
              done = λ clean t at fit. tt;
              undone = λ clean opened t at. returns clean opened t
                  (can_return (was_clean _ _ stop.clean clean) t at);
              stop = survives_then old last new _ _ _
                  (λ clean db none t at fit. absurd (none t at)) (λ clean db none. absurd none)
                  stop_before stop;
            }

    pub dropped_fails : (change : Change) (fits : Tables → Type 0)
        → FailsInside mid last made change fits → CommitsNothing last new
        → FailsAmong old new made change fits
    dropped_fails change fits fails stop left clean t at takes free =
        let late : HasCleanDisk last = was_clean _ _ stop.clean clean in
        let begun = begins (clean_begun late) t at in
        go made (fails (subst HasNumbersLeft (sym begun.1) left) late t (t, begun.0) takes
        (nothing.limit ∙ free))
      where
        go : (r : Result (Unit {0}) Error) → IfErr r (IsExcused mid last)
            → IfErr r (IsExcused old new)
        go (Ok done) why = tt
        go (Err e) why = excused_wider old mid last new e nothing.counts stop.counts why

-- ---- and the change was made

module _ {room : Tables → Type 0} {changed : Tables → Tables} {old mid last : State}
    (begins : Begins {T = Unit {0}} old mid (Ok tt)) (nothing : CommitsNothing old mid)
    (changes : ChangesInside {T = Unit {0}} mid last (Ok tt) room changed) where
  -- the transaction shows it
  shown_last : HasCleanDisk last → (t : Tables) → IsAt old t → room t → IsIn last t (changed t)
  shown_last clean t at fit =
      changes.done clean t t (begins (clean_begun begins nothing changes clean) t at).0 fit

  -- ---- it is committed

  module _ {new : State} (result : Result (Unit {0}) Error) (stop : CommitsShown last new) where
    clean_last : HasCleanDisk new → HasCleanDisk last
    clean_last clean = was_clean _ _ stop.clean clean

    pub kept_whole : Keeps last new result → ReturnsOnErr last new result
        → ChangesWhole old new result room changed
    kept_whole keeps undoes =
        record {
          done = λ clean t at fit. keeps clean t (changed t)
              (shown_last (clean_last clean) t at fit);
          undone = λ clean opened t at. undoes clean opened t
              (can_return begins nothing changes (clean_last clean) t at);
          stop = survives_then old last new _ _ _
              (λ clean db none t at fit. absurd (none t at))
              (λ clean db is t at fit. left_holds last.now db (changed t)
              (shown_last (clean_last clean) t at fit).holds is)
              (stop_before begins nothing changes) stop;
        }

    pub kept_fails : (change : Change) (fits : Tables → Type 0)
        → ((t : Tables) → Takes change t × fits t → room t) → FailsWhile true last new result
        → FailsAmong old new result change fits
    kept_fails change fits rooms fails left clean t at takes free =
        let i = shown_last (clean_last clean) t at (rooms t takes) in
        go result (fails clean i.is_open i.inside)
      where
        go : (r : Result (Unit {0}) Error) → IfErr r (IsExcused last new)
            → IfErr r (IsExcused old new)
        go (Ok done) why = tt
        go (Err e) why =
            excused_wider old last new new e (stop_before begins nothing changes).counts
            (omega arith) why
