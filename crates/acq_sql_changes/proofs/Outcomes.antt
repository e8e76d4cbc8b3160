-- What a change leaves, and why it fails: where a write of it failed, and at its last write.
use Rattle.std.proofs.Common.{◌≡◌, true≢false, sym, subst, ◌∙◌, arith, ℕ, List, Ok, Err, Result}
use Rattle.std.proofs.Common.{OnOk, IfErr, IsErr, true}
use Rattle.std.specs.Result.{IsErrAnd}
use Rattle.sqlite.specs.declared.error.Error.{Error}
use Rattle.sqlite.specs.Effect.{Database}
use Rattle.sqlite.specs.State.{State, Shows}
use Rattle.row_lemmas.specs.Excused.{IsExcused}
use Rattle.row_lemmas.proofs.StatementFailures.{excused_wider}
use Rattle.acq_core.specs.declared.change.Change.{Change}
use Rattle.acq_core.specs.Tables.{Tables}
use Rattle.acq_sql_rows.specs.Relation.{Holds, HoldsRows}
use Rattle.acq_sql_rows.specs.Standing.{IsIn}
use Rattle.acq_sql_rows.specs.Tallies.{FitsTally, Tally, raised}
use Rattle.acq_sql_writes.specs.Refused.{HasRuns, TakesMore}
use Rattle.acq_sql_writes.specs.Widened.{IsNeverRefused}
use Rattle.acq_sql_writes.specs.Written.{WritesInside, Changes, Raises}
use Rattle.acq_sql_changes.specs.Refused.{FailsInside}
use Rattle.acq_sql_changes.specs.Transactions.{ChangesInside}
use Rattle.acq_sql_changes.proofs.ListTallies.{ComesToMore, LeavesTallies, more_tallied}
use Rattle.acq_sql_changes.proofs.Progress.{Wrote, based_after, clean_before, stands, stops}
use Rattle.acq_sql_changes.proofs.Room.{HasShortDays}
use Rattle.acq_sql_changes.proofs.TakenTables.{IsTaken, has_room, takes_more}

-- both clauses of a change
abbrev pub Outcome : State → State → Result (Unit {0}) Error → Change → (Tables → Type 0)
    → (Tables → Type 0) → (Tables → Tables) → Type 0
Outcome old new result change fits room changed =
    record {
      changes : ChangesInside old new result room changed;
      fails : FailsInside old new result change fits;
    }

module _ (change : Change) (fits : Tables → Type 0) {old mid : State} {before : Tables → Tables}
    (so_far : Wrote old mid before) where
  -- of such tables the rows so far are as the write needs them
  abbrev Meets : (Database → Type 0) → Type 0
  Meets needs =
      (t : Tables) (taken : IsTaken change fits old.now t)
      → HoldsRows mid.now (before t) taken.holds.runs → needs mid.now

  module _ {new : State} where
    -- so it fails only for memory or since the store failed
    write_fails : (result : Result (Unit {0}) Error) {Leads : Database → Database → Type 0}
        → WritesInside mid new result Leads → (needs : Database → Type 0)
        → IsNeverRefused mid new result needs → Meets needs → FailsInside old new result change fits
    write_fails result write needs never meets left clean t (began, i) takes free =
        let taken : IsTaken change fits old.now t =
        record { numbers = left; holds = i.holds; takes = takes.0; fit = takes.1 } in
        let it = (so_far.leads (clean_before so_far write clean) t i.holds.runs
        (stands old began t i)).0 in
        wider result
        (never clean it.inside it.is_open (so_far.stop.limit ∙ free) (meets t taken it.rows))
      where
        wider : (r : Result (Unit {0}) Error) → IfErr r (IsExcused mid new)
            → IfErr r (IsExcused old new)
        wider (Ok done) why = tt
        wider (Err e) why = excused_wider old mid new new e so_far.stop.counts (omega arith) why

    -- a write failed
    pub drops : {room : Tables → Type 0} {changed : Tables → Tables} {e : Error}
        (last : Tables → Tables) → WritesInside {T = Unit {0}} mid new (Err e) (Changes last)
        → (needs : Database → Type 0) → IsNeverRefused {T = Unit {0}} mid new (Err e) needs
        → Meets needs → (result : Result (Unit {0}) Error)
        → IsErr result × IsErrAnd result (λ r. r ≡ e)
        → Outcome old new result change fits room changed
    drops last write needs never meets (Ok done) failed = absurd (true≢false (sym failed.0))
    drops {e = e} last write needs never meets (Err r) failed =
        record {
          changes = record {
            done = λ clean began t i fit. tt;
            based = based_after so_far write;
            stop = stops so_far write;
          };
          fails = subst (λ x. FailsInside {T = Unit {0}} old new (Err x) change fits) (sym failed.1)
              (write_fails (Err e) write needs never meets);
        }

    -- a write is the last, and no day comes to anything else
    pub ends : (result : Result (Unit {0}) Error) {room : Tables → Type 0} (last : Tables → Tables)
        → WritesInside mid new result (Changes last) → (needs : Database → Type 0)
        → IsNeverRefused mid new result needs → Meets needs → LeavesTallies (λ t. last (before t))
        → Outcome old new result change fits room (λ t. last (before t))
    ends result {room = room} last write needs never meets same =
        record {
          changes = record {
            done = λ clean began t i fit.
                let it = so_far.leads (clean_before so_far write clean) t i.holds.runs
                (stands old began t i) in
                led began t i it.1 result (write.leads clean it.0.inside)
                (write.inside it.0.rows.schema clean it.0.inside) it.0.rows;
            based = based_after so_far write;
            stop = stops so_far write;
          };
          fails = write_fails result write needs never meets;
        }
      where
        led : (began t : Tables) (i : IsIn old began t) → mid.committed ≡ old.committed
            → (r : Result (Unit {0}) Error) → OnOk r (Changes last mid.now new.now)
            → OnOk r (Shows mid new new.now mid.committed true)
            → HoldsRows mid.now (before t) i.holds.runs → OnOk r (IsIn new began (last (before t)))
        led began t i kept (Err e) leads shown rows = tt
        led began t i kept (Ok done) leads shown rows =
            record {
              is_open = shown.is_open;
              inside = shown.mode;
              committed = subst (λ d. Holds d began) (sym (shown.committed_is ∙ kept)) i.committed;
              holds = record {
                runs = i.holds.runs;
                rows = leads (before t) i.holds.runs rows;
                tallied = λ m d. i.holds.tallied m d ∙ sym (same t m d);
                short = λ m d. subst FitsTally (sym (same t m d)) (i.holds.short m d);
              };
            }

    -- the same, of tables of which this is so, said in other words
    pub ends_as : (result : Result (Unit {0}) Error) (last : Tables → Tables)
        → WritesInside mid new result (Changes last) → (needs : Database → Type 0)
        → IsNeverRefused mid new result needs → Meets needs → LeavesTallies (λ t. last (before t))
        → (room : Tables → Type 0) (changed : Tables → Tables)
        → ((t : Tables) → room t → last (before t) ≡ changed t)
        → Outcome old new result change fits room changed
    ends_as result last write needs never meets leaves room changed same =
        let it = ends result {room = room} last write needs never meets leaves in
        record {
          changes = record {
            done = λ clean began t i fit. subst (λ u. OnOk result (IsIn new began u)) (same t fit)
                (it.changes.done clean began t i fit);
            based = it.changes.based;
            stop = it.changes.stop;
          };
          fails = it.fails;
        }

    -- what came is raised last
    pub ends_raised : (result : Result (Unit {0}) Error)
        (merchant : List ℕ) (day : ℕ) (more : Tally)
        → WritesInside mid new result (Raises merchant day more)
        → IsNeverRefused mid new result (HasRuns (TakesMore merchant day more))
        → (room : Tables → Type 0) (changed : Tables → Tables)
        → ((t : Tables) → room t → ComesToMore t (before t) merchant day more)
        → ((t : Tables) → room t → HasShortDays t → HasShortDays (before t))
        → ((t : Tables) → room t → before t ≡ changed t)
        → ((t : Tables) → IsTaken change fits old.now t → room t)
        → Outcome old new result change fits room changed
    ends_raised result merchant day more write never room changed come short same rooms =
        record {
          changes = record {
            done = λ clean began t i fit.
                let it = so_far.leads (clean_before so_far write clean) t i.holds.runs
                (stands old began t i) in
                led began t i fit it.1 result (write.leads clean it.0.inside)
                (write.inside it.0.rows.schema clean it.0.inside) it.0.rows;
            based = based_after so_far write;
            stop = stops so_far write;
          };
          fails = write_fails result write (HasRuns (TakesMore merchant day more)) never
              (λ t taken rows. (
                before t,
                taken.holds.runs,
                takes_more taken (before t) merchant day more (come t (rooms t taken))
                    (short t (rooms t taken)),
                rows,
              ));
        }
      where
        led : (began t : Tables) (i : IsIn old began t) → room t → mid.committed ≡ old.committed
            → (r : Result (Unit {0}) Error) → OnOk r (Raises merchant day more mid.now new.now)
            → OnOk r (Shows mid new new.now mid.committed true)
            → HoldsRows mid.now (before t) i.holds.runs → OnOk r (IsIn new began (changed t))
        led began t i fit kept (Err e) leads shown rows = tt
        led began t i fit kept (Ok done) leads shown rows =
            let h = i.holds in
            let tallied = more_tallied t (before t) h.runs merchant day more (come t fit)
            h.tallied in
            let all = short t fit h.short in
            subst (IsIn new began) (same t fit) (record {
              is_open = shown.is_open;
              inside = shown.mode;
              committed = subst (λ d. Holds d began) (sym (shown.committed_is ∙ kept)) i.committed;
              holds = record {
                runs = raised merchant day more h.runs;
                rows = leads (before t) h.runs rows
                    (has_room (before t) h.runs merchant day more tallied all);
                tallied = tallied;
                short = all;
              };
            })
