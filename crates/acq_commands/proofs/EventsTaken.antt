-- What a stop leaves of events that were taken one after the other.
use Rattle.std.proofs.Common.{◌≡◌, ◌⊎◌, ℕ, ◌+◌, ◌≤◌, Bool, List, [], length, take}
use Rattle.std.proofs.Common.{Result, Ok, Err, inl, inr, ⊎_elim, refl, sym, ap, subst, ◌∙◌, arith}
use Rattle.std.proofs.lemmas.List.{take_all}
use Rattle.std.specs.Prelude.{IfErr}
use Rattle.acq_core.specs.declared.event.Event.{Event}
use Rattle.acq_core.specs.declared.output.Output.{Output}
use Rattle.acq_core.specs.Tables.{tables_after}
use Rattle.acq_book.specs.declared.book.Book.{Ghosts}
use Rattle.acq_book.specs.Calls.{Looks}
use Rattle.acq_host.specs.Runs.{after_first}
use Rattle.acq_host.proofs.Runs.{HasTaken, LeavesTables}
use Rattle.acq_front.specs.Stops.{left_of, LeavesAll, StopLeaves}
use Rattle.acq_out.specs.EventLines.{events_of_text}
use Rattle.acq_commands.specs.DayReports.{Takes, TakesSome}
use Rattle.acq_commands.specs.Replay.{IsUntaken, Replays, Stops, TakesUpTo}
use Rattle.acq_commands.specs.Streams.{Course, Stream}
use Rattle.acq_faults.specs.declared.fault.Fault as fault

module _ {S : Type 0} (book : Ghosts S) (settled : LeavesTables book) where
  -- all of them were
  pub all_stop : ((s : S) → book.is_open s → book.leaves_books s) → (a b : S)
      (events : List Event) (at : ℕ) (said : List Output) → length events ≤ at →
      HasTaken book a b (take at events) said → book.is_honest b → book.is_open a →
      LeavesAll (left_of book b) (book.tables a) events
  all_stop stored a b events at said all took honest opened =
      let still = took.stays_open honest opened in
      record {
        tables = λ t l. settled b still t l
            ∙ (took.leads honest opened
            ∙ ap (tables_after (book.tables a)) (take_all at events all));
        stored = stored b still;
      }

-- ---- of a text

module _ {S : Type 0} (book : Ghosts S) (settled : LeavesTables book)
    (stored : (s : S) → book.is_open s → book.leaves_books s) (group : ℕ) (a c : S)
    (text : List ℕ) where
  abbrev it : Course S
  it = record { left = left_of book; group = group; old = a; new = c }

  -- none was taken
  up_to_none : (r : Result (Unit {0}) fault.Fault) → IsUntaken text r → book.is_open a → c ≡ a →
      TakesUpTo it text r
  up_to_none r untaken opened same = record {
    events = [];
    spelled = inr (refl, untaken);
    taken = 0;
    whole = inr refl;
    leads = λ o. ap book.tables same;
    stop = subst (λ (s : S). StopLeaves (left_of book s)
        (λ t. (t ≡ book.tables a) ⊎ (t ≡ after_first (0 + group) (book.tables a) []))) (sym same)
        (record { tables = λ t l. inl (settled a opened t l); stored = stored a opened });
  }

  up_to_all : (events : List Event) → events_of_text text ≡ Ok events →
      book.tables c ≡ tables_after (book.tables a) events →
      LeavesAll (left_of book c) (book.tables a) events → TakesUpTo it text (Ok tt)
  up_to_all events spelled led stop =
      let whole = take_all (length events) events (omega arith) in
      let at = ap (tables_after (book.tables a)) (sym whole) in
      record {
        events = events;
        spelled = inl spelled;
        taken = length events;
        whole = inr refl;
        leads = λ o. led ∙ at;
        stop = record { tables = λ t l. inl (stop.tables t l ∙ at); stored = stop.stored };
      }

  up_to_some : (r : Result (Unit {0}) fault.Fault) → TakesSome it text → TakesUpTo it text r
  up_to_some r some = record {
    events = some.events;
    spelled = inl some.spelled;
    taken = some.first.taken;
    whole = some.first.whole;
    leads = some.first.leads;
    stop = some.first.stop;
  }

  -- the lines of a text were replayed
  up_to_stop : (sent : Stream) (f : fault.Fault) (events : List Event) →
      events_of_text text ≡ Ok events → Stops it events sent f → TakesUpTo it text (Err f)
  up_to_stop sent f events spelled stops = record {
    events = events;
    spelled = inl spelled;
    taken = stops.taken;
    whole = stops.whole;
    leads = stops.leads;
    stop = record {
      tables = λ t l. ⊎_elim inl (λ next. inr next.1) (stops.stop.tables t l);
      stored = stops.stop.stored;
    };
  }

  pub replayed_up_to : book.is_open a → (sent : Stream) (r : Result (Unit {0}) fault.Fault) →
      Replays it text sent r → TakesUpTo it text r
  replayed_up_to opened sent (Ok u) all = up_to_all all.events all.spelled all.leads all.stop
  replayed_up_to opened sent (Err (fault.TheVariants.BadLine n)) h =
      up_to_none (Err (fault.TheVariants.BadLine n)) h.0 opened h.1
  replayed_up_to opened sent (Err fault.TheVariants.Read) h =
      up_to_none (Err fault.TheVariants.Read) tt opened h.0
  replayed_up_to opened sent (Err fault.TheVariants.Memory) (inl h) =
      up_to_none (Err fault.TheVariants.Memory) tt opened h.0
  replayed_up_to opened sent (Err fault.TheVariants.Memory) (inr h) =
      up_to_stop sent fault.TheVariants.Memory h.0 h.1 h.2
  replayed_up_to opened sent (Err fault.TheVariants.Store) h =
      up_to_stop sent fault.TheVariants.Store h.0 h.1 h.2
  replayed_up_to opened sent (Err (fault.TheVariants.Write n)) h =
      up_to_stop sent (fault.TheVariants.Write n) h.0 h.1 h.2
  replayed_up_to opened sent (Err f) h = absurd h

  -- its events were taken
  pub taken_up_to : book.is_open a → (r : Result (Unit {0}) fault.Fault) →
      Takes it text r → TakesUpTo it text r
  taken_up_to opened (Ok u) all = up_to_all all.events all.spelled all.leads all.stop
  taken_up_to opened (Err (fault.TheVariants.BadLine n)) h =
      up_to_none (Err (fault.TheVariants.BadLine n)) h.0 opened h.1
  taken_up_to opened (Err fault.TheVariants.Read) h =
      up_to_none (Err fault.TheVariants.Read) tt opened h
  taken_up_to opened (Err fault.TheVariants.Memory) (inl h) =
      up_to_none (Err fault.TheVariants.Memory) tt opened h
  taken_up_to opened (Err fault.TheVariants.Memory) (inr h) =
      up_to_some (Err fault.TheVariants.Memory) h
  taken_up_to opened (Err fault.TheVariants.Store) h = up_to_some (Err fault.TheVariants.Store) h
  taken_up_to opened (Err f) h = absurd h

  -- what was read is so by an end that is that of the reading, where this failed
  spelled_on : (events : List Event) (taken ended : Result (Unit {0}) fault.Fault)
      (more : fault.Fault → Type 0) → IfErr taken (λ cause. (ended ≡ Err cause) × more cause) →
      (events_of_text text ≡ Ok events) ⊎ ((events ≡ []) × IsUntaken text taken) →
      (events_of_text text ≡ Ok events) ⊎ ((events ≡ []) × IsUntaken text ended)
  spelled_on events taken ended more stopped (inl is) = inl is
  spelled_on events (Ok u) ended more stopped (inr none) = absurd none.1
  spelled_on events (Err f) ended more stopped (inr none) =
      inr (none.0, subst (IsUntaken text) (sym stopped.0) none.1)

  -- and then it was looked at
  pub looked_up_to : (d : S) (succeeded : Bool) (taken ended : Result (Unit {0}) fault.Fault)
      (more : fault.Fault → Type 0) → IfErr taken (λ cause. (ended ≡ Err cause) × more cause) →
      book.is_honest d → Looks book c d succeeded → TakesUpTo it text taken →
      TakesUpTo (record { left = left_of book; group = group; old = a; new = d }) text ended
  looked_up_to d succeeded taken ended more stopped honest looks up = record {
    events = up.events;
    spelled = spelled_on up.events taken ended more stopped up.spelled;
    taken = up.taken;
    whole = up.whole;
    leads = λ o. looks.same o ∙ up.leads (looks.was_open o);
    stop = record {
      tables = λ t l. up.stop.tables t (looks.leaves honest t l);
      stored = looks.books honest up.stop.stored;
    };
  }
