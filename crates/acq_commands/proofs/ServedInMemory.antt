-- How a connection was served over a book in memory, of which nothing is left but its tables; where
-- it isn't open any more, those after the events that it took.
use Rattle.std.proofs.Common.{◌≡◌, ℕ, Result, Ok, Err, inl, refl, subst, ◌∙◌}
use Rattle.acq_core.specs.Tables.{Tables, tables_after}
use Rattle.acq_front.specs.declared.front_fault.FrontFault as fault
use Rattle.acq_front.specs.Stops.{Left, open_at}
use Rattle.acq_front.specs.Talk.{Saying}
use Rattle.acq_serving.specs.Serving.{AllAnswered, Connection, CutsLast, LeavesOff, Serves}
use Rattle.acq_faults.specs.declared.fault.Fault.{Fault}
use Rattle.acq_commands.specs.Once.{ServesOnce}
use Rattle.acq_commands.specs.Streams.{Stream}

module _ (may_say : Saying) (old : Tables) (left : Left) (c : Connection) where
  all_at : AllAnswered may_say old left c → AllAnswered may_say old (open_at left.tables) c
  all_at a = record {
    came = a.came;
    tables = a.tables;
    said = a.said;
    written = a.written;
    stop = record { tables = λ t same. same ∙ a.tables; stored = tt };
  }

  off_at : LeavesOff may_say old left c →
      (book : Tables) × LeavesOff may_say old (open_at book) c
  off_at a = (
    tables_after old a.events,
    record {
      came = a.came;
      read = a.read;
      events = a.events;
      missing = a.missing;
      at_most_one = a.at_most_one;
      all = a.all;
      tables = λ o. refl;
      said = a.said;
      written = a.written;
      in_hand = a.in_hand;
      which = a.which;
      stop = record { tables = λ t same. inl same; stored = tt };
    },
  )

  cuts_at : (n : ℕ) → CutsLast may_say old left c n →
      CutsLast may_say old (open_at left.tables) c n
  cuts_at n a = record {
    came = a.came;
    read = a.read;
    tables = a.tables;
    said = a.said;
    earlier = a.earlier;
    last = a.last;
    replied = a.replied;
    short = a.short;
    written = a.written;
    stop = record { tables = λ t same. same ∙ a.tables; stored = tt };
  }

  serves_at : (r : Result (Unit {0}) fault.FrontFault) → Serves may_say old left c r →
      (book : Tables) × Serves may_say old (open_at book) c r
  serves_at (Ok u) a = (left.tables, (all_at a.0, a.1, a.2))
  serves_at (Err fault.TheVariants.Memory) a = off_at a
  serves_at (Err fault.TheVariants.Store) a = off_at a
  serves_at (Err fault.TheVariants.BadLength) a = (left.tables, (all_at a.0, a.1, a.2))
  serves_at (Err fault.TheVariants.Ended) a = (left.tables, (all_at a.0, a.1, a.2))
  serves_at (Err (fault.TheVariants.Undecodable u)) a = (left.tables, (all_at a.0, a.1))
  serves_at (Err fault.TheVariants.Read) a = (left.tables, (all_at a.0, a.1, a.2))
  serves_at (Err (fault.TheVariants.Write n)) a = (left.tables, cuts_at n a)

pub served_at : (may_give : ℕ → Type 0) (may_say : Saying) (left : Left) (old began : Tables)
    (received sent : Stream) (ended : Result (Unit {0}) Fault) → old ≡ began →
    ServesOnce may_give may_say old left received sent ended →
    (book : Tables) × ServesOnce may_give may_say began (open_at book) received sent ended
served_at may_give may_say left old began received sent ended is s =
    let so = serves_at may_say old left s.0 s.1 s.5 in (
      so.0,
      subst (λ (t : Tables). ServesOnce may_give may_say t (open_at so.0) received sent ended) is
          (s.0, s.1, s.2, s.3, s.4, so.1, s.6),
    )
