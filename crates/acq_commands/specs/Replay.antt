-- Event lines in, output lines out, over any book.
use Rattle.std.specs.Prelude.{◌≡◌, ◌⊎◌, ℕ, ◌+◌, ◌<◌, ◌≤◌, List, [], ◌++◌, length, take}
use Rattle.std.specs.Prelude.{slice_get}
use Rattle.std.specs.Prelude.{Some, Result, Ok, Err}
use Rattle.std.specs.List.{flat_map}
use Rattle.acq_core.specs.declared.event.Event.{Event}
use Rattle.acq_core.specs.declared.output.Output.{Output}
use Rattle.acq_core.specs.Tables.{Tables, outputs, tables_after}
use Rattle.acq_host.specs.Runs.{after_first}
use Rattle.acq_out.specs.EventLines.{events_of_text}
use Rattle.acq_out.specs.OutputLines.{WritesLine, line_of}
use Rattle.acq_out.specs.declared.out_fault.OutFault.{OutFault}
use Rattle.acq_front.specs.Stops.{LeavesAll, StopLeaves}
use Rattle.acq_commands.specs.Groups.{AreWhole}
use Rattle.acq_commands.specs.Streams.{Course, Stream, left_after, tables_before}
use Rattle.acq_faults.specs.declared.fault.Fault as fault

-- the lines of what the host says to events
abbrev pub lines : Tables → List Event → List ℕ
lines t events = flat_map line_of (outputs t events)

-- Some first outputs' lines went out behind other bytes, and of the next what this fault lets out.
pub record StopsLines (said : List Output) (sent sent_after : List ℕ) (cause : OutFault)
    : Type 0 where
  pub written : ℕ
  pub output : Output
  pub in_hand : slice_get said written ≡ Some output
  pub line : WritesLine output (sent ++ flat_map line_of (take written said)) sent_after (Err cause)

-- the first n bytes of the line of the output at a place, fewer than all
abbrev pub BeginsLine : List Output → ℕ → ℕ → List ℕ → Type 0
BeginsLine said at n part =
    (output : Output) × (slice_get said at ≡ Some output)
    × (n < length (line_of output)) × (part ≡ take n (line_of output))

-- How far the group in hand came, by the fault. Where the store failed, it was not taken; where a
-- write failed, it was taken, and some of its lines went out, and so many first bytes of the next;
-- for want of memory it was taken or not, and some of its lines went out, or none.
abbrev pub Reaches : (group : ℕ) → List Output → (taken written : ℕ) → List ℕ → fault.Fault → Type 0
Reaches group said taken written part fault.TheVariants.Memory =
    (written ≤ taken) × (taken ≤ written + group) × (part ≡ [])
Reaches group said taken written part fault.TheVariants.Store = (taken ≡ written) × (part ≡ [])
Reaches group said taken written part (fault.TheVariants.Write n) =
    (written < taken) × (taken ≤ written + group) × BeginsLine said written n part
Reaches group said taken written part other = ⊥

-- All events of a text were taken, and a stop leaves them; and their lines were written.
pub record ReplaysAll {S : Type 0} (book : Course S) (text : List ℕ) (sent : Stream) : Type 0 where
  pub events : List Event
  pub spelled : events_of_text text ≡ Ok events
  pub lines_sent : sent.after ≡ sent.before ++ lines (tables_before book) events
  pub leads : (left_after book).tables ≡ tables_after (tables_before book) events
  pub stop : LeavesAll (left_after book) (tables_before book) events

-- So many first events were taken, in whole groups, and so many lines written whole, with a part of
-- the next; and a group was in hand. A stop leaves the events that were taken, or these and the
-- group in hand, where it wasn't: as many as a group has, or all that are left.
pub record Stops {S : Type 0} (book : Course S) (events : List Event) (sent : Stream)
    (cause : fault.Fault) : Type 0 where
  pub taken : ℕ
  pub written : ℕ
  pub part : List ℕ
  pub lines_sent :
      sent.after ≡ sent.before ++ (lines (tables_before book) (take written events) ++ part)
  pub in_hand : written < length events
  pub within : taken ≤ length events
  pub whole : AreWhole book.group taken events
  pub next :
      Reaches book.group (outputs (tables_before book) events) taken written part cause
  pub leads : (left_after book).is_open →
      (left_after book).tables ≡ after_first taken (tables_before book) events
  pub stop : StopLeaves (left_after book)
      (λ t. (t ≡ after_first taken (tables_before book) events)
      ⊎ ((taken ≡ written) × (t ≡ after_first (taken + book.group) (tables_before book) events)))

-- The faults that can stop the events of a text once they are read.
abbrev pub StopsEvents : fault.Fault → Type 0
StopsEvents fault.TheVariants.Memory = Unit {0}
StopsEvents fault.TheVariants.Store = Unit {0}
StopsEvents (fault.TheVariants.Write n) = Unit {0}
StopsEvents other = ⊥

-- Where a text's events were stopped, by the fault: a bad line, and a read that failed, before any
-- event was taken; want of memory perhaps then, too.
abbrev pub StopsAt : {S : Type 0} → Course S → List ℕ → Stream → fault.Fault → Type 0
StopsAt book text sent (fault.TheVariants.BadLine n) =
    (events_of_text text ≡ Err n) × (book.new ≡ book.old) × (sent.after ≡ sent.before)
StopsAt book text sent fault.TheVariants.Read =
    (book.new ≡ book.old) × (sent.after ≡ sent.before)
StopsAt book text sent fault.TheVariants.Memory =
    ((book.new ≡ book.old) × (sent.after ≡ sent.before))
    ⊎ ((events : List Event) × (events_of_text text ≡ Ok events)
    × Stops book events sent fault.TheVariants.Memory)
StopsAt book text sent fault.TheVariants.Store =
    (events : List Event) × (events_of_text text ≡ Ok events)
    × Stops book events sent fault.TheVariants.Store
StopsAt book text sent (fault.TheVariants.Write n) =
    (events : List Event) × (events_of_text text ≡ Ok events)
    × Stops book events sent (fault.TheVariants.Write n)
StopsAt book text sent other = ⊥

-- how the lines of a text were taken, and what went out
abbrev pub Replays : {S : Type 0} → Course S → List ℕ → Stream → Result (Unit {0}) fault.Fault
    → Type 0
Replays book text sent (Ok u) = ReplaysAll book text sent
Replays book text sent (Err f) = StopsAt book text sent f

-- said of each end but want of memory and a read that failed: the others come after the reading
abbrev pub AfterReading : Result (Unit {0}) fault.Fault → Type 0 → Type 0
AfterReading (Err fault.TheVariants.Memory) whole = Unit {0}
AfterReading (Err fault.TheVariants.Read) whole = Unit {0}
AfterReading other whole = whole

-- why no event of a text was taken: it reads as none, or memory or a read failed before it was read
abbrev pub IsUntaken : List ℕ → Result (Unit {0}) fault.Fault → Type 0
IsUntaken text (Err (fault.TheVariants.BadLine n)) = events_of_text text ≡ Err n
IsUntaken text (Err fault.TheVariants.Memory) = Unit {0}
IsUntaken text (Err fault.TheVariants.Read) = Unit {0}
IsUntaken text other = ⊥

-- The book took so many first events of a text, in whole groups, or none where it was not taken. A
-- stop leaves these, or these and the next group.
pub record TakesUpTo {S : Type 0} (book : Course S) (text : List ℕ)
    (ended : Result (Unit {0}) fault.Fault) : Type 0 where
  pub events : List Event
  pub spelled : (events_of_text text ≡ Ok events) ⊎ ((events ≡ []) × IsUntaken text ended)
  pub taken : ℕ
  pub whole : AreWhole book.group taken events
  pub leads : (left_after book).is_open →
      (left_after book).tables ≡ after_first taken (tables_before book) events
  pub stop : StopLeaves (left_after book)
      (λ t. (t ≡ after_first taken (tables_before book) events)
      ⊎ (t ≡ after_first (taken + book.group) (tables_before book) events))
