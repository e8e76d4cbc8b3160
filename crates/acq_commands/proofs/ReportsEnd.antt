-- Reports behind the events of a text, by how these ended.
use Rattle.std.proofs.Common.{◌≡◌, ◌==◌, ◌+◌, ◌++◌, List, [], ◌∷◌, ℕ, Option, Some, None, length}
use Rattle.std.proofs.Common.{◌∙◌, true, inl, inr, refl, ap, subst, sym, arith}
use Rattle.std.proofs.lemmas.List.{nil_from_length}
use Rattle.std.specs.Prelude.{Result, Ok, Err, IfErr, OnErr, OnOk, String}
use Rattle.std.specs.declared.alloc.Global.{Global}
use Rattle.acq_book.specs.declared.book.Book.{Ghosts}
use Rattle.acq_core.specs.declared.event.Event.{Event}
use Rattle.acq_core.specs.Tables.{Opening, Tables, new_tables}
use Rattle.acq_host.specs.Runs.{after_first}
use Rattle.acq_front.specs.Stops.{Left, left_of, open_at}
use Rattle.acq_out.specs.EventLines.{events_of_text}
use Rattle.acq_reports.specs.declared.report_fault.ReportFault.{ReportFault}
use Rattle.acq_faults.specs.declared.day_report.DayReport.{DayReport}
use Rattle.acq_faults.specs.declared.fault.Fault.{Fault}
use Rattle.acq_faults.specs.declared.fault.Fault.TheVariants as fault
use Rattle.acq_commands.specs.DayReports.{StopsTaking, Takes, TakesSome, WritesReports, told}
use Rattle.acq_faults.specs.Faults.{IsReporting, failed_reads, failed_writes}
use Rattle.acq_commands.specs.Replay.{Replays, Stops}
use Rattle.acq_commands.specs.Runs.{EndsWithReports, RunsIn}
use Rattle.acq_commands.specs.Streams.{Course, Stream}
use Rattle.acq_commands.proofs.FaultsTold.{report_unread}

pub empty_is : {X : Type 0} (xs : List X) → (length xs == 0) ≡ true → xs ≡ []
empty_is xs h = nil_from_length xs (grind (arith, h))

-- over any book
pub ends_with_reports : {S : Type 0} (it : Ghosts S) (group : ℕ) (a b c : S)
    (reports : List DayReport) (text : List ℕ) (sent : Stream)
    (taken ended : Result (Unit {0}) Fault)
    → Takes (record { left = left_of it; group = group; old = a; new = b }) text taken
    → IfErr taken (λ cause. (ended ≡ Err cause) × (sent.after ≡ sent.before))
    → OnErr taken (c ≡ b) → OnOk taken (it.is_open b)
    → OnOk taken (it.is_honest c → it.is_open b →
    (written : Result (Unit {0}) ReportFault) × (ended ≡ told written)
    × WritesReports (it.tables b) reports sent.before sent.after written)
    → it.is_honest c
    → EndsWithReports (record { left = left_of it; group = group; old = a; new = c }) reports text
    sent ended
ends_with_reports it group a b c reports text sent (Ok u) ended takes stopped same opened written
    h =
    let so = written h opened in
    inr (
      so.0,
      so.1,
      record {
        events = takes.events;
        spelled = takes.spelled;
        writes = subst (λ (t : Tables). WritesReports t reports sent.before sent.after so.0)
            takes.leads so.2;
      },
    )
ends_with_reports it group a b c reports text sent (Err cause) ended takes stopped same opened
    written h =
    inl (
      cause,
      stopped.0,
      subst (λ s. StopsTaking
          (record { left = left_of it; group = group; old = a; new = s }) text cause) (sym same)
          takes,
      stopped.1,
    )

-- ---- what was read and written

-- reports read nothing
pub reads_behind : (Unwritten : Type 0) (taken ended : Result (Unit {0}) Fault) (old new : ℕ)
    → new ≡ old + failed_reads taken
    → IfErr taken (λ cause. (ended ≡ Err cause) × Unwritten)
    → OnOk taken (IfErr ended IsReporting) → new ≡ old + failed_reads ended
reads_behind U (Ok u) (Ok v) old new reads stopped fault = reads
reads_behind U (Ok u) (Err f) old new reads stopped fault =
    let none = report_unread f fault in omega (arith, reads, none)
reads_behind U (Err cause) ended old new reads stopped fault =
    subst (λ r. new ≡ old + failed_reads r) (sym stopped.0) reads

-- events write nothing
pub writes_behind : (Unwritten : Type 0) (taken ended : Result (Unit {0}) Fault) (old new : ℕ)
    → IfErr taken (λ cause. (ended ≡ Err cause) × Unwritten) → failed_writes taken ≡ 0
    → OnErr taken (new ≡ old) → OnOk taken (new ≡ old + failed_writes ended)
    → new ≡ old + failed_writes ended
writes_behind U (Ok u) ended old new stopped none same wrote = wrote
writes_behind U (Err cause) ended old new stopped none same wrote =
    subst (λ r. new ≡ old + failed_writes r) (sym stopped.0) (omega (arith, same, none))

-- ---- over a new book in memory

-- Of a book in memory nothing is left but its tables; where it isn't open any more, those after the
-- events that it took.
module _ {S : Type 0} (left : S → Left) (group : ℕ) (old new : S) where
  abbrev it : Course S
  it = record { left = left; group = group; old = old; new = new }

  abbrev at : Tables → Course Tables
  at book = record { left = open_at; group = group; old = (left old).tables; new = book }

  stops_at : (events : List Event) (sent : Stream) (cause : Fault) → Stops it events sent cause
      → (book : Tables) × Stops (at book) events sent cause
  stops_at events sent cause stops = (
    after_first stops.taken (left old).tables events,
    record {
      taken = stops.taken;
      written = stops.written;
      part = stops.part;
      lines_sent = stops.lines_sent;
      in_hand = stops.in_hand;
      within = stops.within;
      whole = stops.whole;
      next = stops.next;
      leads = λ o. refl;
      stop = record { tables = λ t same. inl same; stored = tt };
    },
  )

  -- its events were stopped there
  stops_text : (text : List ℕ) (sent : Stream) (cause : Fault)
      → (events : List Event) × (events_of_text text ≡ Ok events) × Stops it events sent cause
      → (book : Tables) × ((events : List Event) × (events_of_text text ≡ Ok events)
      × Stops (at book) events sent cause)
  stops_text text sent cause stopped =
      let so = stops_at stopped.0 sent cause stopped.2 in
      (so.0, (stopped.0, stopped.1, so.1))

  replays_at : (text : List ℕ) (sent : Stream) (ended : Result (Unit {0}) Fault)
      → Replays it text sent ended → (book : Tables) × Replays (at book) text sent ended
  replays_at text sent (Ok u) all = (
    (left new).tables,
    record {
      events = all.events;
      spelled = all.spelled;
      lines_sent = all.lines_sent;
      leads = all.leads;
      stop = record { tables = λ t same. same ∙ all.leads; stored = tt };
    },
  )
  replays_at text sent (Err (fault.BadLine n)) h = ((left old).tables, (h.0, refl, h.2))
  replays_at text sent (Err fault.Read) h = ((left old).tables, (refl, h.1))
  replays_at text sent (Err fault.Memory) (inl h) = ((left old).tables, inl (refl, h.1))
  replays_at text sent (Err fault.Memory) (inr h) =
      let so = stops_text text sent fault.Memory h in (so.0, inr so.1)
  replays_at text sent (Err fault.Store) h = stops_text text sent fault.Store h
  replays_at text sent (Err (fault.Write n)) h = stops_text text sent (fault.Write n) h
  replays_at text sent (Err cause) h = absurd h

  some_at : (text : List ℕ) → TakesSome it text → (book : Tables) × TakesSome (at book) text
  some_at text some = (
    after_first some.first.taken (left old).tables some.events,
    record {
      events = some.events;
      spelled = some.spelled;
      first = record {
        taken = some.first.taken;
        in_hand = some.first.in_hand;
        whole = some.first.whole;
        leads = λ o. refl;
        stop = record { tables = λ t same. inl same; stored = tt };
      };
    },
  )

  stops_taking_at : (text : List ℕ) (cause : Fault) → StopsTaking it text cause
      → (book : Tables) × StopsTaking (at book) text cause
  stops_taking_at text (fault.BadLine n) h = ((left old).tables, (h.0, refl))
  stops_taking_at text fault.Read h = ((left old).tables, refl)
  stops_taking_at text fault.Memory (inl h) = ((left old).tables, inl refl)
  stops_taking_at text fault.Memory (inr h) = let so = some_at text h in (so.0, inr so.1)
  stops_taking_at text fault.Store h = some_at text h
  stops_taking_at text cause h = absurd h

  ends_at : (reports : List DayReport) (text : List ℕ) (sent : Stream)
      (ended : Result (Unit {0}) Fault) → EndsWithReports it reports text sent ended
      → (book : Tables) × EndsWithReports (at book) reports text sent ended
  ends_at reports text sent ended (inl h) =
      let so = stops_taking_at text h.0 h.2 in (so.0, inl (h.0, h.1, so.1, h.3))
  ends_at reports text sent ended (inr h) = ((left old).tables, inr h)

nonempty : {X : Type 0} (x : X) (xs : List X) → x ∷ xs ≡ [] → ⊥
nonempty x xs none = let none_long = ap length none in omega (arith, none_long)

-- lines or reports, as they are asked for
pub runs_either : {S : Type 0} (left : S → Left) (group : ℕ) (opening : Opening)
    (path : Option (String Global)) (reports : List DayReport) (old new : S)
    (received sent : Stream) (ended : Result (Unit {0}) Fault)
    → (left old).tables ≡ new_tables opening
    → (reports ≡ [] → (text : List ℕ) × (received.after ≡ received.before ++ text)
    × Replays (record { left = left; group = group; old = old; new = new }) text sent ended)
    → ((reports ≡ [] → ⊥) → (text : List ℕ) × (received.after ≡ received.before ++ text)
    × EndsWithReports (record { left = left; group = group; old = old; new = new }) reports text
    sent ended)
    → RunsIn path opening group reports received sent ended
runs_either left group opening (Some path) reports old new received sent ended is lines behind = tt
runs_either left group opening None [] old new received sent ended is lines behind =
    let so = lines refl in
    let in_memory = replays_at left group old new so.0 sent ended so.2 in (
      so.0,
      in_memory.0,
      so.1,
      subst (λ (t : Tables). Replays
          (record { left = open_at; group = group; old = t; new = in_memory.0 }) so.0 sent ended)
          is in_memory.1,
    )
runs_either left group opening None (r ∷ rs) old new received sent ended is lines behind =
    let so = behind (λ none. nonempty r rs none) in
    let in_memory = ends_at left group old new (r ∷ rs) so.0 sent ended so.2 in (
      so.0,
      in_memory.0,
      so.1,
      subst (λ (t : Tables). EndsWithReports
          (record { left = open_at; group = group; old = t; new = in_memory.0 }) (r ∷ rs) so.0
          sent ended)
          is in_memory.1,
    )
