-- What goes out of a report.
use Rattle.std.specs.Prelude.{◌≡◌, ◌⊎◌, ℕ, ◌+◌, ◌<◌, ◌≤◌, Bool, true, false, List, [], ◌++◌, take}
use Rattle.std.specs.Prelude.{length, Option, Some, None, Result, Ok, Err}
use Rattle.acq_book.specs.declared.book_fault.BookFault.{BookFault}
use Rattle.acq_reports.specs.Faults.{of_book, failed_writes}
use Rattle.acq_reports.specs.declared.report.Report.{Report}
use Rattle.acq_reports.specs.declared.stop.Stop.{Stop}
use Rattle.acq_reports.specs.declared.stop.Stop.TheVariants as stop
use Rattle.acq_reports.specs.declared.report_fault.ReportFault.{ReportFault}
use Rattle.acq_reports.specs.declared.report_fault.ReportFault.TheVariants.{Memory, Store}
use Rattle.acq_reports.specs.declared.report_fault.ReportFault.TheVariants.{NoSuchMerchant, Write}
use Rattle.acq_reports.specs.declared.report_fault.ReportFault.TheVariants.{DayNotOver}
use Rattle.acq_reports.specs.declared.report_fault.ReportFault.TheVariants.{StillPending}

-- ---- a whole report

-- the text, where nothing is refused
abbrev pub text_unless : Option ReportFault → List ℕ → List ℕ
text_unless None text = text
text_unless (Some fault) text = []

-- a beginning of a text went out
abbrev pub Begins : List ℕ → List ℕ → List ℕ → Type 0
Begins text old new = (n : ℕ) × (new ≡ old ++ take n text)

-- what was asked for is refused just so, and nothing went out
abbrev pub Refuses : Option ReportFault → ReportFault → List ℕ → List ℕ → Type 0
Refuses refusal fault old new = (refusal ≡ Some fault) × (new ≡ old)

-- What of a text went out, by the result. With Ok the whole of it did, and with Write its first n
-- bytes; both only where nothing is to be refused. What is refused is refused before anything goes
-- out. Memory and the store may fail at any time, and a beginning of the text may be out then.
abbrev pub Reports : {T : Type 0} → Option ReportFault → List ℕ → List ℕ → List ℕ
    → Result T ReportFault → Type 0
Reports refusal text old new (Ok x) = (refusal ≡ None) × (new ≡ old ++ text)
Reports refusal text old new (Err Memory) = Begins (text_unless refusal text) old new
Reports refusal text old new (Err Store) = Begins (text_unless refusal text) old new
Reports refusal text old new (Err (Write n)) =
    (refusal ≡ None) × (n < length text) × (new ≡ old ++ take n text)
Reports refusal text old new (Err NoSuchMerchant) = Refuses refusal NoSuchMerchant old new
Reports refusal text old new (Err DayNotOver) = Refuses refusal DayNotOver old new
Reports refusal text old new (Err (StillPending n)) = Refuses refusal (StillPending n) old new

-- what of a text went out, of which nothing is refused; and a write that failed is told
abbrev pub Writes : {K : Type 0} → (K → List ℕ) → (K → ℕ) → List ℕ → K → K
    → Result (Unit {0}) ReportFault → Type 0
Writes sent failures text old new result =
    Reports None text (sent old) (sent new) result
    × (failures new ≡ failures old + failed_writes result)

-- Whether something is refused was looked up, if neither memory nor the store failed.
abbrev pub Allows : Option ReportFault → Result (Unit {0}) ReportFault → Type 0
Allows refusal (Ok u) = refusal ≡ None
Allows refusal (Err Memory) = Unit {0}
Allows refusal (Err Store) = Unit {0}
Allows refusal (Err (Write n)) = ⊥
Allows refusal (Err NoSuchMerchant) = refusal ≡ Some NoSuchMerchant
Allows refusal (Err DayNotOver) = refusal ≡ Some DayNotOver
Allows refusal (Err (StillPending n)) = refusal ≡ Some (StillPending n)

-- ---- a report in writing. `sent` and `failures` are those of what it is written to.

-- A text went out, or is held behind what was held: what went out meanwhile is a beginning of both,
-- and what is held now is the rest.
pub record WentOut {K : Type 0} (sent : K → List ℕ) (failures : K → ℕ) (text : List ℕ)
    (old new : Report K) : Type 0 where
  pub same_writer : new.writer.ghost_name ≡ old.writer.ghost_name
  pub stop : new.stop ≡ old.stop
  pub gone : List ℕ
  pub out : sent new.writer.now ≡ sent old.writer.now ++ gone
  pub held : gone ++ new.held ≡ old.held ++ text
  pub written : new.written ≡ old.written + length gone
  pub failed : failures new.writer.now ≡ failures old.writer.now

-- so many bytes of what was held and a text behind it went out, and then memory ran out or a write
-- failed
pub record StoppedAfter {K : Type 0} (sent : K → List ℕ) (failures : K → ℕ) (text : List ℕ)
    (old new : Report K) (n : ℕ) : Type 0 where
  pub same_writer : new.writer.ghost_name ≡ old.writer.ghost_name
  pub within : n ≤ length (old.held ++ text)
  pub out : sent new.writer.now ≡ sent old.writer.now ++ take n (old.held ++ text)
  pub why :
      ((new.stop ≡ Some stop.Memory) × (failures new.writer.now ≡ failures old.writer.now))
      ⊎ ((new.stop ≡ Some (stop.Write (old.written + n)))
      × (n < length (old.held ++ text))
      × (failures new.writer.now ≡ failures old.writer.now + 1))

-- by the end of a walk a text went out or is held, or not all of it; where the book failed, some of
-- it went out
abbrev pub PutsReport : {K : Type 0} → (K → List ℕ) → (K → ℕ) → List ℕ → Report K → Report K
    → Result (Unit {0}) BookFault → Type 0
PutsReport sent failures text old new (Ok u) =
    WentOut sent failures text old new ⊎ ((n : ℕ) × StoppedAfter sent failures text old new n)
PutsReport sent failures text old new (Err f) =
    (new.writer.ghost_name ≡ old.writer.ghost_name)
    × Begins (old.held ++ text) (sent old.writer.now) (sent new.writer.now)
    × (failures new.writer.now ≡ failures old.writer.now)

-- ---- how it ends

abbrev pub fault_of : Stop → ReportFault
fault_of stop.Memory = Memory
fault_of (stop.Write n) = Write n

-- the result of a report after a walk
abbrev pub end_of : Result (Unit {0}) BookFault → Option Stop → Result (Unit {0}) ReportFault
end_of (Err fault) stop = Err (of_book fault)
end_of (Ok u) None = Ok u
end_of (Ok u) (Some stop) = Err (fault_of stop)

-- A text went out or is held, so that more may follow, or not all of it, so that none may.
abbrev pub Puts : {K : Type 0} → (K → List ℕ) → (K → ℕ) → List ℕ → Report K → Bool → Report K
    → Type 0
Puts sent failures text old true new = WentOut sent failures text old new
Puts sent failures text old false new =
    (n : ℕ) × StoppedAfter sent failures text old new n

-- the same of lines, after which there is something more
abbrev pub PutsLines : {K : Type 0} → (K → List ℕ) → (K → ℕ) → List ℕ → Report K → Report K
    → Result Bool BookFault → Type 0
PutsLines sent failures text old new (Ok more) = Puts sent failures text old more new
PutsLines sent failures text old new (Err f) = PutsReport sent failures text old new (Err f)

-- what is held goes out at the end, or not all of it, where the walk succeeded and nothing stopped
-- the report before; else nothing more does
abbrev pub Settles : {K : Type 0} → (K → List ℕ) → (K → ℕ) → Result (Unit {0}) BookFault
    → Option Stop → Report K → Report K → Type 0
Settles sent failures (Ok u) None old new =
    (WentOut sent failures [] old new × (new.held ≡ []))
    ⊎ ((n : ℕ) × StoppedAfter sent failures [] old new n)
Settles sent failures (Ok u) (Some stop) old new = new ≡ old
Settles sent failures (Err f) stop old new = new ≡ old

-- nothing was put yet
abbrev pub IsFresh : {K : Type 0} → Report K → Type 0
IsFresh report = (report.written ≡ 0) × (report.held ≡ [])

-- how a report ends after a walk that ended so; and what that is of one text that was put alone
pub record Ends {K : Type 0} (sent : K → List ℕ) (failures : K → ℕ)
    (walked : Result (Unit {0}) BookFault) (old : Report K) (result : Result (Unit {0}) ReportFault)
    (new : Report K) : Type 0 where
  pub tells : result ≡ end_of walked new.stop
  pub settles : Settles sent failures walked old.stop old new
  pub alone : (text : List ℕ) (start : Report K) (first last : K) (more : Bool)
      → walked ≡ Ok tt → IsFresh start → start.stop ≡ None → start.writer.now ≡ first
      → (start.writer.ghost_name ≡ new.writer.ghost_name → last ≡ new.writer.now)
      → Puts sent failures text start more old → Writes sent failures text first last result
