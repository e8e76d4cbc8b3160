-- What the faults of calls are, as a command tells them.
use Rattle.std.proofs.Common.{◌≡◌, ℕ, ◌+◌, ◌++◌, List, Option, Some, None, Err, refl, sym, ap}
use Rattle.std.proofs.Common.{◌∙◌, append-nil, arith, inl, inr, subst}
use Rattle.std.specs.Prelude.{IfErr, OnErr, OnOk, Ok, Result}
use Rattle.std.specs.Io.KnownBytes.{Consumes, IsAtEnd}
use Rattle.acq_book.specs.Promise.{CountsFault}
use Rattle.acq_book.specs.declared.book.Book.{Ghosts}
use Rattle.acq_book.specs.declared.book_fault.BookFault as book
use Rattle.acq_core.specs.declared.output.Output.{Output}
use Rattle.acq_front.specs.Faults as fronts
use Rattle.acq_front.specs.declared.front_fault.FrontFault as front
use Rattle.acq_link.specs.Moves.{TakesAll}
use Rattle.acq_link.specs.declared.hex_frames.hex_fault.HexFault as hex
use Rattle.acq_link.specs.declared.input_fault.InputFault as input
use Rattle.acq_out.specs.OutputLines.{WritesLine}
use Rattle.acq_out.specs.Reads.{ReadsEvents}
use Rattle.acq_out.specs.Faults as outs
use Rattle.acq_out.specs.declared.out_fault.OutFault as out
use Rattle.acq_reports.specs.Faults as reports
use Rattle.acq_reports.specs.declared.report_fault.ReportFault as report
use Rattle.acq_commands.specs.DayReports.{StopsTaking, TakesSome, told}
use Rattle.acq_faults.specs.Faults.{failed_reads, failed_writes, of_book, of_hex, of_input}
use Rattle.acq_faults.specs.Faults.{IsReporting}
use Rattle.acq_faults.specs.Faults.{of_out, CountsStore, TellsStore}
use Rattle.acq_faults.specs.Ends.{going_on}
use Rattle.acq_commands.specs.Once.{told_of}
use Rattle.acq_faults.proofs.ToldLater.{tells_later}
use Rattle.acq_commands.specs.Replay.{AfterReading, StopsAt, StopsEvents, StopsLines}
use Rattle.acq_commands.specs.Streams.{Course, Stream}
use Rattle.acq_faults.specs.declared.fault.Fault as fault

-- what holds whatever the end is said of each
pub any_end : (result : Result (Unit {0}) fault.Fault) (whole : Type 0) → whole →
    AfterReading result whole
any_end (Err fault.TheVariants.Memory) whole h = tt
any_end (Err fault.TheVariants.Read) whole h = tt
any_end result whole h = h

-- a source that was read to its end gave all of it
pub all_taken : (before after : Option (List ℕ)) (bytes old new : List ℕ) →
    Consumes before after bytes → IsAtEnd after → new ≡ old ++ bytes → TakesAll before old new
all_taken None after bytes old new came end is = tt
all_taken (Some xs) None bytes old new came end is = absurd came
all_taken (Some xs) (Some ys) bytes old new came end is =
    is ∙ ap (λ (rest : List ℕ). old ++ rest)
    (sym (came ∙ (ap (λ (rest : List ℕ). bytes ++ rest) end ∙ append-nil bytes)))

-- ---- a fault of the input

pub input_unread : (e : input.InputFault) (whole : Type 0) → AfterReading (Err (of_input e)) whole
input_unread input.TheVariants.Memory whole = tt
input_unread input.TheVariants.Read whole = tt

pub input_reads : (e : input.InputFault) (old new : ℕ) →
    (e ≡ input.TheVariants.Read → new ≡ old + 1) → (e ≡ input.TheVariants.Memory → new ≡ old) →
    new ≡ old + failed_reads (Err (of_input e))
input_reads input.TheVariants.Memory old new read memory =
    let same = memory refl in omega (arith, same)
input_reads input.TheVariants.Read old new read memory = read refl

pub input_unwritten : (e : input.InputFault) (n : ℕ) → n ≡ n + failed_writes (Err (of_input e))
input_unwritten input.TheVariants.Memory n = omega arith
input_unwritten input.TheVariants.Read n = omega arith

-- ---- a fault of lines in hexadecimal

pub hex_unread : (e : hex.HexFault) → failed_reads (Err (of_hex e)) ≡ 0
hex_unread hex.TheVariants.Memory = refl
hex_unread (hex.TheVariants.BadLine n) = refl

pub hex_unwritten : (e : hex.HexFault) (n : ℕ) → n ≡ n + failed_writes (Err (of_hex e))
hex_unwritten hex.TheVariants.Memory n = omega arith
hex_unwritten (hex.TheVariants.BadLine n) m = omega arith

-- ---- a fault of the reading of event lines

pub events_whole : (text : List ℕ) (e : out.OutFault) (whole : Type 0) →
    ReadsEvents text (Err e) → ((n : ℕ) → e ≡ out.TheVariants.BadLine n → whole) →
    AfterReading (Err (of_out e)) whole
events_whole text out.TheVariants.Memory whole h at_bad = tt
events_whole text out.TheVariants.Read whole h at_bad = tt
events_whole text (out.TheVariants.Write n) whole h at_bad = absurd h
events_whole text (out.TheVariants.BadLine n) whole h at_bad = at_bad n refl

pub events_reads : (e : out.OutFault) (old new : ℕ) → new ≡ old + outs.reads_failed e →
    new ≡ old + failed_reads (Err (of_out e))
events_reads out.TheVariants.Memory old new h = h
events_reads out.TheVariants.Read old new h = h
events_reads (out.TheVariants.Write n) old new h = h
events_reads (out.TheVariants.BadLine n) old new h = h

pub events_unwritten : (text : List ℕ) (e : out.OutFault) (n : ℕ) → ReadsEvents text (Err e) →
    n ≡ n + failed_writes (Err (of_out e))
events_unwritten text out.TheVariants.Memory n h = omega arith
events_unwritten text out.TheVariants.Read n h = omega arith
events_unwritten text (out.TheVariants.Write k) n h = absurd h
events_unwritten text (out.TheVariants.BadLine k) n h = omega arith

pub events_unstored : (e : out.OutFault) (a b : ℕ) → b ≡ a → CountsStore (Err (of_out e)) a b
events_unstored out.TheVariants.Memory a b same = same
events_unstored out.TheVariants.Read a b same = same
events_unstored (out.TheVariants.Write n) a b same = same
events_unstored (out.TheVariants.BadLine n) a b same = same

module _ {S : Type 0} (book : Course S) (text : List ℕ) (same : book.new ≡ book.old) where
  pub unreplayed : (sent : Stream) (e : out.OutFault) → ReadsEvents text (Err e) →
      sent.after ≡ sent.before → StopsAt book text sent (of_out e)
  unreplayed sent out.TheVariants.Memory h unsent = inl (same, unsent)
  unreplayed sent out.TheVariants.Read h unsent = (same, unsent)
  unreplayed sent (out.TheVariants.Write n) h unsent = absurd h
  unreplayed sent (out.TheVariants.BadLine n) h unsent = (h, same, unsent)

  pub untaken : (e : out.OutFault) → ReadsEvents text (Err e) → StopsTaking book text (of_out e)
  untaken out.TheVariants.Memory h = inl same
  untaken out.TheVariants.Read h = same
  untaken (out.TheVariants.Write n) h = absurd h
  untaken (out.TheVariants.BadLine n) h = (h, same)

-- ---- a fault of a book

pub book_stops : (e : book.BookFault) → StopsEvents (of_book e)
book_stops book.TheVariants.Memory = tt
book_stops book.TheVariants.Store = tt

pub book_unread : (e : book.BookFault) → failed_reads (Err (of_book e)) ≡ 0
book_unread book.TheVariants.Memory = refl
book_unread book.TheVariants.Store = refl

pub book_unwritten : (e : book.BookFault) (n : ℕ) → n ≡ n + failed_writes (Err (of_book e))
book_unwritten book.TheVariants.Memory n = omega arith
book_unwritten book.TheVariants.Store n = omega arith

pub book_stored : (e : book.BookFault) (a b : ℕ) → CountsFault {T = Unit {0}} (Err e) a b →
    CountsStore (Err (of_book e)) a b
book_stored book.TheVariants.Memory a b counts = counts
book_stored book.TheVariants.Store a b counts = counts

-- what a command counts after events that left the count as it was
pub counts_later : (result : Result (Unit {0}) fault.Fault) {a b : ℕ} (c : ℕ) → b ≡ a →
    CountsStore result b c → CountsStore result a c
counts_later result c same counts = subst (λ n. CountsStore result n c) same counts

-- a fault that counts is one that is told
pub tells_counted : (result : Result (Unit {0}) fault.Fault) (P : Type 0) (a b : ℕ) →
    CountsStore result a b → TellsStore result a b P
tells_counted (Err fault.TheVariants.Store) P a b counts = inl counts
tells_counted result P a b counts = counts

-- what is told of the store by the reports on a book, and by the events before them
pub tells_both : {S : Type 0} (it : Ghosts S) (taken result : Result (Unit {0}) fault.Fault)
    (a b c : S) (asked unsent : Type 0) → asked →
    CountsStore taken (it.failures a) (it.failures b) →
    (it.is_honest b → it.is_open a → OnOk taken (it.is_open b)) →
    (it.is_honest c → it.is_honest b) →
    IfErr taken (λ cause. (result ≡ Err cause) × unsent) →
    OnErr taken (c ≡ b) →
    OnOk taken (TellsStore result (it.failures b) (it.failures c)
    (it.is_honest c → it.is_open b → ⊥)) →
    TellsStore result (it.failures a) (it.failures c)
    (asked × (it.is_honest c → it.is_open a → ⊥))
tells_both it (Ok u) result a b c asked unsent want counts stays was stopped same tells =
    tells_later result _ _ (it.failures c) counts
    (λ no. (want, λ h o. no h (stays (was h) o))) tells
tells_both it (Err f) result a b c asked unsent want counts stays was stopped same tells =
    subst (λ r. TellsStore r (it.failures a) (it.failures c)
    (asked × (it.is_honest c → it.is_open a → ⊥))) (sym stopped.0)
    (tells_counted (Err f) _ (it.failures a) (it.failures c)
    (subst (λ s. CountsStore (Err f) (it.failures a) (it.failures s)) (sym same) counts))

-- what a connection's end tells of the store
pub front_tells : (result : Result (Unit {0}) front.FrontFault) (P : Type 0) (a b : ℕ) →
    fronts.TellsStore result a b P → TellsStore (told_of result) a b P
front_tells (Ok u) P a b is = is
front_tells (Err front.TheVariants.Memory) P a b is = is
front_tells (Err front.TheVariants.Store) P a b is = is
front_tells (Err front.TheVariants.BadLength) P a b is = is
front_tells (Err front.TheVariants.Ended) P a b is = is
front_tells (Err (front.TheVariants.Undecodable f)) P a b is = is
front_tells (Err front.TheVariants.Read) P a b is = is
front_tells (Err (front.TheVariants.Write n)) P a b is = is

-- and what it tells of it where the program goes on after other faults
pub going_tells : (result : Result (Unit {0}) front.FrontFault) (P Q : Type 0) (a b : ℕ) →
    (P → Q) → fronts.TellsStore result a b P → TellsStore (going_on result) a b Q
going_tells (Ok u) P Q a b so is = is
going_tells (Err front.TheVariants.Store) P Q a b so (inl risen) = inl risen
going_tells (Err front.TheVariants.Store) P Q a b so (inr p) = inr (so p)
going_tells (Err front.TheVariants.Memory) P Q a b so is = is
going_tells (Err front.TheVariants.BadLength) P Q a b so is = is
going_tells (Err front.TheVariants.Ended) P Q a b so is = is
going_tells (Err (front.TheVariants.Undecodable f)) P Q a b so is = is
going_tells (Err front.TheVariants.Read) P Q a b so is = is
going_tells (Err (front.TheVariants.Write n)) P Q a b so is = is

-- what a report tells of it
pub report_tells : {S : Type 0} (it : Ghosts S) (a b : S)
    (result : Result (Unit {0}) report.ReportFault) →
    reports.TellsStore it a b result →
    TellsStore (told result) (it.failures a) (it.failures b)
    (it.is_honest b → it.is_open a → ⊥)
report_tells it a b (Ok u) tells = tells
report_tells it a b (Err report.TheVariants.Memory) tells = tells
report_tells it a b (Err report.TheVariants.Store) (inl risen) = inl risen
report_tells it a b (Err report.TheVariants.Store) (inr unsound) = inr (λ h o. unsound (h, o))
report_tells it a b (Err report.TheVariants.NoSuchMerchant) tells = tells
report_tells it a b (Err (report.TheVariants.Write n)) tells = tells
report_tells it a b (Err report.TheVariants.DayNotOver) tells = tells
report_tells it a b (Err (report.TheVariants.StillPending n)) tells = tells

-- and of writes
pub report_writes : (result : Result (Unit {0}) report.ReportFault) (old new : ℕ) →
    new ≡ old + reports.failed_writes result → new ≡ old + failed_writes (told result)
report_writes (Ok u) old new h = h
report_writes (Err report.TheVariants.Memory) old new h = h
report_writes (Err report.TheVariants.Store) old new h = h
report_writes (Err report.TheVariants.NoSuchMerchant) old new h = h
report_writes (Err (report.TheVariants.Write n)) old new h = h
report_writes (Err report.TheVariants.DayNotOver) old new h = h
report_writes (Err (report.TheVariants.StillPending n)) old new h = h

-- what a report counts
pub report_counts : (result : Result (Unit {0}) report.ReportFault) (old new : ℕ) →
    reports.CountsStore result old new → CountsStore (told result) old new
report_counts (Ok u) old new h = h
report_counts (Err report.TheVariants.Memory) old new h = h
report_counts (Err report.TheVariants.Store) old new h = h
report_counts (Err report.TheVariants.NoSuchMerchant) old new h = h
report_counts (Err (report.TheVariants.Write n)) old new h = h
report_counts (Err report.TheVariants.DayNotOver) old new h = h
report_counts (Err (report.TheVariants.StillPending n)) old new h = h

-- reports read nothing
pub report_unread : (fault : fault.Fault) → IsReporting fault → failed_reads (Err fault) ≡ 0
report_unread fault (report.TheVariants.Memory, is) = rw is refl
report_unread fault (report.TheVariants.Store, is) = rw is refl
report_unread fault (report.TheVariants.NoSuchMerchant, is) = rw is refl
report_unread fault (report.TheVariants.Write n, is) = rw is refl
report_unread fault (report.TheVariants.DayNotOver, is) = rw is refl
report_unread fault (report.TheVariants.StillPending n, is) = rw is refl

pub some_taken : {S : Type 0} (it : Course S) (text : List ℕ) (e : book.BookFault) →
    TakesSome it text → StopsTaking it text (of_book e)
some_taken it text book.TheVariants.Memory some = inr some
some_taken it text book.TheVariants.Store some = some

-- ---- a fault of an output's line

line_stops : (o : Output) (old new : List ℕ) (e : out.OutFault) → WritesLine o old new (Err e) →
    StopsEvents (of_out e)
line_stops o old new out.TheVariants.Memory h = tt
line_stops o old new out.TheVariants.Read h = absurd h
line_stops o old new (out.TheVariants.Write n) h = tt
line_stops o old new (out.TheVariants.BadLine n) h = absurd h

-- and of one of several lines
pub lines_stop : (said : List Output) (old new : List ℕ) (e : out.OutFault) →
    StopsLines said old new e → StopsEvents (of_out e)
lines_stop said old new e stopped = line_stops stopped.output _ new e stopped.line

pub line_writes : (e : out.OutFault) (old new : ℕ) → new ≡ old + outs.writes_failed e →
    new ≡ old + failed_writes (Err (of_out e))
line_writes out.TheVariants.Memory old new h = h
line_writes out.TheVariants.Read old new h = h
line_writes (out.TheVariants.Write n) old new h = h
line_writes (out.TheVariants.BadLine n) old new h = h
