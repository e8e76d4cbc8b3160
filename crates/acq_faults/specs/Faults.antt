-- The faults' numbers and texts, and the statuses that the program ends with.
use Rattle.std.specs.Prelude.{◌≡◌, ◌⊎◌, ℕ, List, ◌++◌, [], codes, Result, Ok, Err}
use Rattle.std.specs.Fmt.{decimal}
use Rattle.day_totals.specs.Day.{date_text_of}
use Rattle.day_totals.specs.Digits.{zero_padded}
use Rattle.card_no.specs.declared.range_fault.RangeFault as ranges
use Rattle.iso_codec.specs.FaultTexts.{number_of_fault, element_of_fault}
use Rattle.iso_codec.specs.FaultTexts.{number_of_set_fault, element_of_set_fault}
use Rattle.acq_book.specs.Promise.{HasRisen}
use Rattle.acq_book.specs.declared.book_fault.BookFault as book
use Rattle.acq_front.specs.declared.front_fault.FrontFault as front
use Rattle.acq_link.specs.declared.hex_frames.hex_fault.HexFault as hex
use Rattle.acq_link.specs.declared.input_fault.InputFault as input
use Rattle.acq_make.specs.declared.make_fault.MakeFault as make
use Rattle.acq_out.specs.declared.out_fault.OutFault as out
use Rattle.acq_out.specs.declared.records.record_fault.RecordFault as records
use Rattle.acq_reports.specs.declared.report_fault.ReportFault as report
use Rattle.acq_faults.specs.declared.fault.Fault.{Fault}
use Rattle.acq_faults.specs.declared.fault.Fault.TheVariants.{Memory, Store, BadRecord}
use Rattle.acq_faults.specs.declared.fault.Fault.TheVariants.{BadRange, Overlap}
use Rattle.acq_faults.specs.declared.fault.Fault.TheVariants.{NoSuchMerchant}
use Rattle.acq_faults.specs.declared.fault.Fault.TheVariants.{NotABook, OtherVersion, BadLength}
use Rattle.acq_faults.specs.declared.fault.Fault.TheVariants.{Ended, Undecodable, Read, Write}
use Rattle.acq_faults.specs.declared.fault.Fault.TheVariants.{Silent, NoProxyHeader}
use Rattle.acq_faults.specs.declared.fault.Fault.TheVariants.{DayNotOver, StillPending}
use Rattle.acq_faults.specs.declared.fault.Fault.TheVariants.{BadLine, OtherDay, BadMessage}
use Rattle.acq_faults.specs.declared.fault.Fault.TheVariants.{RowsMissing}

-- a fault's number and name
abbrev pub heading_of : Fault → List ℕ
heading_of Memory = codes "1 Memory"
heading_of Store = codes "2 Store"
heading_of BadRange = codes "20 BadRange"
heading_of (Overlap low high) = codes "21 Overlap"
heading_of (BadRecord n) = codes "23 BadLine"
heading_of NoSuchMerchant = codes "37 NoSuchMerchant"
heading_of NotABook = codes "40 NotABook"
heading_of (OtherVersion v) = codes "41 OtherVersion"
heading_of BadLength = codes "50 BadLength"
heading_of Ended = codes "51 Ended"
heading_of (Undecodable fault) = codes "52 Undecodable"
heading_of Read = codes "53 Read"
heading_of (Write n) = codes "54 Write"
heading_of Silent = codes "55 Silent"
heading_of NoProxyHeader = codes "56 NoProxyHeader"
heading_of DayNotOver = codes "60 DayNotOver"
heading_of (StillPending n) = codes "61 StillPending"
heading_of (BadLine n) = codes "62 BadLine"
heading_of (OtherDay day) = codes "63 OtherDay"
heading_of (BadMessage line fault) = codes "64 BadMessage"
heading_of (RowsMissing n) = codes "65 RowsMissing"

-- its values, each behind a space
abbrev pub values_of : Fault → List ℕ
values_of (Undecodable fault) =
    codes " " ++ decimal (number_of_fault fault) ++ codes " " ++ decimal (element_of_fault fault)
values_of (Overlap low high) =
    codes " " ++ zero_padded 8 low ++ codes " " ++ zero_padded 8 high
values_of (BadRecord n) = codes " " ++ decimal n
values_of (OtherVersion v) = codes " " ++ decimal v
values_of (Write n) = codes " " ++ decimal n
values_of (StillPending n) = codes " " ++ decimal n
values_of (BadLine n) = codes " " ++ decimal n
values_of (OtherDay day) = codes " " ++ date_text_of day
values_of (BadMessage line fault) =
    codes " " ++ decimal line ++ codes " " ++ decimal (number_of_set_fault fault) ++ codes " "
    ++ decimal (element_of_set_fault fault)
values_of (RowsMissing n) = codes " " ++ decimal n
values_of other = []

-- the fault as printed lines have it
abbrev pub text_of : Fault → List ℕ
text_of fault = heading_of fault ++ values_of fault

-- the line that tells a fault
abbrev pub fault_line : Fault → List ℕ
fault_line fault = codes "acqd: " ++ text_of fault ++ codes "\n"

-- 3 where memory ran out or the store failed, else 1
abbrev pub status_of : Fault → ℕ
status_of Memory = 3
status_of Store = 3
status_of BadRange = 1
status_of (Overlap low high) = 1
status_of (BadRecord n) = 1
status_of NoSuchMerchant = 1
status_of NotABook = 1
status_of (OtherVersion v) = 1
status_of BadLength = 1
status_of Ended = 1
status_of (Undecodable fault) = 1
status_of Read = 1
status_of (Write n) = 1
status_of Silent = 1
status_of NoProxyHeader = 1
status_of DayNotOver = 1
status_of (StillPending n) = 1
status_of (BadLine n) = 1
status_of (OtherDay day) = 1
status_of (BadMessage line fault) = 1
status_of (RowsMissing n) = 1

-- what a fault of a book is
abbrev pub of_book : book.BookFault → Fault
of_book book.TheVariants.Memory = Memory
of_book book.TheVariants.Store = Store

-- what a connection's fault is
abbrev pub of_front : front.FrontFault → Fault
of_front front.TheVariants.Memory = Memory
of_front front.TheVariants.Store = Store
of_front front.TheVariants.BadLength = BadLength
of_front front.TheVariants.Ended = Ended
of_front (front.TheVariants.Undecodable f) = Undecodable f
of_front front.TheVariants.Read = Read
of_front (front.TheVariants.Write n) = Write n

-- what a fault of the input is
abbrev pub of_input : input.InputFault → Fault
of_input input.TheVariants.Memory = Memory
of_input input.TheVariants.Read = Read

-- what a fault of event lines or of output lines is
abbrev pub of_out : out.OutFault → Fault
of_out out.TheVariants.Memory = Memory
of_out out.TheVariants.Read = Read
of_out (out.TheVariants.Write n) = Write n
of_out (out.TheVariants.BadLine n) = BadLine n

-- what a fault of lines in hexadecimal is
abbrev pub of_hex : hex.HexFault → Fault
of_hex hex.TheVariants.Memory = Memory
of_hex (hex.TheVariants.BadLine n) = BadLine n

-- what a fault of a text that messages are made of is
abbrev pub of_make : make.MakeFault → Fault
of_make make.TheVariants.Memory = Memory
of_make (make.TheVariants.BadLine n) = BadLine n
of_make (make.TheVariants.BadMessage n fault) = BadMessage n fault

-- what a fault of the file of issuers' answers is
abbrev pub of_answers : records.RecordFault → Fault
of_answers records.TheVariants.Memory = Memory
of_answers records.TheVariants.Read = Read
of_answers (records.TheVariants.BadRecord n) = BadRecord n

-- what a fault of a list of ranges is; none is dropped from it, so that none is missing
abbrev pub of_ranges : ranges.RangeFault → Fault
of_ranges ranges.TheVariants.Memory = Memory
of_ranges ranges.TheVariants.BadRange = BadRange
of_ranges (ranges.TheVariants.Overlap other) = Overlap other.low other.high
of_ranges ranges.TheVariants.NoSuchRange = BadRange
of_ranges (ranges.TheVariants.BadLine n) = BadRecord n

-- why that file gave no answers, as the command tells it
abbrev pub IsOfAnswers : Fault → Type 0
IsOfAnswers fault = (cause : records.RecordFault) × (fault ≡ of_answers cause)

-- why connections can't be had at a port: for want of memory, or by the system
abbrev pub IsOfListening : Fault → Type 0
IsOfListening fault = (fault ≡ Memory) ⊎ (fault ≡ Read)

-- what a fault of a report is
abbrev pub of_report : report.ReportFault → Fault
of_report report.TheVariants.Memory = Memory
of_report report.TheVariants.Store = Store
of_report report.TheVariants.NoSuchMerchant = NoSuchMerchant
of_report (report.TheVariants.Write n) = Write n
of_report report.TheVariants.DayNotOver = DayNotOver
of_report (report.TheVariants.StillPending n) = StillPending n

-- 0 where all is well
abbrev pub status_after : Result (Unit {0}) Fault → ℕ
status_after (Ok u) = 0
status_after (Err fault) = status_of fault

-- The count of failed calls of the store has risen where the store's fault is told, and only there.
abbrev pub CountsStore : Result (Unit {0}) Fault → ℕ → ℕ → Type 0
CountsStore (Err Store) old new = HasRisen old new
CountsStore result old new = new ≡ old

-- The store's fault is told where a call of it failed, or where this is so; and unless it is told,
-- no call of it failed.
abbrev pub TellsStore : Result (Unit {0}) Fault → ℕ → ℕ → Type 0 → Type 0
TellsStore (Err Store) old new other = HasRisen old new ⊎ other
TellsStore result old new other = new ≡ old

-- why a report was not written whole, as the command tells it
abbrev pub IsReporting : Fault → Type 0
IsReporting fault = (cause : report.ReportFault) × (fault ≡ of_report cause)

-- how many writes failed
abbrev pub failed_writes : Result (Unit {0}) Fault → ℕ
failed_writes (Err (Write n)) = 1
failed_writes _ = 0

-- how many reads failed
abbrev pub failed_reads : Result (Unit {0}) Fault → ℕ
failed_reads (Err Read) = 1
failed_reads _ = 0
