-- Reports that the values of an option ask for.
use Rattle.std.specs.Prelude.{List, [], map, Option, unwrap_or, option_map, Err}
use Rattle.std.specs.Borrow.{Bor}
use Rattle.clap.specs.Words.{Text}
use Rattle.acq_faults.specs.declared.report_kind.ReportKind.{ReportKind}
use Rattle.acq_program.specs.declared.usage_fault.UsageFault.{UsageFault}
use Rattle.acq_program.specs.Arguments.{Reads}
use Rattle.acq_program.specs.Options.{ReportsAre}

-- why an option's values give no reports: one is no day's date, or there was no memory
abbrev pub MayRefuse : ReportKind → List Text → UsageFault → Type 0
MayRefuse kind texts fault = Reads (ReportsAre kind texts) (Err fault)

-- the texts of values
abbrev pub each_text : List (Bor Text) → List Text
each_text values = map (λ value. value.now) values

-- none where there are no values
abbrev pub texts_in : Option (Bor (List (Bor Text))) → List Text
texts_in values = unwrap_or (option_map (λ all. each_text all.now) values) []
