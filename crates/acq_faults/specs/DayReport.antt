-- What is written of a day.
use Rattle.std.specs.Prelude.{ℕ, List}
use Rattle.acq_core.specs.Tables.{Tables}
use Rattle.acq_reports.specs.SettlementReport.{settlement_text}
use Rattle.acq_clearing.specs.ClearingFile.{clearing_text}
use Rattle.acq_faults.specs.declared.day_report.DayReport.{DayReport}
use Rattle.acq_faults.specs.declared.report_kind.ReportKind.{ReportKind}
use Rattle.acq_faults.specs.declared.report_kind.ReportKind.TheVariants.{Clearing, Settlement}

abbrev pub text_on : ReportKind → Tables → ℕ → List ℕ
text_on Clearing t day = clearing_text t day
text_on Settlement t day = settlement_text t day

abbrev pub report_text : Tables → DayReport → List ℕ
report_text t report = text_on report.kind t report.day
