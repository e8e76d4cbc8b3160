-- the reports on the days that the texts so far spell stand behind those that were there
use Rattle.std.proofs.Common.{◌≡◌, ◌++◌, List, ℕ, map, take}
use Rattle.day_totals.specs.Day.{date_text_of}
use Rattle.acq_program.specs.Options.{report_on}
use Rattle.acq_program.specs.WantedReports.{each_text}
use Rattle.acq_program.proofs.wanted_reports.add_each.Given as goal

abbrev pub invariant-loop-text : goal.invariant-loop-text
invariant-loop-text l =
    (days : List ℕ) × (each_text (take l.text-index l.texts) ≡ map date_text_of days)
    × (l.reports.items ≡ l.fn.reports.items ++ map (report_on l.kind) days)
