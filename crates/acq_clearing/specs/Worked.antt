-- The totals that are read from the worked clearing file.
use Rattle.day_totals.specs.declared.leg_total.LegTotal.{LegTotal}
use Rattle.day_totals.specs.Totals.{DayTotals, zero_totals}

abbrev pub worked_total : LegTotal
worked_total = record { count = 1; amount = 1000 }

-- those of the sale and its reversal
abbrev pub worked_totals : DayTotals
worked_totals = record zero_totals { debits = worked_total; debit_reversals = worked_total }
