-- What contracts see of `Sums`: totals, which may pass those of a day.
use Rattle.day_totals.specs.Totals.{DayTotals}
use Rattle.acq_statement.specs.declared.sums.Sums.TheInside.{Inside}

abbrev pub sums_view : Inside → DayTotals
sums_view x =
    record {
      credits = x.credits;
      credit_reversals = x.credit_reversals;
      debits = x.debits;
      debit_reversals = x.debit_reversals;
    }

abbrev pub sums_inside : DayTotals → Inside
sums_inside t =
    record {
      credits = t.credits;
      credit_reversals = t.credit_reversals;
      debits = t.debits;
      debit_reversals = t.debit_reversals;
    }
