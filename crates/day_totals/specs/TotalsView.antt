-- What contracts see of `Totals`: its four totals, and nothing else.
use Rattle.day_totals.specs.declared.totals.Totals.TheInside.{Inside}
use Rattle.day_totals.specs.Totals.{DayTotals}

abbrev pub totals_view : Inside → DayTotals
totals_view t =
    record {
      credits = t.credits;
      credit_reversals = t.credit_reversals;
      debits = t.debits;
      debit_reversals = t.debit_reversals;
    }

abbrev pub fields_of : DayTotals → Inside
fields_of t =
    record {
      credits = t.credits;
      credit_reversals = t.credit_reversals;
      debits = t.debits;
      debit_reversals = t.debit_reversals;
    }
