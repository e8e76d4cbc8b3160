-- What contracts see of `LegSum`: a leg's total, which may pass that of a day.
use Rattle.day_totals.specs.declared.leg_total.LegTotal.{LegTotal}
use Rattle.acq_statement.specs.declared.leg_sum.LegSum.TheInside.{Inside}

abbrev pub leg_view : Inside → LegTotal
leg_view x = record { count = x.count; amount = x.amount }

abbrev pub leg_inside : LegTotal → Inside
leg_inside total = record { count = total.count; amount = total.amount }
