-- The totals of a claim.
use Rattle.std.specs.Prelude.{get_or}
use Rattle.day_totals.specs.declared.claimed.Claimed.{Claimed}
use Rattle.day_totals.specs.Totals.{DayTotals}

-- what a claim has as totals
abbrev pub claim_totals : Claimed → DayTotals
claim_totals c =
    record {
      credits = record { count = get_or c.counts 0 0; amount = get_or c.amounts 0 0 };
      credit_reversals = record { count = get_or c.counts 1 0; amount = get_or c.amounts 1 0 };
      debits = record { count = get_or c.counts 2 0; amount = get_or c.amounts 2 0 };
      debit_reversals = record { count = get_or c.counts 3 0; amount = get_or c.amounts 3 0 };
    }
