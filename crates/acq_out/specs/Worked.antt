-- Values that the worked rows are computed on.
use Rattle.std.specs.Prelude.{codes}
use Rattle.card_no.specs.declared.range.Range.{Range}
use Rattle.day_totals.specs.declared.leg.Leg.TheVariants.{Debit}
use Rattle.acq_message.specs.declared.service.Service.TheVariants.{Financial}
use Rattle.acq_core.specs.declared.query.Query.{Query}

abbrev pub worked_query : Query
worked_query = record {
  merchant = codes "MERCHANT0000001";
  reference = 1;
  service = Financial;
  leg = Debit;
  card = codes "4111111111111111";
  amount = 1000;
  issuer = codes "12345";
}

abbrev pub worked_range : Range
worked_range = record { low = 499900; high = 49999999; issuer = codes "012345"; hold_days = 7 }
