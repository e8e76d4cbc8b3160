use Rattle.acq_sql_writes.proofs.Inside.{merchant_inside}
use Rattle.acq_sql_writes.proofs.Refusals.{merchant_excused}
use Rattle.acq_sql_writes.proofs.enrolments.add_merchant.Goals as goal

pub returns : goal.returns
returns g c =
    let ran =
    rw (
      c.to_bytes-id.ensures.value,
      c.to_bytes-currency.ensures.value,
      c.first_reference_value.ensures,
    ) at c.execute.ensures.runs in
    record {
      writes = merchant_inside _ _ c.execute.result c.args.merchant.now
          (_, c.execute.ensures.survives) ran;
      fails = merchant_excused _ _ c.execute.result c.args.merchant.now c.to_bytes-id.ensures.valid
          c.to_bytes-currency.ensures.valid ran;
    }
