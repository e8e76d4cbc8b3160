use Rattle.acq_sql_writes.proofs.Inside.{reconciliation_inside}
use Rattle.acq_sql_writes.proofs.Refusals.{reconciliation_excused}
use Rattle.acq_sql_writes.proofs.days.add_reconciliation.Goals as goal

pub returns : goal.returns
returns g c =
    let ran =
    rw (
      c.to_bytes-merchant.ensures.value,
      c.day_value.ensures,
      c.number_value.ensures,
      c.bit_value.ensures,
    ) at c.execute.ensures.runs in
    record {
      writes = reconciliation_inside _ _ c.execute.result c.args.number c.args.reconciliation.now
          (_, c.execute.ensures.survives) ran;
      fails = reconciliation_excused _ _ c.execute.result c.args.number c.args.reconciliation.now
          c.to_bytes-merchant.ensures.valid ran;
    }
