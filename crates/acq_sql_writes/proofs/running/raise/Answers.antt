use Rattle.acq_sql_writes.specs.Written.{tally_from}
use Rattle.acq_sql_writes.proofs.Apart.{fails_apart}
use Rattle.acq_sql_writes.proofs.Inside.{raised_inside}
use Rattle.acq_sql_writes.proofs.Refusals.{raise_excused}
use Rattle.acq_sql_writes.proofs.running.raise.Goals as goal

pub returns : goal.returns
returns g c =
    let ran =
    rw (
      c.to_bytes-merchant.ensures.value,
      c.day_value.ensures,
      c.number_value.ensures,
      c.count_value.ensures,
      c.count_value-2.ensures,
      c.count_value-3.ensures,
      c.count_value-4.ensures,
      c.sum_value.ensures,
      c.sum_value-2.ensures,
      c.sum_value-3.ensures,
      c.sum_value-4.ensures,
    ) at c.execute.ensures.runs in
    record {
      writes = raised_inside _ _ c.execute.result c.args.merchant c.args.day
          (tally_from c.args.used c.args.posted.now) (_, c.execute.ensures.survives) ran;
      fails = raise_excused _ _ c.execute.result c.args.merchant c.args.day
          (tally_from c.args.used c.args.posted.now) c.to_bytes-merchant.ensures.valid ran;
      apart = fails_apart _ _ c.execute.result _ _ ran;
    }
