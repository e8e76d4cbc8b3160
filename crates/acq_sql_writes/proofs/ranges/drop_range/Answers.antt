use Rattle.acq_sql_writes.proofs.Inside.{range_dropped_inside}
use Rattle.acq_sql_writes.proofs.Refusals.{drop_excused}
use Rattle.acq_sql_writes.proofs.ranges.drop_range.Goals as goal

pub returns : goal.returns
returns g c =
    let ran =
    rw (
      c.short_value.ensures,
      c.short_value-2.ensures,
    ) at c.execute.ensures.runs in
    record {
      writes = range_dropped_inside _ _ c.execute.result c.args.low c.args.high
          (_, c.execute.ensures.survives) ran;
      fails = drop_excused _ _ c.execute.result c.args.low c.args.high ran;
    }
