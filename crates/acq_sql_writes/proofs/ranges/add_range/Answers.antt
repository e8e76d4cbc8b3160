use Rattle.acq_sql_writes.proofs.Inside.{range_added_inside}
use Rattle.acq_sql_writes.proofs.Refusals.{range_excused}
use Rattle.acq_sql_writes.proofs.ranges.add_range.Goals as goal

pub returns : goal.returns
returns g c =
    let ran =
    rw (
      c.short_value.ensures,
      c.short_value-2.ensures,
      c.as_bytes.ensures,
      c.short_value-3.ensures,
    ) at c.execute.ensures.runs in
    record {
      writes = range_added_inside _ _ c.execute.result c.args.range.now
          (_, c.execute.ensures.survives) ran;
      fails = range_excused _ _ c.execute.result c.args.range.now ran;
    }
