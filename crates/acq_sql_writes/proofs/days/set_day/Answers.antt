use Rattle.acq_sql_writes.proofs.Inside.{day_inside}
use Rattle.acq_sql_writes.proofs.Refusals.{day_excused}
use Rattle.acq_sql_writes.proofs.days.set_day.Goals as goal

pub returns : goal.returns
returns g c =
    let ran = rw c.day_value.ensures at c.execute.ensures.runs in
    record {
      writes = day_inside _ _ c.execute.result c.args.day (_, c.execute.ensures.survives) ran;
      fails = day_excused _ _ c.execute.result c.args.day ran;
    }
