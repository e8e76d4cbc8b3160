use Rattle.acq_sql_writes.proofs.Inside.{follow_inside}
use Rattle.acq_sql_writes.proofs.Refusals.{follow_excused}
use Rattle.acq_sql_writes.proofs.answers.follow_request.Goals as goal

pub returns : goal.returns
returns g c =
    let ran =
    rw (
      c.to_bytes-merchant.ensures.value,
      c.to_bytes-terminal.ensures.value,
      c.digits-kind.ensures,
      c.to_bytes-trace.ensures.value,
      c.to_bytes-stamp.ensures.value,
      c.status_value.ensures,
      c.amount_value.ensures,
    ) at c.execute.ensures.runs in
    record {
      writes = follow_inside _ _ c.execute.result c.args.key c.args.remains
          (_, c.execute.ensures.survives) ran;
      fails = follow_excused _ _ c.execute.result c.args.key c.args.remains
          (record {
            merchant = c.to_bytes-merchant.ensures.valid;
            terminal = c.to_bytes-terminal.ensures.valid;
            trace = c.to_bytes-trace.ensures.valid;
            transmission = c.to_bytes-stamp.ensures.valid;
          }) ran;
    }
