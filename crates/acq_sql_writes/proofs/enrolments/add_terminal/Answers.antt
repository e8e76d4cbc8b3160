use Rattle.acq_sql_writes.proofs.Inside.{terminal_inside}
use Rattle.acq_sql_writes.proofs.Refusals.{terminal_excused}
use Rattle.acq_sql_writes.proofs.enrolments.add_terminal.Goals as goal

pub returns : goal.returns
returns g c =
    let ran =
    rw (
      c.to_bytes-merchant.ensures.value,
      c.to_bytes-id.ensures.value,
    ) at c.execute.ensures.runs in
    record {
      writes = terminal_inside _ _ c.execute.result c.args.terminal.now
          (_, c.execute.ensures.survives) ran;
      fails = terminal_excused _ _ c.execute.result c.args.terminal.now
          c.to_bytes-merchant.ensures.valid
          c.to_bytes-id.ensures.valid ran;
    }
