use Rattle.acq_sql_writes.proofs.Bound.{bound_number}
use Rattle.acq_sql_writes.proofs.Inside.{answer_inside}
use Rattle.acq_sql_writes.proofs.Refusals.{answer_excused}
use Rattle.acq_sql_writes.proofs.answers.answer_request.Goals as goal

pub returns : goal.returns
returns g c =
    let ran =
    rw (
      c.to_bytes-merchant.ensures.value,
      c.to_bytes-terminal.ensures.value,
      c.digits-kind.ensures,
      c.to_bytes-trace.ensures.value,
      c.to_bytes-stamp.ensures.value,
      c.status_value.ensures,
      c.hold_end_value.ensures,
      c.requires.spelled,
      bound_number c.args.hold_end,
    ) at c.execute.ensures.runs in
    record {
      writes = answer_inside _ _ c.execute.result c.args.key c.args.status c.args.reply.now
          c.args.hold_end c.requires.whole (_, c.execute.ensures.survives) ran;
      fails = answer_excused _ _ c.execute.result c.args.key c.args.status c.args.reply.now
          c.args.hold_end (record {
            merchant = c.to_bytes-merchant.ensures.valid;
            terminal = c.to_bytes-terminal.ensures.valid;
            trace = c.to_bytes-trace.ensures.valid;
            transmission = c.to_bytes-stamp.ensures.valid;
          }) c.requires.whole ran;
    }
