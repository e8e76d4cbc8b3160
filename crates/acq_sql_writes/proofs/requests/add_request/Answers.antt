use Rattle.acq_sql_writes.proofs.Apart.{fails_apart}
use Rattle.acq_sql_writes.proofs.Bound.{bound_number, bound_text}
use Rattle.acq_sql_writes.proofs.Inside.{request_inside}
use Rattle.acq_sql_writes.proofs.Refusals.{request_excused}
use Rattle.acq_sql_writes.proofs.requests.add_request.Goals as goal

pub returns : goal.returns
returns g c =
    let r = c.args.request.now in
    let ran =
    rw (
      c.to_bytes-merchant.ensures.value,
      c.to_bytes-terminal.ensures.value,
      c.digits-kind.ensures,
      c.to_bytes-trace.ensures.value,
      c.to_bytes-stamp.ensures.value,
      c.as_bytes.ensures,
      c.day_value.ensures,
      c.status_value.ensures,
      c.bit_value.ensures,
      c.reference_if.ensures,
      c.reference_if-2.ensures,
      c.amount_value.ensures,
      c.leg_value.ensures,
      c.text_if.ensures,
      c.text_if-2.ensures,
      c.hold_days_value.ensures,
      c.hold_end_value.ensures,
      c.requires.spelled,
      bound_number r.reference,
      bound_number r.follows,
      bound_text r.card,
      bound_text r.acquirer,
      bound_number r.hold_days,
      bound_number r.hold_end,
    ) at c.execute.ensures.runs in
    record {
      writes = request_inside _ _ c.execute.result r c.requires.whole
          (_, c.execute.ensures.survives) ran;
      fails = request_excused _ _ c.execute.result r (record {
        merchant = c.to_bytes-merchant.ensures.valid;
        terminal = c.to_bytes-terminal.ensures.valid;
        trace = c.to_bytes-trace.ensures.valid;
        transmission = c.to_bytes-stamp.ensures.valid;
      }) c.requires.whole ran;
      apart = fails_apart _ _ c.execute.result _ _ ran;
    }
