use Rattle.acq_sql_writes.proofs.Inside.{posting_inside}
use Rattle.acq_sql_writes.proofs.Refusals.{posting_excused}
use Rattle.acq_sql_writes.proofs.postings.add_posting.Goals as goal

pub returns : goal.returns
returns g c =
    let ran =
    rw (
      c.to_bytes-merchant.ensures.value,
      c.to_bytes-terminal.ensures.value,
      c.to_bytes-trace.ensures.value,
      c.day_value.ensures,
      c.number_value.ensures,
      c.leg_value.ensures,
      c.amount_value.ensures,
      c.reference_value.ensures,
      c.as_bytes.ensures,
    ) at c.execute.ensures.runs in
    record {
      writes = posting_inside _ _ c.execute.result c.args.number c.args.posting.now
          (_, c.execute.ensures.survives) ran;
      fails = posting_excused _ _ c.execute.result c.args.number c.args.posting.now
          c.to_bytes-merchant.ensures.valid c.to_bytes-terminal.ensures.valid
          c.to_bytes-trace.ensures.valid ran;
    }
