use Rattle.acq_stand_in.proofs.pending.line_text.Goals as goal

pub returns : goal.returns
returns c =
    let h = c.record_text.ensures in
    rw (
      c.to_bytes-merchant.ensures.value,
      c.reference_text-reference.ensures,
      c.as_bytes.ensures.value,
      c.format.ensures.text,
      c.seconds.ensures.value,
    )
    at h
