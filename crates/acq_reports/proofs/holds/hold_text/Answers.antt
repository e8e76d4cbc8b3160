use Rattle.acq_reports.proofs.holds.hold_text.Goals as goal

pub returns : goal.returns
returns c =
    let h = c.record_text.ensures in
    rw (
      c.reference_text-reference.ensures,
      c.as_slice.ensures.value,
      c.in_ok-card.ensures,
      c.content_bytes.ensures,
      c.as_bytes.ensures.value,
      c.format.ensures.text,
      c.number.ensures.value,
      c.hold_end_text-end.ensures,
      c.unwrap_or.ensures,
    )
    at h
