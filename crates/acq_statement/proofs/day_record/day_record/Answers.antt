use Rattle.acq_statement.proofs.day_record.day_record.Goals as goal

pub returns : goal.returns
returns c =
    let h = c.record_text.ensures in
    rw (
      c.to_bytes-id.ensures.value,
      c.to_bytes-currency.ensures.value,
      c.date_text-date.ensures,
    )
    at h
