use Rattle.acq_statement.proofs.lines.DayLines.terminal.Goals as goal

pub returns-in-Csv : goal.returns-in-Csv
returns-in-Csv c =
    let h = rw (
      c.place-place.ensures.merchant,
      c.place-place.ensures.day,
      c.place-place.ensures.line,
      c.place-place.ensures.terminal,
      c.place-place.ensures.trace,
      c.to_bytes-id.ensures.value,
      c.format.ensures,
    )
    at c.day_record.ensures in
    rw (c.in-Csv.is) h
