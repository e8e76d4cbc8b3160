use Rattle.acq_statement.proofs.lines.DayLines.total.Goals as goal

pub returns-in-Csv : goal.returns-in-Csv
returns-in-Csv c =
    let h = rw (
      c.place-place.ensures.merchant,
      c.place-place.ensures.day,
      c.place-place.ensures.line,
      c.place-place.ensures.terminal,
      c.place-place.ensures.trace,
      c.format.ensures,
      c.of-sums.ensures,
    )
    at c.day_record.ensures in
    rw (c.in-Csv.is) h

pub returns-in_ok-legs-in-Text : goal.returns-in_ok-legs-in-Text
returns-in_ok-legs-in-Text c =
    let h = rw (
      c.as_slice.ensures.value,
      c.in_ok-legs-in-Text.ensures,
      c.of-sums.ensures,
      c.net_text-net.ensures,
    )
    at c.joined.ensures in
    rw (c.in-Text.is) h
