use Rattle.acq_statement.proofs.lines.DayLines.found.Goals as goal

pub returns-in-Csv : goal.returns-in-Csv
returns-in-Csv c =
    let h = rw (
      c.place-place.ensures.merchant,
      c.place-place.ensures.day,
      c.place-place.ensures.line,
      c.place-place.ensures.terminal,
      c.place-place.ensures.trace,
      c.to_bytes-terminal.ensures.value,
      c.to_bytes-trace.ensures.value,
      c.format_claim.ensures,
    )
    at c.day_record.ensures in
    rw (c.in-Csv.is) h

pub returns-in_ok-legs-in-Text : goal.returns-in_ok-legs-in-Text
returns-in_ok-legs-in-Text c =
    let h = rw (
      c.to_bytes-terminal.ensures.value,
      c.to_bytes-trace.ensures.value,
      c.as_slice.ensures.value,
      c.in_ok-legs-in-Text.ensures,
      c.of_claim.ensures,
      c.net_text-net.ensures,
      c.balance_word.ensures,
    )
    at c.joined.ensures in
    rw (c.in-Text.is) h
