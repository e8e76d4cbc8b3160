use Rattle.acq_statement.proofs.lines.DayLines.title.Goals as goal

pub returns-in-Text : goal.returns-in-Text
returns-in-Text c =
    let h = rw (
      c.to_bytes-id.ensures.value,
      c.date_text-date.ensures,
      c.to_bytes-currency.ensures.value,
    )
    at c.joined.ensures in
    rw (c.in-Text.is) h
