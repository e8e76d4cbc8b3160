use Rattle.std.proofs.Common.{◌∙◌, sym}
use Rattle.acq_link.proofs.hex_frames.LinesRead.{empty-line, nothing}
use Rattle.acq_link.proofs.hex_frames.hex_lines.add_line.Goals as goal

pub returns-then-is_empty-clause-ok : goal.returns-then-is_empty-clause-ok
returns-then-is_empty-clause-ok c =
    let digits = c.without_return-digits in
    empty-line c.args.line.now c.args.frames.now.items
    (sym digits.ensures ∙ nothing digits.result.now (sym c.is_empty.ensures ∙ c.if-is_empty.true))
