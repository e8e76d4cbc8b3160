use Rattle.std.proofs.Common.{◌∙◌, sym, ap, ◌++◌}
use Rattle.acq_link.proofs.hex_frames.LinesRead.{nothing}
use Rattle.acq_show.specs.Lines.{line_shown}
use Rattle.acq_show.proofs.LinesInTurn.{shown_more, shown_all}
use Rattle.acq_show.proofs.event_lines.show_lines.Goals as goal

pub loop-rest-preserved : goal.loop-rest-preserved
loop-rest-preserved c =
    shown_more c.args.lines.now c.loop-rest.rest.now c.line_at.result.0.now c.line_at.result.1.now
    c.loop-rest.text.items c.put_line.new.text.items c.loop-rest.invariant c.line_at.ensures.lines
    (c.in_ok-put_line.ensures ∙ ap (λ l. c.loop-rest.text.items ++ line_shown l)
    c.without_return.ensures)

pub returns : goal.returns
returns c =
    shown_all c.args.lines.now c.loop-rest.rest.now c.loop-rest.text.items c.loop-rest.invariant
    (nothing c.loop-rest.rest.now (sym c.is_empty.ensures ∙ c.loop-rest-test.false))
