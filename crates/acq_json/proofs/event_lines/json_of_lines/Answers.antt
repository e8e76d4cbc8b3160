use Rattle.std.proofs.Common.{◌∙◌, sym, ap, ◌++◌}
use Rattle.acq_link.proofs.hex_frames.LinesRead.{nothing}
use Rattle.acq_json.specs.Lines.{line_json}
use Rattle.acq_json.proofs.LinesInTurn.{written_all, written_more}
use Rattle.acq_json.proofs.event_lines.json_of_lines.Goals as goal

pub loop-rest-preserved : goal.loop-rest-preserved
loop-rest-preserved c =
    written_more c.args.form c.args.lines.now c.loop-rest.rest.now c.line_at.result.0.now
    c.line_at.result.1.now c.loop-rest.text.items c.put_line.new.text.items
    c.loop-rest.invariant c.line_at.ensures.lines
    (c.in_ok-put_line.ensures ∙ ap (λ l. c.loop-rest.text.items ++ line_json c.args.form l)
    c.without_return.ensures)

pub returns : goal.returns
returns c =
    written_all c.args.form c.args.lines.now c.loop-rest.rest.now c.loop-rest.text.items
    c.loop-rest.invariant
    (nothing c.loop-rest.rest.now (sym c.is_empty.ensures ∙ c.loop-rest-test.false))
