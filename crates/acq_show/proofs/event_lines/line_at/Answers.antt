use Rattle.std.proofs.Common.{◌+◌, ◌-◌, drop, length, length-drop, arith, add-one}
use Rattle.std.proofs.lemmas.List.{take_all}
use Rattle.acq_link.proofs.hex_frames.FirstLine.{ended-line, last-line}
use Rattle.acq_show.proofs.event_lines.line_at.Goals as goal

pub returns-in-Some-clause-lines : goal.returns-in-Some-clause-lines
returns-in-Some-clause-lines c =
    let text = c.args.text.now in
    let end = c.in-Some.end in
    let all = take_all (length text - (end + 1)) (drop (end + 1) text)
    (omega (arith, length-drop (end + 1) text)) in
    rw (all, add-one) (ended-line text end c.in-Some.ensures)

pub returns-in-None-clause-lines : goal.returns-in-None-clause-lines
returns-in-None-clause-lines c = last-line c.args.text.now c.requires c.in-None.ensures
