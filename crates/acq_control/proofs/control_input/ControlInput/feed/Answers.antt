use Rattle.std.proofs.Common.{◌≤◌, length, sym, ◌∙◌, arith}
use Rattle.acq_control.specs.Lines.{longest_line}
use Rattle.acq_control.proofs.HeldLines.{holds_none}
use Rattle.acq_control.proofs.control_input.ControlInput.feed.Goals as goal

pub returns-then-is_in_line : goal.returns-then-is_in_line
returns-then-is_in_line c =
    let all = c.feed.new.self in
    let full : longest_line ≤ length all =
    omega (arith, c.room.ensures, c.if-room-eq0.true) in
    rw (← c.self.view_is) (holds_none c.self.inside.lines c.self.inside.is_cut all
    c.clear.new.self c.args.piece.now c.feed.ensures
    (sym c.is_in_line.ensures ∙ c.if-is_in_line.true) full c.clear.ensures)
