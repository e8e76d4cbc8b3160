use Rattle.acq_control.proofs.HeldLines.{takes_cut}
use Rattle.acq_control.proofs.control_input.ControlInput.take_line.Goals as goal

pub returns-then-self-clause-some : goal.returns-then-self-clause-some
returns-then-self-clause-some c =
    let begins = rw c.in-Some.is at c.in_ok-line.ensures.some in
    rw (← c.self.view_is) (takes_cut c.self.inside.lines c.self.inside.is_cut c.in-Some.line.items
    c.take_line.new.self c.if-self.true begins)
