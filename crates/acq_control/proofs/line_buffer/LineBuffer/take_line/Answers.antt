use Rattle.std.proofs.Common.{◌-◌, List, ℕ, take, drop, refl, sym, ap, ◌∙◌}
use Rattle.std.specs.List.{list_all}
use Rattle.acq_control.specs.Lines.{is_in_line}
use Rattle.acq_control.proofs.FirstLine.{no-line, takes_line}
use Rattle.acq_control.proofs.line_buffer.LineBuffer.take_line.Goals as goal

pub returns-in_default-clause-none : goal.returns-in_default-clause-none
returns-in_default-clause-none c = (
  refl,
  ap (λ (l : List ℕ). list_all is_in_line l) (sym c.self.view_is)
      ∙ no-line (take (c.self.inside.end - c.self.inside.start)
      (drop c.self.inside.start c.self.inside.bytes))
      (sym c.in_default.is ∙ c.line_end.ensures),
)

pub returns-clause-some : goal.returns-clause-some
returns-clause-some c =
    takes_line c.args.self.now c.self.inside.bytes c.in_ok-line.line.items c.self.inside.start
    c.self.inside.end c.in-Some.end c.self.view_is (sym c.in-Some.is ∙ c.line_end.ensures)
    c.in_ok-line.ensures.items
