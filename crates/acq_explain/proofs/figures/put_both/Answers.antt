use Rattle.std.proofs.Common.{◌++◌}
use Rattle.std.specs.Prelude.{codes}
use Rattle.std.proofs.lemmas.Result.{on_ok_weaker}
use Rattle.acq_show.proofs.PutLines.{on_ok_text}
use Rattle.acq_explain.specs.Details.{shown}
use Rattle.acq_explain.specs.Figures.{both_shown}
use Rattle.acq_explain.proofs.InTurn.{three_in_turn}
use Rattle.acq_explain.proofs.figures.put_both.Goals as goal

pub returns : goal.returns
unfolding both_shown
returns c =
    let figure = c.args.figure.now in
    on_ok_weaker c.extend_from_slice-2.result
    (three_in_turn c.args.text.now.items c.put_shown.new.text.items
    c.extend_from_slice.new.self.items c.extend_from_slice-2.new.self.items
    (shown c.args.number c.args.content.now) (codes ", the day's ") figure
    c.in_ok-put_shown.ensures c.in_ok-extend_from_slice.ensures.items)
    (on_ok_text c.extend_from_slice-2.result c.extend_from_slice-2.new.self.items
    (c.extend_from_slice.new.self.items ++ figure) c.extend_from_slice.new.self.items
    c.extend_from_slice-2.ensures.items)
