use Rattle.std.proofs.Common.{◌++◌}
use Rattle.std.specs.Prelude.{codes}
use Rattle.std.proofs.lemmas.Result.{on_ok_weaker}
use Rattle.acq_show.proofs.PutLines.{on_ok_text}
use Rattle.acq_explain.specs.Checks.{listed, checks_line}
use Rattle.acq_explain.proofs.InTurn.{three_in_turn}
use Rattle.acq_explain.proofs.passed.put_checks.Goals as goal

pub returns : goal.returns
unfolding checks_line
returns c =
    on_ok_weaker c.extend_from_slice-2.result
    (three_in_turn c.args.text.now.items c.extend_from_slice.new.self.items
    c.put_listed.new.text.items c.extend_from_slice-2.new.self.items (codes "    passed: ")
    (listed c.args.checks.now) (codes "\n") c.in_ok-extend_from_slice.ensures.items
    c.in_ok-put_listed.ensures)
    (on_ok_text c.extend_from_slice-2.result c.extend_from_slice-2.new.self.items
    (c.put_listed.new.text.items ++ codes "\n") c.put_listed.new.text.items
    c.extend_from_slice-2.ensures.items)
