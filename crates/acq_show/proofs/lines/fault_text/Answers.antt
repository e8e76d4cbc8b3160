use Rattle.std.proofs.Common.{rules, append_assoc}
use Rattle.acq_show.proofs.lines.fault_text.Goals as goal

pub returns : goal.returns
returns c = simp append_assoc (search rules)
