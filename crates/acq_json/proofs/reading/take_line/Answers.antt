use Rattle.std.proofs.Common.{◌∙◌, [], sym}
use Rattle.acq_make.proofs.Ended.{written_none}
use Rattle.acq_json.proofs.SaidInTurn.{blank_said}
use Rattle.acq_json.proofs.reading.take_line.Goals as goal

pub returns-then-is_blank-clause-said : goal.returns-then-is_blank-clause-said
returns-then-is_blank-clause-said c = (
  [],
  blank_said c.args.number c.args.line.now (sym c.is_blank.ensures ∙ c.if-is_blank.true),
  written_none c.args.form.now c.args.out.now.items,
)
