use Rattle.std.proofs.Common.{◌∙◌, sym}
use Rattle.acq_recall.proofs.WaitingRows.{leaves}
use Rattle.acq_recall.proofs.waiting.Waiting.restate.Goals as goal

pub returns-then-is_waiting : goal.returns-then-is_waiting
returns-then-is_waiting c rows change restates is =
    let left = leaves c.args.self.now c.drop_with_key.new.rows.items
    c.drop_with_key-2.new.rows.items rows c.args.key.now change c.args.status restates
    c.drop_with_key.ensures c.drop_with_key-2.ensures is in
    record { found = left.0; all = λ so. absurd (cc) }

pub returns-else-is_waiting : goal.returns-else-is_waiting
returns-else-is_waiting c rows change restates is =
    let left = leaves c.args.self.now c.drop_with_key.new.rows.items
    c.drop_with_key-2.new.rows.items rows c.args.key.now change c.args.status restates
    c.drop_with_key.ensures c.drop_with_key-2.ensures is in
    record {
      found = left.0;
      all = left.1 (sym c.is_waiting.ensures ∙ c.if-is_waiting.false);
    }
