use Rattle.std.proofs.Common.{◌∙◌, sym}
use Rattle.acq_recall.proofs.WaitingRows.{is_left_out, joins, passes_by}
use Rattle.acq_recall.proofs.waiting.Waiting.add.Goals as goal

pub returns-then-not-is_waiting : goal.returns-then-not-is_waiting
returns-then-not-is_waiting c rows new is =
    passes_by c.args.self.now rows c.args.request.now
    (sym c.is_waiting.ensures ∙ c.if-not-is_waiting.true) is

pub returns-then-not-keep_copy : goal.returns-then-not-keep_copy
returns-then-not-keep_copy c rows new is =
    record {
      found = is_left_out c.args.self.now c.keep_copy.new.rows.items rows c.args.request.now
          (c.keep_copy.ensures.not c.if-not-keep_copy.true) is;
      all = λ so. absurd (cc);
    }

pub returns-else-not-keep_copy : goal.returns-else-not-keep_copy
returns-else-not-keep_copy c rows new is =
    let more = joins c.args.self.now c.keep_copy.new.rows.items rows c.args.request.now
    (sym c.is_waiting.ensures ∙ c.if-not-is_waiting.false) new
    (c.keep_copy.ensures.kept c.if-not-keep_copy.false) is in
    record { found = more.0; all = more.1 }
