use Rattle.std.proofs.Common.{◌∙◌, ap}
use Rattle.std.specs.Map.{values_of}
use Rattle.acq_core.specs.Tables.{with_changed, answered_row}
use Rattle.acq_lists.proofs.Edits.{changed-rows}
use Rattle.acq_lists.proofs.Edited.{requests_changed, edit_answer}
use Rattle.acq_lists.proofs.requests.Requests.answer.Goals as goal

pub invariant_of-self : goal.invariant_of-self
invariant_of-self c =
    let done = c.answer_at.ensures in
    requests_changed c.args.key.now (answered_row c.args.status c.args.reply c.args.hold_end)
    (edit_answer c.args.status c.args.reply c.args.hold_end) c.self.inside
    c.answer_at.new.rows c.self.invariant done.entries done.unique done.spare

pub returns-clause-rows : goal.returns-clause-rows
returns-clause-rows c =
    ap values_of c.answer_at.ensures.entries
    ∙ (changed-rows c.args.key.now (answered_row c.args.status c.args.reply c.args.hold_end)
    c.self.inside.rows.entries
    c.self.invariant.keyed c.answer_at.ensures.unique
    ∙ ap (λ s. with_changed c.args.key.now
    (answered_row c.args.status c.args.reply c.args.hold_end) s.rows) c.self.view_is)
