use Rattle.std.proofs.Common.{◌∙◌, ap}
use Rattle.std.specs.Map.{values_of}
use Rattle.acq_core.specs.Tables.{with_changed, followed_row}
use Rattle.acq_lists.proofs.Edits.{changed-rows}
use Rattle.acq_lists.proofs.Edited.{requests_changed, edit_follow}
use Rattle.acq_lists.proofs.requests.Requests.follow.Goals as goal

pub invariant_of-self : goal.invariant_of-self
invariant_of-self c =
    let done = c.follow_at.ensures in
    requests_changed c.args.key.now (followed_row c.args.remains)
    (edit_follow c.args.remains) c.self.inside
    c.follow_at.new.rows c.self.invariant done.entries done.unique done.spare

pub returns-clause-rows : goal.returns-clause-rows
returns-clause-rows c =
    ap values_of c.follow_at.ensures.entries
    ∙ (changed-rows c.args.key.now (followed_row c.args.remains) c.self.inside.rows.entries
    c.self.invariant.keyed c.follow_at.ensures.unique
    ∙ ap (λ s. with_changed c.args.key.now (followed_row c.args.remains) s.rows) c.self.view_is)
