use Rattle.std.proofs.Common.{◌≡◌, ◌∙◌, ap, sym, subst}
use Rattle.acq_core.specs.Tables.{with_changed, followed_row}
use Rattle.acq_lists.specs.Rows.{IsNewRow}
use Rattle.acq_lists.proofs.Edited.{new_changed, edit_follow}
use Rattle.acq_list_book.proofs.list_tables.ListTables.follow.Goals as goal

pub push-requires-clause-new : goal.push-requires-clause-new
push-requires-clause-new c =
    let f = followed_row c.args.remains in
    let k = c.args.original.now in
    let rows = c.args.self.now.requests in
    let now : c.follow.new.self.rows ≡ with_changed k f rows =
    c.follow.ensures.rows ∙ ap (with_changed k f)
    (c.reserve_for-2.ensures.rows ∙ ap (λ t. t.requests) c.self.view_is) in
    let new : IsNewRow rows c.args.request.now = record {
      key = c.requires.0.key;
      reference = c.requires.0.reference;
      used = c.requires.0.used;
      admitted = c.requires.0.admitted;
    } in
    subst (λ l. IsNewRow l c.in_ok-request.request) (sym now)
    (subst (λ row. IsNewRow (with_changed k f rows) row) (sym c.in_ok-request.ensures.copy)
    (new_changed k f (edit_follow c.args.remains) rows c.args.request.now new))
