use Rattle.std.proofs.Common.{◌∙◌, ap, sym}
use Rattle.std.specs.Option.{option_copied_mut}
use Rattle.acq_core.specs.Tables.{answered_row}
use Rattle.acq_book.specs.Keys.{key_eq}
use Rattle.acq_lists.proofs.Edits.{set-changed, none-changed}
use Rattle.acq_lists.proofs.requests.answer_at.Goals as goal

pub returns-in-Some-clause-entries : goal.returns-in-Some-clause-entries
returns-in-Some-clause-entries c =
    (c.get_mut.follows.holds _).0
    ∙ set-changed (key_eq c.args.key.now)
    (answered_row c.args.status c.args.reply c.args.hold_end) c.args.rows.now.entries
    c.in-Some.row.now
    (sym c.get_mut.ensures.value ∙ ap option_copied_mut c.in-Some.is)

pub returns-in_default-clause-entries : goal.returns-in_default-clause-entries
returns-in_default-clause-entries c =
    ap (λ m. m.entries) c.get_mut.follows.holds-at-none
    ∙ sym (none-changed (key_eq c.args.key.now)
    (answered_row c.args.status c.args.reply c.args.hold_end) c.args.rows.now.entries
    (sym c.get_mut.ensures.value ∙ ap option_copied_mut c.in_default.is))
