use Rattle.std.proofs.Common.{◌≡◌, true, sym, subst, ◌∙◌}
use Rattle.acq_message.specs.Elements.{same_key}
use Rattle.acq_book.proofs.KeyTests.{key_eq-same}
use Rattle.acq_sql_changes.specs.Changed.{with_posted}
use Rattle.acq_core.specs.Tables.{after}
use Rattle.acq_sql.specs.Holding.{ChangesGroup, Leads, LeadsPosted}
use Rattle.acq_sql.proofs.EndedRows.{ended_is, ended_leads}
use Rattle.acq_sql.proofs.GroupChanges.{changes_as, changes_fault, changes_then}
use Rattle.acq_sql.proofs.once_book.behind.change_behind.Goals as goal

pub returns-in_err-record-in_default : goal.returns-in_err-record-in_default
returns-in_err-record-in_default g c =
    changes_fault g.S.Store c.args.book.now c.record.new.self (Leads c.args.change.now)
    (λ t. after t c.args.change.now) c.in_err-record-in_default.ensures.changes
    c.from_residual-in_err-record-in_default.result
    c.from_residual-in_err-record-in_default.ensures

pub returns-in_ok-record-in_default : goal.returns-in_ok-record-in_default
returns-in_ok-record-in_default g c =
    changes_then g.S.Store c.args.book.now c.record.new.self c.change.new.self
    c.in_ok-record-in_default.ensures.changes c.change.ensures

-- it is answered as soon as it was recorded
pub returns-in_ok-ended-in-Answered : goal.returns-in_ok-ended-in-Answered
returns-in_ok-ended-in-Answered g c =
    let row = c.args.held in
    let a = c.in-Answered in
    let is : same_key row.key a.key ≡ true =
    sym (key_eq-same a.key row.key) ∙ sym c.eq.ensures ∙ c.if-eq.true in
    let own = c.is_own.ensures c.if-is_own.true in
    rw c.in-Answered.is
    (changes_as g.S.Store c.args.book.now c.record_ended.new.self c.record_ended.result
    (ended_leads row a.key a.status a.reply a.hold_end a.posting is own)
    (ended_is row a.key a.status a.reply a.hold_end a.posting is own)
    (subst (λ ended. ChangesGroup g.S.Store c.args.book.now c.record_ended.new.self
    c.record_ended.result (LeadsPosted ended a.posting) (with_posted ended a.posting))
    c.in_ok-ended-in-Answered.ensures c.record_ended.ensures))
