use Rattle.std.proofs.Common.{sym, ◌∙◌}
use Rattle.acq_sql.proofs.Memos.{settled_stay}
use Rattle.acq_sql.proofs.memo.may_wait.MayWait.changed.Goals as goal

pub returns-else-is_waiting : goal.returns-else-is_waiting
returns-else-is_waiting c rows key change statuses all =
    settled_stay key change c.args.status (sym c.is_waiting.ensures ∙ c.if-is_waiting.false)
    statuses c.args.self rows all
