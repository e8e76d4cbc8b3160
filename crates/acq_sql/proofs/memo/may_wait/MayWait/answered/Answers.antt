use Rattle.std.proofs.Common.{refl, subst, sym, ◌∙◌}
use Rattle.acq_core.specs.Tables.{answered_row}
use Rattle.acq_book.proofs.KeyTests.{key_eq-same}
use Rattle.acq_sql.specs.Memos.{WaitsNoOther}
use Rattle.acq_sql.specs.declared.memo.may_wait.MayWait.TheVariants as may_wait
use Rattle.acq_sql.proofs.Memos.{last_settled, settled_stay}
use Rattle.acq_sql.proofs.memo.may_wait.MayWait.answered.Goals as goal

-- it was the only one that might wait
pub returns-in-Only : goal.returns-in-Only
returns-in-Only c rows reply hold_end all =
    last_settled c.args.key.now (answered_row c.args.status reply hold_end) c.args.status
    (sym c.is_waiting.ensures ∙ c.if-is_waiting.false) (λ row. refl) c.in-Only.waiting
    (sym (key_eq-same c.args.key.now c.in-Only.waiting) ∙ (sym c.eq.ensures ∙ c.if-eq.true)) rows
    (subst (λ w. WaitsNoOther w rows) c.in-Only.is all)

pub returns-in_default : goal.returns-in_default
returns-in_default c rows reply hold_end all =
    settled_stay c.args.key.now (answered_row c.args.status reply hold_end) c.args.status
    (sym c.is_waiting.ensures ∙ c.if-is_waiting.false) (λ row. refl)
    (may_wait.Only c.in-Only.waiting) rows (subst (λ w. WaitsNoOther w rows) c.in-Only.is all)

pub returns-in_default-2 : goal.returns-in_default-2
returns-in_default-2 c rows reply hold_end all =
    settled_stay c.args.key.now (answered_row c.args.status reply hold_end) c.args.status
    (sym c.is_waiting.ensures ∙ c.if-is_waiting.false) (λ row. refl) c.args.self rows all
