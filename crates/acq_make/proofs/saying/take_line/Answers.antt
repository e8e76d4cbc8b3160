use Rattle.std.proofs.Common.{[], inr}
use Rattle.std.proofs.lemmas.Result.{IfErr-weaker, err_from_is_err_and, on_ok_weaker}
use Rattle.acq_make.proofs.Ended.{written_none}
use Rattle.acq_make.proofs.Steps.{bad_step, element_step, element_stops, empty_step, empty_stops}
use Rattle.acq_make.proofs.Steps.{head_step, head_stops, head_unbegun, or_so, remark_step}
use Rattle.acq_make.proofs.saying.take_line.Goals as goal

pub returns-in-None-clause-fault : goal.returns-in-None-clause-fault
returns-in-None-clause-fault c =
    inr (bad_step c.args.draft.now c.args.number c.args.line.now c.in-None.ensures)

pub returns-in-Some-Remark-clause-step : goal.returns-in-Some-Remark-clause-step
returns-in-Some-Remark-clause-step c = (
  [],
  remark_step c.args.draft.now c.args.number c.args.line.now
      (rw c.in-Some-Remark.field-0-is at c.in-Some-Remark.ensures),
  written_none c.args.form.now c.args.out.now.items,
)

pub returns-in-Some-Empty-clause-step : goal.returns-in-Some-Empty-clause-step
returns-in-Some-Empty-clause-step c =
    let is = rw c.in-Some-Empty.field-0-is at c.in-Some-Empty.ensures in
    on_ok_weaker c.end_message.result
    (λ ends. let own = rw c.take.ensures.value at ends in (
      own.0,
      empty_step c.args.draft.now c.take.new.self c.args.number c.args.line.now own.0 is
          c.take.ensures.after own.1,
      own.2,
    ))
    c.end_message.ensures.ok

pub returns-in-Some-Empty-clause-fault : goal.returns-in-Some-Empty-clause-fault
returns-in-Some-Empty-clause-fault c =
    let is = rw c.in-Some-Empty.field-0-is at c.in-Some-Empty.ensures in
    IfErr-weaker c.end_message.result _ _
    (λ f. or_so (λ ends. empty_stops c.args.draft.now c.args.number c.args.line.now f is
    (rw c.take.ensures.value at ends)))
    c.end_message.ensures.fault

pub returns-in_err-end_message-in-Some-Head-clause-fault :
    goal.returns-in_err-end_message-in-Some-Head-clause-fault
returns-in_err-end_message-in-Some-Head-clause-fault c =
    let p = err_from_is_err_and c.from_residual.result c.from_residual.ensures.1 in
    let is = rw c.in-Some-Head.field-0-is at c.in-Some-Head.ensures in
    rw (p.1, p.2)
    (or_so (λ ends. head_stops c.args.draft.now c.args.number c.args.line.now c.in-Some-Head.kind
    c.in_err-end_message-in-Some-Head.field-0.0 is (rw c.take-in-Some-Head.ensures.value at ends))
    c.in_err-end_message-in-Some-Head.ensures.fault)

pub returns-in_err-begun-in-Some-Head-clause-fault :
    goal.returns-in_err-begun-in-Some-Head-clause-fault
returns-in_err-begun-in-Some-Head-clause-fault c =
    let p = err_from_is_err_and c.from_residual-in_err-begun-in-Some-Head.result
    c.from_residual-in_err-begun-in-Some-Head.ensures.1 in
    let is = rw c.in-Some-Head.field-0-is at c.in-Some-Head.ensures in
    let ends = rw c.take-in-Some-Head.ensures.value at
    c.in_ok-end_message-in-Some-Head.ensures.ok in
    rw (p.1, p.2)
    (inr (head_unbegun c.args.draft.now c.args.number c.args.line.now c.in-Some-Head.kind ends.0
    c.in_err-begun-in-Some-Head.field-0.0 is ends.1 c.in_err-begun-in-Some-Head.ensures.fault))

pub returns-in_ok-begun-in-Some-Head-clause-step : goal.returns-in_ok-begun-in-Some-Head-clause-step
returns-in_ok-begun-in-Some-Head-clause-step c =
    let is = rw c.in-Some-Head.field-0-is at c.in-Some-Head.ensures in
    let ends = rw c.take-in-Some-Head.ensures.value at
    c.in_ok-end_message-in-Some-Head.ensures.ok in (
      ends.0,
      head_step c.args.draft.now c.args.number c.args.line.now c.in-Some-Head.kind ends.0
          c.in_ok-begun-in-Some-Head.field-0 is ends.1 c.in_ok-begun-in-Some-Head.ensures.ok,
      ends.2,
    )

pub returns-in_err-with_line-in-Some-Element-clause-fault :
    goal.returns-in_err-with_line-in-Some-Element-clause-fault
returns-in_err-with_line-in-Some-Element-clause-fault c =
    let p = err_from_is_err_and c.from_residual-in_err-with_line-in-Some-Element.result
    c.from_residual-in_err-with_line-in-Some-Element.ensures.1 in
    let is = rw c.in-Some-Element.field-0-is at c.in-Some-Element.ensures in
    rw (p.1, p.2)
    (or_so (λ with. element_stops c.args.draft.now c.args.number c.args.line.now
    c.in-Some-Element.element c.in_err-with_line-in-Some-Element.field-0.0 is
    (rw c.take-in-Some-Element.ensures.value at with))
    c.in_err-with_line-in-Some-Element.ensures.fault)

pub returns-in_ok-with_line-in-Some-Element-clause-step :
    goal.returns-in_ok-with_line-in-Some-Element-clause-step
returns-in_ok-with_line-in-Some-Element-clause-step c =
    let is = rw c.in-Some-Element.field-0-is at c.in-Some-Element.ensures in (
      [],
      element_step c.args.draft.now c.args.number c.args.line.now c.in-Some-Element.element
          c.in_ok-with_line-in-Some-Element.field-0 is
          (rw c.take-in-Some-Element.ensures.value at
          c.in_ok-with_line-in-Some-Element.ensures.ok),
      written_none c.args.form.now c.args.out.now.items,
    )
