use Rattle.std.proofs.Common.{◌≡◌, Some, inr, ap, ◌∙◌}
use Rattle.std.proofs.lemmas.Result.{IfErr-weaker, IfOk-weaker}
use Rattle.json.specs.Value.{value_view}
use Rattle.acq_json.specs.Said.{of_value, value_said}
use Rattle.acq_make.proofs.Steps.{or_so}
use Rattle.acq_json.proofs.ValuesRead.{no_text, valued}
use Rattle.acq_json.proofs.reading.message_said.Goals as goal

pub returns-in_default-clause-fault : goal.returns-in_default-clause-fault
returns-in_default-clause-fault c =
    inr (no_text c.args.number c.args.text.now c.in_default.ensures.cases.0)

pub returns-in-Ok-parse-clause-ok : goal.returns-in-Ok-parse-clause-ok
returns-in-Ok-parse-clause-ok c =
    let j = value_view c.in-Ok-parse.value in
    let is : value_said c.args.text.now ≡ Some j =
    valued c.args.text.now c.in-Ok.text.now j c.in-Ok.ensures.cases.0 c.in-Ok.ensures.cases.1
    c.in-Ok-parse.ensures.ok in
    IfOk-weaker c.of_value.result _ _ (λ m h. ap (of_value c.args.number) is ∙ h)
    c.of_value.ensures.ok

pub returns-in-Ok-parse-clause-fault : goal.returns-in-Ok-parse-clause-fault
returns-in-Ok-parse-clause-fault c =
    let j = value_view c.in-Ok-parse.value in
    let is : value_said c.args.text.now ≡ Some j =
    valued c.args.text.now c.in-Ok.text.now j c.in-Ok.ensures.cases.0 c.in-Ok.ensures.cases.1
    c.in-Ok-parse.ensures.ok in
    IfErr-weaker c.of_value.result _ _
    (λ f. or_so (λ h. ap (of_value c.args.number) is ∙ h)) c.of_value.ensures.fault
