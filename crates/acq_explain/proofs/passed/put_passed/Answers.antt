use Rattle.std.proofs.Common.{◌≡◌, ◌++◌, List, subst}
use Rattle.std.specs.Prelude.{OnOk}
use Rattle.acq_explain.specs.declared.check.Check.{Check}
use Rattle.acq_explain.specs.Checks.{checks_line}
use Rattle.acq_explain.proofs.passed.put_passed.Goals as goal

pub returns : goal.returns
returns c =
    subst (λ (checks : List Check). OnOk c.put_checks.result
    (c.put_checks.new.text.items ≡ c.args.text.now.items ++ checks_line checks))
    c.passed.ensures c.put_checks.ensures
