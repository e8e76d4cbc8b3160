use Rattle.std.proofs.Common.{refl}
use Rattle.acq_explain.specs.Checks.{passed}
use Rattle.acq_explain.proofs.passed.passed.Goals as goal

pub returns : goal.returns
unfolding passed
returns c =
    rw (
      c.checks_before.ensures,
      c.failed-last.ensures,
      c.has_used_key.ensures,
      c.checks_of.ensures,
      c.as_request.ensures.value,
    )
    refl
