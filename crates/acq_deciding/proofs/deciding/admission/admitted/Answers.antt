use Rattle.std.proofs.Common.{refl}
use Rattle.acq_deciding.proofs.deciding.admission.admitted.Goals as goal

pub returns-clause-output : goal.returns-clause-output
returns-clause-output c =
    rw (c.in_ok-query.ensures) refl

pub returns-clause-change : goal.returns-clause-change
returns-clause-change c =
    rw (
      c.in_ok-row.ensures,
      c.in_ok-draft.ensures,
      c.admitted_leg-row.ensures,
      c.sale_leg.ensures,
      c.as_request-message.ensures.value,
    ) refl
