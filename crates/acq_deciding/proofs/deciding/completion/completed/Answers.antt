use Rattle.std.proofs.Common.{refl}
use Rattle.acq_deciding.proofs.deciding.completion.completed.Goals as goal

pub returns-clause-output : goal.returns-clause-output
returns-clause-output c =
    rw (c.in_ok-output.ensures.output, c.in_ok-reply.ensures, c.as_request-message.ensures.value) refl

pub returns-clause-change : goal.returns-clause-change
returns-clause-change c =
    rw (
      c.in_ok-output.ensures.row,
      c.in_ok-reply.ensures,
      c.in_ok-card.ensures,
      c.in_ok-posting.ensures,
      c.amount_in-amount.ensures,
      c.as_request-message.ensures.value,
      c.reference_of-row.ensures,
    ) refl
