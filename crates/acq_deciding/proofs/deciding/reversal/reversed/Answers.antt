use Rattle.std.proofs.Common.{refl}
use Rattle.acq_deciding.proofs.deciding.reversal.reversed.Goals as goal

pub returns-clause-output : goal.returns-clause-output
returns-clause-output c =
    rw (
      c.in_ok-output.ensures.output,
      c.in_ok-reply.ensures,
      c.reference_of.ensures,
      c.as_request-message.ensures.value,
    ) refl

pub returns-clause-change : goal.returns-clause-change
returns-clause-change c =
    rw (
      c.in_ok-output.ensures.row,
      c.in_ok-reply.ensures,
      c.in_ok-posting.ensures,
      c.remains_of.ensures,
      c.remaining_in.ensures,
      c.reversing_leg-row.ensures,
      c.posted_leg.ensures,
      c.as_request-message.ensures.value,
      c.reference_of.ensures,
      c.reference_of-row.ensures,
    ) refl
