use Rattle.acq_message.proofs.ElementsFit.{four_digits}
use Rattle.acq_message.proofs.card.expiry_of.Goals as goal

pub returns-in-Some-clause-size : goal.returns-in-Some-clause-size
returns-in-Some-clause-size c = (four_digits c.in-Some.expiry.now c.in-Some.ensures.fits).0

pub returns-in-Some-clause-digits : goal.returns-in-Some-clause-digits
returns-in-Some-clause-digits c = (four_digits c.in-Some.expiry.now c.in-Some.ensures.fits).1
