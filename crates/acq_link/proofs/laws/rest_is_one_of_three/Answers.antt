use Rattle.acq_link.proofs.FramesReadOnce.{rest_is, partial_is, bad_length_is}
use Rattle.acq_link.proofs.laws.rest_is_one_of_three.Goals as goal

pub returns-clause-some : goal.returns-clause-some
returns-clause-some c = λ rest h. rest_is rest h

pub returns-clause-part : goal.returns-clause-part
returns-clause-part c = λ rest h. partial_is rest h

pub returns-clause-bad : goal.returns-clause-bad
returns-clause-bad c = λ rest h. bad_length_is rest h
