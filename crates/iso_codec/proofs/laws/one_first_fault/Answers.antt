use Rattle.iso_codec.proofs.OneFirstFault.{fault_once}
use Rattle.iso_codec.proofs.laws.one_first_fault.Goals as goal

pub returns : goal.returns
returns c = λ text fault other h k. fault_once text fault other h k
