use Rattle.iso_codec.proofs.OneMessage.{read_once}
use Rattle.iso_codec.proofs.laws.reads_one.Goals as goal

pub returns : goal.returns
returns c = λ text m n a b. read_once text m n a b
