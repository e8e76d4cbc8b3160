use Rattle.iso_codec.proofs.WrittenIsRead.{is_read}
use Rattle.iso_codec.proofs.laws.written_is_read.Goals as goal

pub returns : goal.returns
returns c = λ text m w. is_read text m w
