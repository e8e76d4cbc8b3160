use Rattle.iso_codec.specs.Reading.{spelling}
use Rattle.iso_codec.proofs.WrittenIsRead.{is_read}
use Rattle.iso_codec.proofs.ReadingComputes.{reads_as}
use Rattle.iso_codec.proofs.SpellingComputes.{spelling_writes}
use Rattle.iso_codec.proofs.laws.spelling_is_read.Goals as goal

pub returns : goal.returns
returns c = λ m l. reads_as (spelling m) m (is_read (spelling m) m (spelling_writes m l))
