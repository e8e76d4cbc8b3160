use Rattle.std.proofs.Common.{false, refl}
use Rattle.std.proofs.lemmas.List.{get_or-replicate}
use Rattle.iso_codec.proofs.message.marked.Goals as goal

pub loop-number-init : goal.loop-number-init
loop-number-init c = record { size = refl; value = λ n lt. get_or-replicate 256 n false false lt }
