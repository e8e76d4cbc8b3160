use Rattle.acq_link.proofs.FramesReadOnce.{frames_once}
use Rattle.acq_link.proofs.laws.frames_are_of_one_list.Goals as goal

pub returns : goal.returns
returns c = λ bytes messages others a b. frames_once bytes messages others a b
