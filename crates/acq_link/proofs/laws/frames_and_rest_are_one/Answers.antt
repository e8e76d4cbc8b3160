use Rattle.acq_link.proofs.FramesReadOnce.{frames_then_once}
use Rattle.acq_link.proofs.laws.frames_and_rest_are_one.Goals as goal

pub returns : goal.returns
returns c = λ bytes messages others rest after a b h k. frames_then_once bytes messages others rest
    after a b h k
