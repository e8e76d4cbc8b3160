use Rattle.std.proofs.Common.{arith, refl}
use Rattle.acq_link.proofs.FirstMessages.{message_is}
use Rattle.acq_link.proofs.RestKept.{takes_out}
use Rattle.acq_link.proofs.deframer.Deframer.discard.Goals as goal

pub returns-clause-gone : goal.returns-clause-gone
returns-clause-gone c whole =
    let left = takes_out c.args.self.now c.self.inside.bytes c.in-Frame.message.now
    c.in-Frame.message.now c.in-Frame.rest.now c.self.inside.start c.self.inside.end
    c.self.view_is c.self.invariant.0 (omega (arith, c.self.invariant.1)) c.in-Frame.ensures refl in
    (message_is _ _ _ left).2
