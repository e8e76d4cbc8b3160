use Rattle.acq_message.proofs.AddedElements.{authorization_fits}
use Rattle.acq_message.proofs.reply.answered_reply.Goals as goal

pub with_content-requires : goal.with_content-requires
with_content-requires c = rw c.to_bytes.ensures.value (authorization_fits _ c.to_bytes.ensures.valid)
