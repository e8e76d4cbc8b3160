use Rattle.acq_message.proofs.AddedElements.{reference_fits}
use Rattle.acq_message.proofs.reply.draft_reply.Goals as goal

pub with_content-requires : goal.with_content-requires
with_content-requires c = reference_fits c.args.reference c.text.result c.text.ensures
