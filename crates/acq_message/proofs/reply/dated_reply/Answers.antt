use Rattle.acq_message.proofs.AddedElements.{day_fits}
use Rattle.acq_message.proofs.reply.dated_reply.Goals as goal

pub with_content-requires : goal.with_content-requires
with_content-requires c = day_fits c.args.day c.mmdd.result c.mmdd.ensures.text c.mmdd.ensures.digits
