use Rattle.acq_soundness.proofs.RepliesAreMessages.{replies_are_messages}
use Rattle.acq_soundness.proofs.book_laws.replies_are_messages.Goals as goal

pub returns : goal.returns
returns c = replies_are_messages
