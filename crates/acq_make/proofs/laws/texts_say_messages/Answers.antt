use Rattle.acq_make.proofs.Messages.{said_are_sent}
use Rattle.acq_make.proofs.laws.texts_say_messages.Goals as goal

pub returns : goal.returns
returns c = said_are_sent
