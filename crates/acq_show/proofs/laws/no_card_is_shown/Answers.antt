use Rattle.acq_show.proofs.HiddenContents.{contents_alike, messages_alike, faults_alike}
use Rattle.acq_show.proofs.laws.no_card_is_shown.Goals as goal

pub returns : goal.returns
returns c = record { content = contents_alike; message = messages_alike; fault = faults_alike }
