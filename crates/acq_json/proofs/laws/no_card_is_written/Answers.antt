use Rattle.acq_json.proofs.HiddenLines.{faults_alike, masked_alike, messages_alike}
use Rattle.acq_json.proofs.laws.no_card_is_written.Goals as goal

pub returns : goal.returns
returns c = record { content = masked_alike; message = messages_alike; fault = faults_alike }
