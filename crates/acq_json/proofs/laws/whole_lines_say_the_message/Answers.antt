use Rattle.acq_json.proofs.SaidBack.{line_back}
use Rattle.acq_json.proofs.laws.whole_lines_say_the_message.Goals as goal

pub returns : goal.returns
returns c = line_back
