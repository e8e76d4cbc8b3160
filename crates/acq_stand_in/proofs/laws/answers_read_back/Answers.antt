use Rattle.acq_stand_in.proofs.AnswersReadBack.{reads_as_answers}
use Rattle.acq_stand_in.proofs.laws.answers_read_back.Goals as goal

pub returns : goal.returns
returns c = reads_as_answers
