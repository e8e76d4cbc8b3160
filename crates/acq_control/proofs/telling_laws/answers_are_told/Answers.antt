use Rattle.acq_control.proofs.SaidAnswers.{bad_line, day_not_over, no_such_merchant, still_pending}
use Rattle.acq_control.proofs.SaidAnswers.{text_comes}
use Rattle.acq_control.proofs.telling_laws.answers_are_told.Goals as goal

pub returns : goal.returns
returns c = record {
  texts = text_comes;
  bad_lines = bad_line;
  merchants = no_such_merchant;
  early = day_not_over;
  pending = still_pending;
}
