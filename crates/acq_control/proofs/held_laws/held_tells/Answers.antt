use Rattle.acq_control.proofs.HeldLines.{holds_in_line, holds_none_of, holds_nothing, holds_some}
use Rattle.acq_control.proofs.held_laws.held_tells.Goals as goal

pub returns : goal.returns
returns c = record {
  first = holds_nothing;
  none = holds_none_of;
  within = holds_in_line;
  some = holds_some;
}
