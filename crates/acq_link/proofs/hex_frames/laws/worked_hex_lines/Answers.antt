use Rattle.std.proofs.Common.{refl}
use Rattle.hex.proofs.OnLiterals.{hex_on_literals}
use Rattle.acq_link.proofs.hex_frames.laws.worked_hex_lines.Goals as goal

pub returns : goal.returns
unfolding hex_on_literals
returns c = record {
  none = refl;
  one = refl;
  two = refl;
  no_line_feed = refl;
  empty_lines = refl;
  second = refl;
  behind_empty = refl;
  first = refl;
  two_returns = refl;
}
