use Rattle.std.proofs.Common.{refl}
use Rattle.acq_out.proofs.OnLiterals.{out_on_literals}
use Rattle.acq_out.proofs.laws.worked_output_lines.Goals as goal

pub returns : goal.returns
unfolding out_on_literals
returns c = record {
  reply = refl;
  ask = refl;
  done = refl;
  overlap = refl;
  undecodable = refl;
  empty_frame = refl;
  unserved = refl;
  late = refl;
}
