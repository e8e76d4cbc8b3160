use Rattle.std.proofs.Common.{refl}
use Rattle.hex.proofs.OnLiterals.{hex_on_literals}
use Rattle.iso_codec.proofs.Computing.{on_literals}
use Rattle.acq_reports.proofs.OnLiterals.{reports_on_literals}
use Rattle.acq_gateway_stream.proofs.laws.worked_lines.Goals as goal

pub returns : goal.returns
unfolding reports_on_literals hex_on_literals on_literals
returns c = record {
  query = refl;
  again = refl;
  rows = refl;
}
