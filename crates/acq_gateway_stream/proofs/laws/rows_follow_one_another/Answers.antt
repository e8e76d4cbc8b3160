use Rattle.acq_gateway_stream.proofs.Following.{rows_follow}
use Rattle.acq_gateway_stream.proofs.laws.rows_follow_one_another.Goals as goal

pub returns : goal.returns
returns c = rows_follow
