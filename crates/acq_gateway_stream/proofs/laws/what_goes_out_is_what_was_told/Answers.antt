use Rattle.acq_gateway_stream.proofs.Following.{new_connection}
use Rattle.acq_gateway_stream.proofs.laws.what_goes_out_is_what_was_told.Goals as goal

pub returns : goal.returns
returns c = new_connection
