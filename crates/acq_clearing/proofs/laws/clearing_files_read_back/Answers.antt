use Rattle.acq_clearing.proofs.ReadBack.{reads_back}
use Rattle.acq_clearing.proofs.laws.clearing_files_read_back.Goals as goal

pub returns : goal.returns
returns c = reads_back
