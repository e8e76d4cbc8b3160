use Rattle.acq_soundness.proofs.SensitiveDataStaysOut.{sensitive_data_stays_out}
use Rattle.acq_soundness.proofs.book_laws.sensitive_data_stays_out.Goals as goal

pub returns : goal.returns
returns c = sensitive_data_stays_out
