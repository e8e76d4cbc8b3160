use Rattle.acq_soundness.proofs.RowsFitTheirTypes.{rows_fit_their_types}
use Rattle.acq_soundness.proofs.book_laws.rows_fit_their_types.Goals as goal

pub returns : goal.returns
returns c = rows_fit_their_types
