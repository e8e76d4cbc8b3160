use Rattle.acq_soundness.proofs.NumbersStayBounded.{numbers_stay_bounded}
use Rattle.acq_soundness.proofs.book_laws.numbers_stay_bounded.Goals as goal

pub returns : goal.returns
returns c = numbers_stay_bounded
