use Rattle.std.proofs.Common.{refl}
use Rattle.acq_core.specs.Tables.{tables_after}
use Rattle.acq_headline.proofs.Closed.{keeps_clearing}
use Rattle.acq_headline.proofs.laws.clearing_is_kept.Goals as goal

pub returns : goal.returns
returns c = λ t events past then.
    keeps_clearing t (tables_after t events) events past then refl
