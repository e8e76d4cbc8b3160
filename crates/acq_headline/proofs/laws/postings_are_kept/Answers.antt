use Rattle.std.proofs.Common.{refl}
use Rattle.acq_core.specs.Tables.{tables_after}
use Rattle.acq_headline.proofs.PartiesAlone.{keeps_postings}
use Rattle.acq_headline.proofs.laws.postings_are_kept.Goals as goal

pub returns : goal.returns
returns c = λ t events past.
    keeps_postings t (tables_after t events) events past refl
