use Rattle.std.proofs.Common.{refl}
use Rattle.acq_core.specs.Tables.{outputs, tables_after}
use Rattle.acq_headline.proofs.PartiesAlone.{is_alone}
use Rattle.acq_headline.proofs.laws.runs_are_alone.Goals as goal

pub returns : goal.returns
returns c = λ t events.
    is_alone t (tables_after t events) events (outputs t events) refl refl
