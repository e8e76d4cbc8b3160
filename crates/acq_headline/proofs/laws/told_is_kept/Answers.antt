use Rattle.std.proofs.Common.{refl}
use Rattle.acq_core.specs.Tables.{outputs, tables_after}
use Rattle.acq_headline.proofs.RunsClear.{is_cleared_as_told, accepts_only_what_may}
use Rattle.acq_headline.proofs.RunsClear.{captures_within_holds}
use Rattle.acq_headline.proofs.laws.told_is_kept.Goals as goal

pub returns : goal.returns
returns c =
    record {
      cleared = λ t events are.
          is_cleared_as_told t (tables_after t events) events (outputs t events) are refl refl;
      accepted = λ t events are.
          accepts_only_what_may t (tables_after t events) events (outputs t events) are refl refl;
      captured = λ t events are.
          captures_within_holds t (tables_after t events) events (outputs t events) are refl refl;
    }
