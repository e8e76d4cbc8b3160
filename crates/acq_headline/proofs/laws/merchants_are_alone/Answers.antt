use Rattle.std.proofs.Common.{refl}
use Rattle.acq_core.specs.Tables.{outputs}
use Rattle.acq_headline.proofs.PartiesAlone.{is_alone}
use Rattle.acq_rounds.specs.Runs.{events_in}
use Rattle.acq_rounds.proofs.Running.{did_tables}
use Rattle.acq_headline.proofs.laws.merchants_are_alone.Goals as goal

pub returns : goal.returns
returns g c = λ old new steps did.
    is_alone old new (events_in steps) (outputs old (events_in steps)) refl
    (did_tables (g.C.Clock.may_give c.args.clock.now) (g.I.Issuer.may_say c.args.issuer.now) old new
    steps did)
