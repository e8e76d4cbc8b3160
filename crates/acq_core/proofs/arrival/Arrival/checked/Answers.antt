use Rattle.std.proofs.Common.{◌≡◌, Bool, true, false, Ok, Err}
use Rattle.std.specs.Prelude.{if◌then◌else◌}
use Rattle.acq_message.specs.declared.request_message.RequestMessage.{RequestMessage}
use Rattle.acq_message.specs.FirstCheck.{is_malformed}
use Rattle.acq_core.specs.declared.arrival.Arrival.TheVariants.{Requested, Malformed}
use Rattle.acq_core.proofs.arrival.Arrival.checked.Goals as goal

passed : (malformed : Bool) (r given : RequestMessage) →
    Ok given ≡ (if malformed then Err r else Ok r) →
    Requested given ≡ (if malformed then Malformed r else Requested r)
passed true r given h = absurd cc
passed false r given h = cc

refused : (malformed : Bool) (r given : RequestMessage) →
    Err given ≡ (if malformed then Err r else Ok r) →
    Malformed given ≡ (if malformed then Malformed r else Requested r)
refused true r given h = cc
refused false r given h = absurd cc

pub returns-in-Ok : goal.returns-in-Ok
returns-in-Ok c =
    passed (is_malformed c.args.request.service c.args.request.message) c.args.request
    c.in-Ok.request c.in-Ok.ensures

pub returns-in-Err : goal.returns-in-Err
returns-in-Err c =
    refused (is_malformed c.args.request.service c.args.request.message) c.args.request
    c.in-Err.request c.in-Err.ensures
