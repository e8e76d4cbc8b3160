use Rattle.std.proofs.Common.{◌∙◌, Err, refl}
use Rattle.iso_codec.specs.Reading.{spelling}
use Rattle.acq_ask.proofs.CountedUp.{front_sent}
use Rattle.acq_ask.proofs.repeating.send_once.Goals as goal

pub returns-in-Err : goal.returns-in-Err
returns-in-Err g c =
    let said = c.in-Err.ensures in (
      said.0,
      said.1,
      said.2,
      said.3,
      (
        front_sent c.as_slice.result.now (spelling c.args.message.now) said.0
            (Err c.in-Err.cause) (c.as_slice.ensures.value ∙ c.in_ok-text.ensures.0)
            said.4.whole,
        refl,
      ),
    )
