use Rattle.std.proofs.Common.{◌∙◌}
use Rattle.acq_message.proofs.ElementsFit.{names_merchant, some_where}
use Rattle.acq_message.proofs.reply.merchant_in.Goals as goal

pub returns : goal.returns
returns c =
    let text = c.in_ok-get.field-0.now in
    some_where c.read.result _ text c.read.ensures (names_merchant text c.in_ok-get.ensures.fits)
    ∙ c.in_ok-get.ensures.value
