use Rattle.std.proofs.Common.{◌∙◌}
use Rattle.acq_out.proofs.TwelveDigits.{some_where}
use Rattle.acq_out.proofs.fields.reference_of.Goals as goal

pub returns : goal.returns
returns c = some_where _ _ _ c.from_number.ensures c.in_ok-number_of.ensures.range
    ∙ c.in_ok-number_of.ensures.value
