use Rattle.std.proofs.Common.{◌∙◌, ◌<◌, ◌^◌, arith, ap}
use Rattle.std.specs.Str.Parse.{digits_value}
use Rattle.day_totals.proofs.ZeroPadded.{digits_value-zero_padded}
use Rattle.day_totals.proofs.totals.Totals.amount_text.Goals as goal

pub returns-clause-number : goal.returns-clause-number
returns-clause-number c =
    let fits : c.amount.result < 10 ^ 16 = omega arith in
    ap (digits_value 10) c.write_digits.ensures ∙ digits_value-zero_padded 16 c.amount.result fits
    ∙ c.amount.ensures.value
