use Rattle.std.proofs.Common.{◌∙◌, ◌<◌, ◌^◌, arith, ap}
use Rattle.std.specs.Str.Parse.{digits_value}
use Rattle.day_totals.proofs.ZeroPadded.{digits_value-zero_padded}
use Rattle.day_totals.proofs.totals.Totals.count_text.Goals as goal

pub returns-clause-number : goal.returns-clause-number
returns-clause-number c =
    let fits : c.count.result < 10 ^ 10 = omega arith in
    ap (digits_value 10) c.write_digits.ensures ∙ digits_value-zero_padded 10 c.count.result fits
    ∙ c.count.ensures.value
