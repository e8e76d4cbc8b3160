use Rattle.day_totals.proofs.ZeroPadded.{length-zero_padded, all_digits-zero_padded}
use Rattle.day_totals.proofs.ZeroPadded.{digits_value-zero_padded}
use Rattle.day_totals.proofs.laws.digits_spell_numbers.Goals as goal

pub returns-clause-length : goal.returns-clause-length
returns-clause-length c = length-zero_padded

pub returns-clause-digits : goal.returns-clause-digits
returns-clause-digits c = all_digits-zero_padded

pub returns-clause-value : goal.returns-clause-value
returns-clause-value c = digits_value-zero_padded
