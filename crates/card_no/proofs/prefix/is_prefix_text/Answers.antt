use Rattle.std.proofs.Common.{rules}
use Rattle.card_no.proofs.prefix.is_prefix_text.Goals as goal

pub returns-then-text-eq-DIGITS : goal.returns-then-text-eq-DIGITS
returns-then-text-eq-DIGITS c = search rules

pub returns-else-text-eq-DIGITS : goal.returns-else-text-eq-DIGITS
returns-else-text-eq-DIGITS c = search rules
