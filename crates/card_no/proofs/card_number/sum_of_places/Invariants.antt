use Rattle.std.proofs.Common.{◌≡◌, ◌≤◌, ◌+◌, ◌*◌, drop}
use Rattle.card_no.specs.CardNumbers.{check_sum}
use Rattle.card_no.proofs.card_number.sum_of_places.Given as goal

abbrev pub invariant-loop-i : goal.invariant-loop-i
invariant-loop-i l = record {
  sum_is : l.sum + check_sum (drop l.i l.digits) ≡ check_sum l.digits;
  bound : l.sum ≤ 9 * l.i;
}
