use Rattle.std.proofs.Common.{◌≤◌, length, arith}
use Rattle.std.proofs.lemmas.Bool.{le-leb}
use Rattle.acq_message.proofs.ElementsFit.{below_twelve}
use Rattle.acq_message.proofs.elements.remaining_in.Goals as goal
use Rattle.acq_message.proofs.elements.remaining_in.Goals.{then-all_digits, else-all_digits}

pub unreachable-requires : goal.unreachable-requires
unreachable-requires c =
    let short : c.if-all_digits.number ≤ 999_999_999_999 =
    elim c.if-all_digits.branch [
      | then-all_digits w ↦
          rw w.number-is
          (below_twelve w.digits_value-number.result (length c.remaining_text-text.result.now)
          w.digits_value-number.ensures.bound c.remaining_text-text.ensures.short)
      | else-all_digits w ↦ rw w.number-is (omega arith)
    ] in
    c.in_default.ensures (le-leb c.if-all_digits.number 999_999_999_999 short)
