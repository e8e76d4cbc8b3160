-- What a range's end is printed as, zeros in front, is what the texts of faults have.
use Rattle.std.proofs.Common.{◌≡◌, ◌-◌, ◌^◌, ℕ, length, refl, arith}
use Rattle.std.specs.Fmt.{char_count, decimal, format_spec, padded_integral, styled_decimal}
use Rattle.std.proofs.lemmas.List.{append-nil}
use Rattle.card_no.specs.Prefix.{prefix_digits}
use Rattle.card_no.specs.FaultTexts.{end_text}

pub styled_decimal-end : (n : ℕ) →
    styled_decimal (format_spec 32 0 4 prefix_digits (2 ^ 64 - 1)) n ≡ end_text n
unfolding padded_integral char_count
styled_decimal-end n =
    let padding : prefix_digits - length (decimal n) - 0 - 0 ≡ prefix_digits - length (decimal n) =
    omega arith in
    rw (padding, append-nil (decimal n)) refl
