-- What a host says comes as answers.
use Rattle.std.proofs.Common.{◌≡◌, ◌∙◌, ◌<◌, ◌≤◌, ◌^◌, ℕ, true, List, [], ◌∷◌, ◌++◌, length, codes}
use Rattle.std.proofs.Common.{refl, ap, sym, arith, append-nil, Some}
use Rattle.std.specs.List.{list_all}
use Rattle.std.specs.Char.{is_ascii_digit}
use Rattle.std.specs.Fmt.{decimal}
use Rattle.std.specs.Str.Parse.{AllDigits, digits_value}
use Rattle.std.proofs.lemmas.Bool.{le-leb}
use Rattle.std.proofs.lemmas.Bool.Decides.{nat_tests}
use Rattle.std.proofs.lemmas.Fmt.{decimal_is_IsNumeral, length-decimal-le}
use Rattle.std.proofs.lemmas.Str.Parse.{digit_from_value}
use Rattle.acq_faults.specs.declared.fault.Fault.TheVariants as fault
use Rattle.acq_control.specs.Answers.{text_answer}
use Rattle.acq_control.specs.Lines.{IsInLine, is_in_line, line_feed}
use Rattle.acq_control.specs.HostAnswers.{Answer, is_length_text, length_of_text}
use Rattle.acq_control.specs.SaidAnswers.{ComesAsFault, ComesAsText}

-- ---- numbers

digits_all : (ds : List ℕ) → AllDigits 10 ds → list_all is_ascii_digit ds ≡ true
digits_all [] all = refl
digits_all (d ∷ ds) all =
    let range = digit_from_value d all.0 in
    let one : is_ascii_digit d ≡ true = grind (arith, nat_tests) in
    rw one (digits_all ds all.1)

digits_in_line : (ds : List ℕ) → AllDigits 10 ds → IsInLine ds
digits_in_line [] all = refl
digits_in_line (d ∷ ds) all =
    let range = digit_from_value d all.0 in
    let one : is_in_line d ≡ true = grind (arith, nat_tests) in
    rw one (digits_in_line ds all.1)

length_read : (digits : List ℕ) (n : ℕ) → 1 ≤ length digits → length digits ≤ 16 →
    list_all is_ascii_digit digits ≡ true → digits_value 10 digits ≡ n →
    length_of_text digits ≡ Some n
length_read digits n some few all value =
    let a = le-leb 1 (length digits) some in
    let b = le-leb (length digits) 16 few in
    let is : is_length_text digits ≡ true = rw (a, b, all) refl in
    rw (is, value) refl

-- ---- texts

pub text_comes : (text : List ℕ) → length text < 10 ^ 16 → ComesAsText text
text_comes text fits =
    let n = length text in
    let numeral = decimal_is_IsNumeral n (omega arith) in
    let few = length-decimal-le 16 n (omega arith) fits (omega arith) in
    let digits = decimal n in
    let answer : Answer = record { line = codes "text " ++ digits; text = text } in (
      answer,
      record {
        is = record {
          within = digits_in_line digits numeral.0.1;
          behind = length_read digits n (omega (arith, numeral.0.0)) few
              (digits_all digits numeral.0.1) numeral.1;
        };
        whole = sym (append-nil (text_answer text));
      },
      refl,
      refl,
    )

-- ---- faults

only_digits : (digits : List ℕ) →
    digits ++ line_feed ∷ [] ≡ ((digits ++ line_feed ∷ []) ++ []) ++ []
only_digits digits =
    sym (append-nil ((digits ++ line_feed ∷ []) ++ []) ∙ append-nil (digits ++ line_feed ∷ []))

pub no_such_merchant : ComesAsFault fault.NoSuchMerchant
no_such_merchant = (
  record { line = codes "acqd: 37 NoSuchMerchant"; text = [] },
  record { is = record { within = refl; behind = refl }; whole = refl },
  refl,
  refl,
)

pub day_not_over : ComesAsFault fault.DayNotOver
day_not_over = (
  record { line = codes "acqd: 60 DayNotOver"; text = [] },
  record { is = record { within = refl; behind = refl }; whole = refl },
  refl,
  refl,
)

pub bad_line : (n : ℕ) → n < 2 ^ 64 → ComesAsFault (fault.BadLine n)
bad_line n fits =
    let numeral = decimal_is_IsNumeral n fits in (
      record { line = codes "acqd: 62 BadLine " ++ decimal n; text = [] },
      record {
        is = record { within = digits_in_line (decimal n) numeral.0.1; behind = refl };
        whole = ap (λ (l : List ℕ). codes "acqd: 62 BadLine " ++ l) (only_digits (decimal n));
      },
      refl,
      refl,
    )

pub still_pending : (n : ℕ) → n < 2 ^ 64 → ComesAsFault (fault.StillPending n)
still_pending n fits =
    let numeral = decimal_is_IsNumeral n fits in (
      record { line = codes "acqd: 61 StillPending " ++ decimal n; text = [] },
      record {
        is = record { within = digits_in_line (decimal n) numeral.0.1; behind = refl };
        whole = ap (λ (l : List ℕ). codes "acqd: 61 StillPending " ++ l)
            (only_digits (decimal n));
      },
      refl,
      refl,
    )
