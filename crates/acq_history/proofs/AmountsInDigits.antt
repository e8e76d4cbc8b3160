-- The amounts that elements say, in their digits.
use Rattle.std.proofs.Common.{◌≡◌, ℕ, suc, ◌+◌, ◌*◌, ◌/◌, ◌%◌, List, [], ◌∷◌, ◌++◌, length, take}
use Rattle.std.proofs.Common.{◌<◌, true, cond, sym, ap, ◌∙◌, subst, arith}
use Rattle.std.proofs.Common.{append_assoc, append-nil, length-take-le}
use Rattle.std.specs.Char.{is_ascii_digit, digit_value}
use Rattle.std.specs.List.{list_all}
use Rattle.std.specs.Prelude.{◌==◌}
use Rattle.std.specs.Str.Parse.{digits_value, digits_value_after}
use Rattle.std.proofs.lemmas.Bool.{and_parts}
use Rattle.std.proofs.lemmas.Bool.Decides.{nat_tests}
use Rattle.iso_codec.specs.Content.{has_class}
use Rattle.iso_codec.specs.Table.{format_of}
use Rattle.iso_codec.specs.Message.{is_element}
use Rattle.day_totals.specs.Digits.{zero_padded}
use Rattle.acq_message.specs.Elements.{or_empty}
use Rattle.acq_soundness.proofs.Arrivals.{IsArrival, of_event}
use Rattle.acq_soundness.proofs.ContentsFit.{content-fits}
use Rattle.acq_soundness.proofs.Keys.{eqb_is}
use Rattle.acq_history.specs.SpelledAmounts as statement

-- ---- digits and their number

digit_is : (c : ℕ) → is_ascii_digit c ≡ true → 48 + digit_value c ≡ c
digit_is c h = grind (arith, nat_tests)

digit_value-lt : (c : ℕ) → is_ascii_digit c ≡ true → digit_value c < 10
digit_value-lt c h = grind (arith, nat_tests)

quotient : (n d : ℕ) → d < 10 → (n * 10 + d) / 10 ≡ n
quotient n d h = omega arith

remainder : (n d : ℕ) → d < 10 → (n * 10 + d) % 10 ≡ d
remainder n d h = omega arith

-- digits behind those of a number
spelled_after : (k n : ℕ) (text : List ℕ) → list_all is_ascii_digit text ≡ true →
    zero_padded (k + length text) (digits_value_after 10 n text) ≡ zero_padded k n ++ text
unfolding zero_padded
spelled_after k n [] are =
    let places : k + 0 ≡ k = omega arith in
    ap (λ p. zero_padded p n) places ∙ sym (append-nil (zero_padded k n))
spelled_after k n (c ∷ cs) are =
    let parts = and_parts (is_ascii_digit c) (list_all is_ascii_digit cs) are in
    let d = digit_value c in
    let below = digit_value-lt c parts.0 in
    let places : k + suc (length cs) ≡ suc k + length cs = omega arith in
    ap (λ p. zero_padded p (digits_value_after 10 (n * 10 + d) cs)) places
    ∙ (spelled_after (suc k) (n * 10 + d) cs parts.1
    ∙ ((λ i. (zero_padded k (quotient n d below i) ++ (48 + remainder n d below i) ∷ []) ++ cs)
    ∙ ((λ i. (zero_padded k n ++ digit_is c parts.0 i ∷ []) ++ cs)
    ∙ append_assoc (zero_padded k n) (c ∷ []) cs)))

-- digits are those of their number
spelled : (places : ℕ) (text : List ℕ) → length text ≡ places →
    list_all is_ascii_digit text ≡ true →
    text ≡ zero_padded places (digits_value 10 text)
unfolding zero_padded
spelled places text long are =
    let whole : places ≡ 0 + length text = omega (arith, long) in
    sym (ap (λ p. zero_padded p (digits_value 10 text)) whole ∙ spelled_after 0 0 text are)

-- ---- elements 4 and 95

pub requests_are_messages : statement.RequestsAreMessages
requests_are_messages e r is came = (subst IsArrival came (of_event e is)).message

amount_element : (text : List ℕ) → is_element (4, text) ≡ true →
    (length text ≡ 12) × (list_all is_ascii_digit text ≡ true)
unfolding format_of has_class
amount_element text h =
    let parts = and_parts (length text == 12) (list_all is_ascii_digit text) h in
    (eqb_is (length text) 12 parts.0, parts.1)

pub amounts_are_spelled : statement.AmountsAreSpelled
amounts_are_spelled m text whole there =
    let fits = amount_element text (content-fits m 4 text whole there) in
    spelled 12 text fits.0 fits.1
    ∙ ap (λ o. zero_padded 12 (digits_value 10 (or_empty o))) (sym there)

remainder_element : (text : List ℕ) → is_element (95, text) ≡ true → length (take 12 text) ≡ 12
unfolding format_of has_class
remainder_element text h =
    let long = eqb_is (length text) 42 (and_parts (length text == 42) _ h).0 in
    length-take-le 12 text (omega (arith, long))

pub remainders_are_spelled : statement.RemaindersAreSpelled
remainders_are_spelled m text whole there are =
    spelled 12 (take 12 text) (remainder_element text (content-fits m 95 text whole there)) are
    ∙ sym ((λ i. zero_padded 12
    (cond (list_all is_ascii_digit (take 12 (or_empty (there i))))
    (digits_value 10 (take 12 (or_empty (there i)))) 0))
    ∙ ap (λ b. zero_padded 12 (cond b (digits_value 10 (take 12 text)) 0)) are)

pub nothing_else_remains : statement.NothingElseRemains
nothing_else_remains m none =
    λ i. cond (list_all is_ascii_digit (take 12 (or_empty (none i))))
    (digits_value 10 (take 12 (or_empty (none i)))) 0
