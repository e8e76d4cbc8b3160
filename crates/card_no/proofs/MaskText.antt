-- The text of a masked number.
use Rattle.std.proofs.Common.{◌≡◌, ◌∙◌, ap, arith, ℕ, zero, suc, ◌+◌, ◌-◌, ◌<◌, ◌≤◌, lit<, List, []}
use Rattle.std.proofs.Common.{◌∷◌, ◌++◌, length}
use Rattle.std.proofs.Common.{take, drop, slice_index}
use Rattle.std.specs.Prelude.{replicate}
use borrow.Rule.Slice.PartMut.{put_mid}
use Rattle.std.proofs.lemmas.Slice.{take-put_mid}
use Rattle.std.proofs.lemmas.List.{take_rest, length-take-le, length-drop, length-append}
use Rattle.std.proofs.lemmas.List.{length-replicate}
use Rattle.std.proofs.lemmas.List.{take-replicate}
use Rattle.std.proofs.Math.Seq.{take-append-add}
use Rattle.std.specs.Char.{is_ascii_digit}
use Rattle.std.specs.Prelude.{IsAscii, true}
use Rattle.std.specs.List.{list_all}
use Rattle.std.proofs.lemmas.Str.{IsAscii-append, IsAscii-take, IsAscii-drop}
use Rattle.std.proofs.lemmas.Bool.{and_parts}
use Rattle.card_no.proofs.DigitPlaces.{digit_bounds}
use Rattle.std.proofs.lemmas.Str.Ascii.{IsAscii-from_all}
use Rattle.std.proofs.lemmas.List.Elements.{All-replicate}
use Rattle.card_no.specs.CardNumbers.{masked_of, shown_first, shown_last}

-- the first six digits before a row of `*`, and the last four put over its end
pub masked-text : (digits first last : List ℕ) → 10 ≤ length digits → length digits ≤ 19 →
    first ≡ take 6 digits
    → last ≡ take (length digits - (length digits - 4)) (drop (length digits - 4) digits)
    → take (length digits)
    (put_mid (length digits - 4) (length digits - (length digits - 4))
    (first ++ replicate 13 42)
    last) ≡ masked_of digits
masked-text digits first last least greatest f l =
    let n = length digits in
    let end : last ≡ drop (n - 4) digits = l ∙ take_rest digits (n - 4) in
    let size : length last ≡ 4 = ap length end ∙ length-drop (n - 4) digits ∙ omega arith in
    let six : length first ≡ 6 = ap length f ∙ length-take-le 6 digits (omega arith) in
    let room : length (first ++ replicate 13 42) ≡ 19 = length-append first (replicate 13 42)
    ∙ omega (arith, six, length-replicate {A = ℕ} 13 42) in
    let whole : n ≡ (n - 4) + length last = omega (arith, size) in
    let fits : n - 4 ≤ length (first ++ replicate 13 42) = omega (arith, room) in
    let split : n - 4 ≡ length first + (n - 10) = omega (arith, six) in
    let stars : take (n - 4) (first ++ replicate 13 42) ≡ first ++ replicate (n - 10) 42 =
    ap (λ (k : ℕ). take k (first ++ replicate 13 42)) split ∙ take-append-add first
    (replicate 13 42) (n - 10)
    ∙ ap (λ (t : List ℕ). first ++ t) (take-replicate (n - 10) 13 42 (omega arith)) in
    take-put_mid (n - 4) (n - (n - 4)) (first ++ replicate 13 42) last n whole fits
    ∙ ap (λ (t : List ℕ). t ++ last) stars
    ∙ ap (λ (t : List ℕ). t ++ replicate (n - 10) 42 ++ last) f
    ∙ ap (λ (t : List ℕ). take 6 digits ++ replicate (n - 10) 42 ++ t) end

digits-ascii : (xs : List ℕ) (i : ℕ) → list_all is_ascii_digit xs ≡ true → slice_index xs i < 128
digits-ascii [] i h = lit< tt
digits-ascii (x ∷ xs) zero h =
    let bounds = digit_bounds x (and_parts (is_ascii_digit x) (list_all is_ascii_digit xs) h).0 in
    omega (arith, bounds.1)
digits-ascii (x ∷ xs) (suc i) h =
    digits-ascii xs i (and_parts (is_ascii_digit x) (list_all is_ascii_digit xs) h).1

-- a mask is ASCII, as the digits are
pub IsAscii-masked_of : (digits : List ℕ) → list_all is_ascii_digit digits ≡ true →
    IsAscii (masked_of digits)
IsAscii-masked_of digits each =
    let stars = replicate (length digits - (shown_first + shown_last)) 42 in
    let ascii : IsAscii digits = λ i. digits-ascii digits i each in
    let front : IsAscii (take shown_first digits ++ stars) =
    IsAscii-append (take shown_first digits) stars (IsAscii-take digits shown_first ascii)
    (IsAscii-from_all stars
    (All-replicate (λ b. b < 128) (length digits - (shown_first + shown_last)) 42 (lit< tt))) in
    IsAscii-append (take shown_first digits ++ stars) (drop (length digits - shown_last) digits)
    front
    (IsAscii-drop digits (length digits - shown_last) ascii)
