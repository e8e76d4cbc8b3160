-- Track 2 splits in just one way, at its first separator.
use Rattle.std.proofs.Common.{◌≡◌, ℕ, true, false, leb}
use Rattle.std.proofs.Common.{List, [], ◌∷◌, ◌++◌, length, Option, Some, None, refl, ap, subst, ◌∙◌}
use Rattle.std.proofs.Common.{arith, inl, inr}
use Rattle.std.specs.Prelude.{option_map}
use Rattle.std.specs.List.{list_all}
use Rattle.std.specs.Char.{is_ascii_digit}
use Rattle.std.proofs.lemmas.Bool.{and_parts, cases_Bool}
use Rattle.std.proofs.lemmas.Bool.{ne_eqb}
use Rattle.card_no.specs.Track2.{is_separator, may_be_number, parts_of, if_number, track2_of}
use Rattle.card_no.specs.Track2.{Splits}
use Rattle.card_no.proofs.DigitPlaces.{digit_bounds}

parts-later : (b : ℕ) (bs : List ℕ) (o : Option (List ℕ × List ℕ)) (p : List ℕ × List ℕ)
    → ((q : List ℕ × List ℕ) → o ≡ Some q →
    (sign : ℕ) × (is_separator sign ≡ true) × (bs ≡ q.0 ++ sign ∷ q.1))
    → option_map (λ q. (b ∷ q.0, q.1)) o ≡ Some p → (sign : ℕ) × (is_separator sign ≡ true)
    × (b ∷ bs ≡ p.0 ++ sign ∷ p.1)
parts-later b bs None p ih h = absurd cc
parts-later b bs (Some q) p ih h =
    let e : Some (b ∷ q.0, q.1) ≡ Some p = h in
    let same : (b ∷ q.0, q.1) ≡ p = cc in
    let (sign, is_sign, text) = ih q refl in
    (sign, is_sign, rw (← same) (ap (λ (l : List ℕ). b ∷ l) text))

parts-are : (text : List ℕ) (p : List ℕ × List ℕ) → parts_of text ≡ Some p →
    (sign : ℕ) × (is_separator sign ≡ true)
    × (text ≡ p.0 ++ sign ∷ p.1)
parts-are [] p h = absurd cc
parts-are (b ∷ bs) p h =
    elim (cases_Bool (is_separator b)) [
      | inl here ↦
          let e : Some ([], bs) ≡ Some p = rw here at h in
          let same : ([], bs) ≡ p = cc in
          (b, here, rw (← same) refl)
      | inr past ↦ parts-later b bs (parts_of bs) p (λ q is. parts-are bs q is) (rw past at h)
    ]

splits-by : (text : List ℕ) (o : Option (List ℕ × List ℕ)) (number after : List ℕ) →
    parts_of text ≡ o → if_number o
    ≡ Some (number, after) → Splits text number after
splits-by text None number after is h = absurd cc
splits-by text (Some p) number after is h =
    elim (cases_Bool (may_be_number p.0)) [
      | inl digits ↦
          let e : Some p ≡ Some (number, after) = rw digits at h in
          let same : p ≡ (number, after) = cc in
          let (sign, is_sign, parts) = parts-are text p is in
          subst (λ (q : List ℕ × List ℕ). Splits text q.0 q.1) same (sign, is_sign, digits, parts)
      | inr other ↦ let e : ◌≡◌ {A = Option (List ℕ × List ℕ)} None (Some (number, after)) =
          rw other at h in absurd cc
    ]

pub splits-from : (text number after : List ℕ) → track2_of text ≡ Some (number, after) →
    Splits text number after
splits-from text number after h = splits-by text (parts_of text) number after refl h

digit_no_separator : (b : ℕ) → is_ascii_digit b ≡ true → is_separator b ≡ false
digit_no_separator b h = let at = digit_bounds b h in rw
    (ne_eqb b 61 (omega (arith, at.1)), ne_eqb b 68 (omega (arith, at.1))) refl

parts-of-number : (number : List ℕ) (sign : ℕ) (after : List ℕ) →
    list_all is_ascii_digit number ≡ true
    → is_separator sign ≡ true → parts_of (number ++ sign ∷ after) ≡ Some (number, after)
parts-of-number [] sign after h s = rw s refl
parts-of-number (b ∷ bs) sign after h s =
    let parts = and_parts (is_ascii_digit b) (list_all is_ascii_digit bs) h in
    rw (digit_no_separator b parts.0, parts-of-number bs sign after parts.1 s) refl

pub splits-to : (text number after : List ℕ) → Splits text number after →
    track2_of text ≡ Some (number, after)
splits-to text number after (sign, is_sign, digits, is) =
    let each = (and_parts (leb (length number) 19) (list_all is_ascii_digit number) digits).1 in
    ap track2_of is ∙ ap if_number (parts-of-number number sign after each is_sign) ∙ rw digits refl
