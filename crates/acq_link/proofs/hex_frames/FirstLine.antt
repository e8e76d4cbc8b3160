-- The first line of a text.
use Rattle.std.proofs.Common.{◌≡◌, ℕ, zero, suc, ◌+◌, ◌<◌, List, [], ◌∷◌, length, take, drop, refl}
use Rattle.std.proofs.Common.{ap}
use Rattle.std.proofs.Common.{Some, None, leb, inl, inr, arith}
use Rattle.std.specs.Prelude.{◌==◌, not}
use Rattle.std.specs.List.{prefix_len, position}
use Rattle.std.proofs.lemmas.Bool.{cases_Bool, leb-true, leb-false}
use Rattle.std.proofs.lemmas.List.Sums.{prefix_len-le-length}
use Rattle.acq_link.specs.HexLines.{on_first, lines_of}

-- how many bytes stand in front of the first line feed
abbrev line_length : List ℕ → ℕ
line_length text = prefix_len (λ byte. not (byte == 10)) text

take-first : (text : List ℕ) (n : ℕ) → line_length text ≡ n → n < length text
    → lines_of text ≡ take n text ∷ lines_of (drop (suc n) text)
take-first [] n e h = absurd (omega (arith, h))
take-first (byte ∷ rest) zero e h =
    elim (cases_Bool (byte == 10)) [
      | inl feed ↦ rw feed refl
      | inr other ↦ let more : 1 + line_length rest ≡ 0 = rw other at e in
          absurd (omega (arith, more))
    ]
take-first (byte ∷ rest) (suc n) e h =
    elim (cases_Bool (byte == 10)) [
      | inl feed ↦ let none : 0 ≡ suc n = rw feed at e in absurd (omega (arith, none))
      | inr other ↦
          let tail : 1 + line_length rest ≡ suc n = rw other at e in
          rw other (ap (on_first byte) (take-first rest n (omega (arith, tail)) (omega (arith, h))))
    ]

take-last : (byte : ℕ) (rest : List ℕ) → line_length (byte ∷ rest) ≡ length (byte ∷ rest)
    → lines_of (byte ∷ rest) ≡ (byte ∷ rest) ∷ []
take-last byte [] e =
    elim (cases_Bool (byte == 10)) [
      | inl feed ↦ let none : 0 ≡ 1 = rw feed at e in absurd (omega (arith, none))
      | inr other ↦ rw other refl
    ]
take-last byte (next ∷ rest) e =
    elim (cases_Bool (byte == 10)) [
      | inl feed ↦ let none : 0 ≡ suc (length (next ∷ rest)) = rw feed at e in
          absurd (omega (arith, none))
      | inr other ↦
          let tail : 1 + line_length (next ∷ rest) ≡ suc (length (next ∷ rest)) = rw other at e in
          rw other (ap (on_first byte) (take-last next rest (omega (arith, tail))))
    ]

-- the line that the line feed at this place ends
pub ended-line : (text : List ℕ) (end : ℕ) → Some end ≡ position (λ byte. byte == 10) text
    → lines_of text ≡ take end text ∷ lines_of (drop (suc end) text)
ended-line text end is =
    elim (cases_Bool (leb (suc (line_length text)) (length text))) [
      | inl within ↦
          let found : Some end ≡ Some (line_length text) = rw within at is in
          let place : line_length text ≡ end = cc in
          let less = leb-true (suc (line_length text)) (length text) within in
          take-first text end place (omega (arith, less, place))
      | inr past ↦ let found : Some end ≡ None = rw past at is in absurd cc
    ]

-- a line that no line feed ends
pub last-line : (text : List ℕ) → 0 < length text → None ≡ position (λ byte. byte == 10) text
    → lines_of text ≡ text ∷ []
last-line [] h is = absurd (omega (arith, h))
last-line (byte ∷ rest) h is =
    let text : List ℕ = byte ∷ rest in
    elim (cases_Bool (leb (suc (line_length text)) (length text))) [
      | inl within ↦ let found : None ≡ Some (line_length text) = rw within at is in absurd cc
      | inr past ↦
          let most = leb-false (suc (line_length text)) (length text) past in
          let least = prefix_len-le-length (λ (byte : ℕ). not (byte == 10)) text in
          take-last byte rest (omega (arith, most, least))
    ]
