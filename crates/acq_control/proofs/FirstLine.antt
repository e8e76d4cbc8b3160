-- The first line of some bytes.
use Rattle.std.proofs.Common.{◌≡◌, ℕ, zero, suc, ◌+◌, ◌-◌, ◌<◌, List, [], ◌∷◌, ◌++◌, length}
use Rattle.std.proofs.Common.{take, drop, refl, sym, ap, ◌∙◌, true, Some, None, leb, inl, inr}
use Rattle.std.proofs.Common.{arith}
use Rattle.std.proofs.Common.{length-take}
use Rattle.std.specs.Prelude.{◌==◌, not}
use Rattle.std.specs.List.{list_all, prefix_len, position}
use Rattle.std.proofs.lemmas.Bool.{cases_Bool, leb-true, leb-false}
use Rattle.std.proofs.lemmas.Bool.Decides.{nat_tests}
use Rattle.std.proofs.lemmas.List.{drop-drop, drop-take}
use Rattle.std.proofs.lemmas.List.Sums.{prefix_len-le-length}
use Rattle.acq_control.specs.Lines.{BeginsWithLine, IsInLine, ended, is_in_line, line_feed}

-- how many bytes stand in front of the first line feed
abbrev line_length : List ℕ → ℕ
line_length text = prefix_len (λ byte. not (byte == 10)) text

is_feed : (byte : ℕ) → (byte == 10) ≡ true → byte ≡ line_feed
is_feed byte is = grind (arith, nat_tests)

first-line : (text : List ℕ) (n : ℕ) → line_length text ≡ n → n < length text
    → BeginsWithLine text (take n text) (drop (suc n) text)
first-line [] n e h = absurd (omega (arith, h))
first-line (byte ∷ rest) zero e h =
    elim (cases_Bool (byte == 10)) [
      | inl feed ↦
          record { within = refl; whole = ap (λ (b : ℕ). b ∷ rest) (is_feed byte feed) }
      | inr other ↦ let more : 1 + line_length rest ≡ 0 = rw other at e in
          absurd (omega (arith, more))
    ]
first-line (byte ∷ rest) (suc n) e h =
    elim (cases_Bool (byte == 10)) [
      | inl feed ↦ let none : 0 ≡ suc n = rw feed at e in absurd (omega (arith, none))
      | inr other ↦
          let tail : 1 + line_length rest ≡ suc n = rw other at e in
          let next = first-line rest n (omega (arith, tail)) (omega (arith, h)) in
          record {
            within = rw other next.within;
            whole = ap (λ (l : List ℕ). byte ∷ l) next.whole;
          }
    ]

all-line : (text : List ℕ) → line_length text ≡ length text → IsInLine text
all-line [] e = refl
all-line (byte ∷ rest) e =
    elim (cases_Bool (byte == 10)) [
      | inl feed ↦ let none : 0 ≡ suc (length rest) = rw feed at e in absurd (omega (arith, none))
      | inr other ↦
          let tail : 1 + line_length rest ≡ suc (length rest) = rw other at e in
          rw other (all-line rest (omega (arith, tail)))
    ]

-- the line that the line feed at this place ends
pub ended-line : (text : List ℕ) (end : ℕ) → Some end ≡ position (λ byte. byte == 10) text
    → (end < length text) × BeginsWithLine text (take end text) (drop (suc end) text)
ended-line text end is =
    elim (cases_Bool (leb (suc (line_length text)) (length text))) [
      | inl within ↦
          let found : Some end ≡ Some (line_length text) = rw within at is in
          let place : line_length text ≡ end = cc in
          let less = leb-true (suc (line_length text)) (length text) within in
          (omega (arith, less, place), first-line text end place (omega (arith, less, place)))
      | inr past ↦ let found : Some end ≡ None = rw past at is in absurd cc
    ]

-- bytes with no line feed
pub no-line : (text : List ℕ) → None ≡ position (λ byte. byte == 10) text → IsInLine text
no-line text is =
    elim (cases_Bool (leb (suc (line_length text)) (length text))) [
      | inl within ↦ let found : None ≡ Some (line_length text) = rw within at is in absurd cc
      | inr past ↦
          let most = leb-false (suc (line_length text)) (length text) past in
          let least = prefix_len-le-length (λ (byte : ℕ). not (byte == 10)) text in
          all-line text (omega (arith, most, least))
    ]

-- the first line is taken out of a buffer, and what stands behind it stays where it is
pub takes_line : (view bytes copy : List ℕ) (start end at : ℕ)
    → take (end - start) (drop start bytes) ≡ view
    → Some at ≡ position (λ byte. byte == 10) (take (end - start) (drop start bytes))
    → copy ≡ take at (take (end - start) (drop start bytes))
    → BeginsWithLine view copy (take (end - (start + (at + 1))) (drop (start + (at + 1)) bytes))
takes_line view bytes copy start end at is found same =
    let held = take (end - start) (drop start bytes) in
    let first = ended-line held at found in
    let inside : at < end - start =
    omega (arith, first.0, length-take (end - start) (drop start bytes)) in
    let all : end - start ≡ suc at + (end - start - suc at) = omega (arith, inside) in
    let count : end - start - suc at ≡ end - (start + (at + 1)) = omega (arith, inside) in
    let from : start + suc at ≡ start + (at + 1) = omega arith in
    let left : drop (suc at) held
    ≡ take (end - (start + (at + 1))) (drop (start + (at + 1)) bytes) =
    ap (λ (n : ℕ). drop (suc at) (take n (drop start bytes))) all
    ∙ drop-take (suc at) (end - start - suc at) (drop start bytes)
    ∙ ap (λ (n : ℕ). take n (drop (suc at) (drop start bytes))) count
    ∙ ap (take (end - (start + (at + 1)))) (drop-drop (suc at) start bytes
    ∙ ap (λ (n : ℕ). drop n bytes) from) in
    record {
      within = ap (λ (l : List ℕ). list_all is_in_line l) same ∙ first.1.within;
      whole = sym is ∙ first.1.whole ∙ ap (λ (l : List ℕ). ended l ++ drop (suc at) held) (sym same)
          ∙ ap (λ (l : List ℕ). ended copy ++ l) left;
    }
