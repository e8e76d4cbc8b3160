-- The parts of track 2 round its first separator.
use Rattle.std.proofs.Common.{◌≡◌, ℕ, suc, ◌+◌, true, false, List, [], ◌∷◌, take, drop, Some, None}
use Rattle.std.proofs.Common.{refl, arith, inl}
use Rattle.std.proofs.Common.{inr}
use Rattle.std.specs.List.{list_any, position}
use Rattle.std.proofs.lemmas.Bool.{cases_Bool, true≢false}
use Rattle.card_no.specs.Track2.{is_separator, parts_of}
use Rattle.card_no.proofs.FirstThatPasses.{position-cons, position-first, position-none}

pub parts-none : (text : List ℕ) → position is_separator text ≡ None → parts_of text ≡ None
parts-none text h = none text (position-none is_separator text h)
  where
    none : (bs : List ℕ) → list_any is_separator bs ≡ false → parts_of bs ≡ None
    none [] e = refl
    none (b ∷ bs) e =
        elim (cases_Bool (is_separator b)) [
          | inl here ↦ let bad : true ≡ false = rw here at e in absurd (true≢false bad)
          | inr past ↦ let later = none bs (rw past at e) in rw (past, later) refl
        ]

-- each place one further
parts-past : (b : ℕ) (bs : List ℕ) (i j : ℕ) → is_separator b ≡ false → i ≡ suc j → parts_of bs
    ≡ Some (take j bs, drop (j + 1) bs)
    → parts_of (b ∷ bs) ≡ Some (take i (b ∷ bs), drop (i + 1) (b ∷ bs))
parts-past b bs i j past is later = let more : suc j + 1 ≡ suc (j + 1) = omega arith in
    rw (past, later, is, more) refl

pub parts-at : (text : List ℕ) (i : ℕ) → position is_separator text ≡ Some i → parts_of text
    ≡ Some (take i text, drop (i + 1) text)
parts-at [] i h = absurd cc
parts-at (b ∷ bs) i h =
    elim (cases_Bool (is_separator b)) [
      | inl here ↦ let first : i ≡ 0 = position-first is_separator b bs i h here in
          rw (here, first) refl
      | inr past ↦ let (j, is, at) = position-cons is_separator b bs i h past in
          parts-past b bs i j past is (parts-at bs j at)
    ]
