-- What holds of each row of the table.
use Rattle.std.proofs.Common.{◌≡◌, ℕ, ◌<◌, ◌≤◌, Bool, true, ◌&&◌, eqb, leb, List, [], ◌∷◌, Option}
use Rattle.std.proofs.Common.{Some, None, refl, sym, subst, arith, inl, inr}
use Rattle.std.specs.List.{list_all}
use Rattle.std.proofs.lemmas.Bool.{and_parts, leb-true, eqb-true, cases_Bool}
use Rattle.iso_codec.specs.declared.element_format.ElementFormat.{ElementFormat}
use Rattle.iso_codec.specs.Setting.{is_sound}
use Rattle.iso_codec.specs.Table.{rows, row_of, format_of}

abbrev pub is_sound_row : ℕ × ElementFormat → Bool
is_sound_row r = is_sound r.1.form && (leb 2 r.0 && leb r.0 128)

rows_sound : list_all is_sound_row rows ≡ true
rows_sound = refl

row_at : (rs : List (ℕ × ElementFormat)) (n : ℕ) (r : ElementFormat) →
    list_all is_sound_row rs ≡ true
    → row_of rs n ≡ Some r → is_sound_row (n, r) ≡ true
row_at [] n r h e = absurd cc
row_at (x ∷ rs) n r h e =
    let parts = and_parts (is_sound_row x) (list_all is_sound_row rs) h in
    elim (cases_Bool (eqb n x.0)) [
      | inl here ↦
          let f : Some x.1 ≡ Some r = rw here at e in
          let g : x.1 ≡ r = cc in
          subst (λ (q : ElementFormat). is_sound_row (n, q) ≡ true) g
          (subst (λ (m : ℕ). is_sound_row (m, x.1) ≡ true) (sym (eqb-true n x.0 here)) parts.0)
      | inr other ↦ row_at rs n r parts.1 (rw other at e)
    ]

pub format_in_bounds : (n : ℕ) (r : ElementFormat) → format_of n ≡ Some r
    → (is_sound r.form ≡ true) × (2 ≤ n) × (n ≤ 128)
unfolding format_of
format_in_bounds n r e =
    let a = row_at rows n r rows_sound e in
    let b = and_parts (is_sound r.form) (leb 2 n && leb n 128) a in
    let d = and_parts (leb 2 n) (leb n 128) b.1 in
    (b.0, leb-true 2 n d.0, leb-true n 128 d.1)

none_beyond : (n : ℕ) (o : Option ElementFormat) → format_of n ≡ o → 128 < n → o ≡ None
none_beyond n None e h = refl
none_beyond n (Some format) e h = let b = format_in_bounds n format e in absurd (omega (arith, b.2))

pub format_of-beyond : (n : ℕ) → 128 < n → format_of n ≡ None
format_of-beyond n h = none_beyond n (format_of n) refl h
