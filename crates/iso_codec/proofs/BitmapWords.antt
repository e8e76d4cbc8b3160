-- The bits of a bitmap: the first that is set, all but one, and those of the elements that the
-- table doesn't have.
use Rattle.std.proofs.Common.{◌≡◌, ◌≢◌, ℕ, zero, suc, ◌+◌, ◌-◌, ◌*◌, ◌%◌, ◌^◌, ◌<◌, ◌≤◌, Bool, true}
use Rattle.std.proofs.Common.{false, ◌&&◌, eqb, leb, [], ◌∷◌, refl, sym, ap, ◌∙◌, arith, inl, inr}
use Rattle.std.proofs.Common.{bit_and, min}
use Rattle.std.specs.Prelude.{not}
use Rattle.std.specs.List.{filter}
use Rattle.std.specs.Int.{w64, bit_at, bit_not, leading_zeros}
use Rattle.std.proofs.lemmas.Bool.{cases_eq, cases_lt, cases_Bool, eq-eqb, ne_eqb, le-leb, lt-leb}
use Rattle.std.proofs.lemmas.Bool.{agree_below_at, true≢false}
use Rattle.std.proofs.lemmas.Nat.{leading_top}
use Rattle.std.proofs.lemmas.Nat.Bits.{bit_at_and, bit_at_above, bit_at_cat_high, bit_at_clear_same}
use Rattle.std.proofs.lemmas.Nat.Bits.{bit_at_clear_other, bit_at-lt, bit_at-zero}
use Rattle.iso_codec.specs.declared.bitmaps.Bitmaps.{Bitmaps}
use Rattle.iso_codec.specs.declared.bitmaps.TheConstants.{KNOWN_PRIMARY, KNOWN_SECONDARY}
use Rattle.iso_codec.specs.Table.{format_of}
use Rattle.iso_codec.specs.Message.{bit, names, named}
use Rattle.iso_codec.specs.Faults.{is_known}
use Rattle.iso_codec.specs.Setting.{IsFirstBit}
use Rattle.iso_codec.proofs.NamedNumbers.{filter_none, filter_first, filter_same, filter_both}

-- ---- one word

top_bit : (n j : ℕ) → 2 ^ j ≤ n → n < 2 ^ suc j → bit_at n j ≡ 1
top_bit n j lo hi =
    let rest : n - 2 ^ j < 2 ^ j = omega arith in
    let whole : n ≡ 1 * 2 ^ j + (n - 2 ^ j) = omega arith in
    let place : j - j ≡ 0 = omega arith in
    ap (λ (x : ℕ). bit_at x j) whole ∙ bit_at_cat_high 1 j (n - 2 ^ j) j rest (omega arith)
    ∙ ap (bit_at 1) place

pub first_bit_is : (bits number : ℕ) → 0 < bits → bits < 2 ^ 64 →
    number ≡ leading_zeros w64 bits + 1 →
    IsFirstBit bits number
first_bit_is bits number some small is =
    let top = leading_top 64 bits some small in
    let place : 64 - number ≡ top.0 = omega (arith, top.1) in
    let set : bit_at bits top.0 ≡ 1 = top_bit bits top.0 top.2 top.3 in
    record {
      low = omega (arith, top.1);
      high = omega (arith, top.1);
      set = rw (place, set) refl;
      before = λ k lo lt. rw (bit_at_above bits (suc top.0) (64 - k) top.3 (omega (arith, top.1)))
          refl;
    }

and_not_here : (a : Bool) → false ≡ (a && not true)
and_not_here true = refl
and_not_here false = refl

and_not_there : (a : Bool) → a ≡ (a && not false)
and_not_there true = refl
and_not_there false = refl

pub without_bit_is : (bits n k : ℕ) → 1 ≤ n → n ≤ 64 → 1 ≤ k → k ≤ 64
    → bit (bit_and bits (bit_not w64 (1 * 2 ^ (64 - n) % 2 ^ 64))) k ≡ (bit bits k && not (eqb k n))
without_bit_is bits n k a b d e =
    elim (cases_eq k n) [
      | inl same ↦
          let place : 64 - k ≡ 64 - n = omega arith in
          rw (eq-eqb k n same, place, bit_at_clear_same w64 bits (64 - n) (omega arith))
          (and_not_here _)
      | inr other ↦
          rw (
            ne_eqb k n other,
            bit_at_clear_other w64 bits (64 - n) (omega arith) (64 - k) (omega arith)
                (omega arith),
          )
          (and_not_there (bit bits k))
    ]

-- ---- two words

-- all bits of a word that is zero
pub no_bits : (bits k : ℕ) → bits ≡ 0 → bit bits k ≡ false
no_bits bits k e = rw (e, bit_at-zero (64 - k)) refl

abbrev pub Drops : ℕ → ℕ → ℕ → Type 0
Drops old new n = (k : ℕ) → 1 ≤ k → k ≤ 64 → bit new k ≡ (bit old k && not (eqb k n))

drops_here : (old new n : ℕ) → Drops old new n → 1 ≤ n → n ≤ 64 → bit new n ≡ false
drops_here old new n d lo hi = d n lo hi ∙ rw (eq-eqb n n refl) (sym (and_not_here (bit old n)))

drops_there : (old new n k : ℕ) → Drops old new n → 1 ≤ k → k ≤ 64 → k ≢ n → bit new k ≡ bit old k
drops_there old new n k d lo hi ne =
    d k lo hi ∙ rw (ne_eqb k n ne) (sym (and_not_there (bit old k)))

pub primary_first : (p q s n : ℕ) → bit p 1 ≡ false → IsFirstBit p n → Drops p q n
    → named (record { primary = p; secondary = s }) ≡ n
    ∷ named (record { primary = q; secondary = s })
unfolding named
primary_first p q s n unset f d =
    let old : Bitmaps = record { primary = p; secondary = s } in
    let new : Bitmaps = record { primary = q; secondary = s } in
    let more : n ≢ 1 = λ e. true≢false (sym f.set ∙ ap (bit p) e ∙ unset) in
    let near : leb n 64 ≡ true = le-leb n 64 f.high in
    let low = f.low in
    let high = f.high in
    filter_first (names old) (names new) n 2 127 (omega arith) (omega arith) (rw near f.set)
    (rw near (drops_here p q n d f.low f.high))
    (λ m lo lt. let here : leb m 64 ≡ true = le-leb m 64 (omega arith) in
    rw here (f.before m (omega arith) lt))
    (λ m lo hi ne. elim (cases_lt 64 m) [
      | inl above ↦ let far : leb m 64 ≡ false = lt-leb m 64 above in rw far refl
      | inr below ↦
          let here : leb m 64 ≡ true = le-leb m 64 below in
          rw here (drops_there p q n m d (omega arith) below ne)
    ])

-- bit 1 stays unset
pub primary_unset : (p q n : ℕ) → bit p 1 ≡ false → Drops p q n → bit q 1 ≡ false
primary_unset p q n unset d = d 1 (omega arith) (omega arith) ∙ rw unset refl

pub secondary_first : (p s t n : ℕ) → p ≡ 0 → IsFirstBit s n → Drops s t n
    → named (record { primary = p; secondary = s }) ≡ (64 + n)
    ∷ named (record { primary = p; secondary = t })
unfolding named
secondary_first p s t n none f d =
    let old : Bitmaps = record { primary = p; secondary = s } in
    let new : Bitmaps = record { primary = p; secondary = t } in
    let low = f.low in
    let high = f.high in
    let far : leb (64 + n) 64 ≡ false = lt-leb (64 + n) 64 (omega arith) in
    let back : 64 + n - 64 ≡ n = omega arith in
    filter_first (names old) (names new) (64 + n) 2 127 (omega arith) (omega arith)
    (rw (far, back) f.set)
    (rw (far, back) (drops_here s t n d f.low f.high))
    (λ m lo lt. elim (cases_lt 64 m) [
      | inl above ↦
          let away : leb m 64 ≡ false = lt-leb m 64 above in
          rw away (f.before (m - 64) (omega arith) (omega arith))
      | inr below ↦ let here : leb m 64 ≡ true = le-leb m 64 below in rw here (no_bits p m none)
    ])
    (λ m lo hi ne. elim (cases_lt 64 m) [
      | inl above ↦
          let away : leb m 64 ≡ false = lt-leb m 64 above in
          rw away (drops_there s t n (m - 64) d (omega arith) (omega arith) (omega arith))
      | inr below ↦ let here : leb m 64 ≡ true = le-leb m 64 below in rw here refl
    ])

pub none_named : (p s : ℕ) → p ≡ 0 → s ≡ 0 → named (record { primary = p; secondary = s }) ≡ []
unfolding named
none_named p s a b =
    filter_none (names (record { primary = p; secondary = s })) 2 127
    (λ n lo hi. elim (cases_Bool (leb n 64)) [
      | inl near ↦ rw near (no_bits p n a)
      | inr far ↦ rw far (no_bits s (n - 64) b)
    ])

-- bit 1 names no element
pub first_unnamed : (p q s : ℕ) → Drops p q 1
    → named (record { primary = q; secondary = s }) ≡ named (record { primary = p; secondary = s })
unfolding named
first_unnamed p q s d =
    filter_same (names (record { primary = q; secondary = s })) (names
    (record { primary = p; secondary = s })) 2 127
    (λ n lo hi. elim (cases_lt 64 n) [
      | inl above ↦ let far : leb n 64 ≡ false = lt-leb n 64 above in rw far refl
      | inr below ↦
          let near : leb n 64 ≡ true = le-leb n 64 below in
          rw near (drops_there p q 1 n d (omega arith) below (omega arith))
    ])

-- ---- the elements that the table doesn't have

is_one_min : (a b : ℕ) → a < 2 → b < 2 → eqb (min a b) 1 ≡ (eqb a 1 && eqb b 1)
is_one_min zero zero ha hb = refl
is_one_min zero (suc zero) ha hb = refl
is_one_min (suc zero) zero ha hb = refl
is_one_min (suc zero) (suc zero) ha hb = refl
is_one_min (suc (suc a)) b ha hb = absurd (omega arith)
is_one_min zero (suc (suc b)) ha hb = absurd (omega arith)
is_one_min (suc zero) (suc (suc b)) ha hb = absurd (omega arith)

bit-and : (a b k : ℕ) → bit (bit_and a b) k ≡ (bit a k && bit b k)
bit-and a b k =
    ap (λ (x : ℕ). eqb x 1) (bit_at_and a b (64 - k))
    ∙ is_one_min (bit_at a (64 - k)) (bit_at b (64 - k)) (bit_at-lt a (64 - k))
    (bit_at-lt b (64 - k))

unknown_primary : (n : ℕ) → n < 63 →
    bit (bit_not w64 KNOWN_PRIMARY) (2 + n) ≡ not (is_known (2 + n))
unfolding format_of
unknown_primary n h =
    agree_below_at (λ k. bit (bit_not w64 KNOWN_PRIMARY) (2 + k)) (λ k. not (is_known (2 + k))) 63 n
    refl h

unknown_secondary : (n : ℕ) → n < 64 →
    bit (bit_not w64 KNOWN_SECONDARY) (1 + n) ≡ not (is_known (65 + n))
unfolding format_of
unknown_secondary n h =
    agree_below_at (λ k. bit (bit_not w64 KNOWN_SECONDARY) (1 + k))
    (λ k. not (is_known (65 + k))) 64 n refl h

pub unknown_named : (p s : ℕ)
    → named (record {
      primary = bit_and p (bit_not w64 KNOWN_PRIMARY);
      secondary = bit_and s (bit_not w64 KNOWN_SECONDARY);
    }) ≡ filter (λ n. not (is_known n)) (named (record { primary = p; secondary = s }))
unfolding named
unknown_named p s =
    let old : Bitmaps = record { primary = p; secondary = s } in
    let unknown : Bitmaps = record {
      primary = bit_and p (bit_not w64 KNOWN_PRIMARY);
      secondary = bit_and s (bit_not w64 KNOWN_SECONDARY);
    } in
    filter_both (names old) (λ n. not (is_known n)) (names unknown) 2 127 (λ n lo hi.
    elim (cases_lt 64 n) [
      | inl above ↦
          let far : leb n 64 ≡ false = lt-leb n 64 above in
          let place : 65 + (n - 65) ≡ n = omega arith in
          let place' : 1 + (n - 65) ≡ n - 64 = omega arith in
          let e : bit (bit_not w64 KNOWN_SECONDARY) (n - 64) ≡ not (is_known n) =
          rw (place, place') at (unknown_secondary (n - 65) (omega arith)) in
          rw far (bit-and s (bit_not w64 KNOWN_SECONDARY) (n - 64)
          ∙ ap (λ (b : Bool). bit s (n - 64) && b) e)
      | inr below ↦
          let near : leb n 64 ≡ true = le-leb n 64 below in
          let place : 2 + (n - 2) ≡ n = omega arith in
          let e : bit (bit_not w64 KNOWN_PRIMARY) n ≡ not (is_known n) =
          rw place at (unknown_primary (n - 2) (omega arith)) in
          rw near (bit-and p (bit_not w64 KNOWN_PRIMARY) n ∙ ap (λ (b : Bool). bit p n && b) e)
    ])
