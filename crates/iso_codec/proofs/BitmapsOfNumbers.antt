-- Bitmaps that are made of numbers name those numbers.
use Rattle.std.proofs.Common.{◌≡◌, ◌≢◌, ℕ, zero, suc, ◌+◌, ◌-◌, ◌*◌, ◌/◌, ◌%◌, ◌^◌, ◌<◌, ◌≤◌, Bool}
use Rattle.std.proofs.Common.{true, false, ◌||◌, eqb, leb, ltb, List, [], ◌∷◌, ◌++◌, refl, sym, ap}
use Rattle.std.proofs.Common.{subst, ◌∙◌, arith, inl, inr, bit_or, get_or}
use Rattle.std.specs.List.{list_all, list_any, filter, range_with_len}
use Rattle.std.specs.Int.{w64, to_be_bytes}
use Rattle.std.proofs.lemmas.Bool.{and_parts, and_from, or_left, or_right, leb-true, le-leb, lt-leb}
use Rattle.std.proofs.lemmas.Bool.{ne_eqb, eq-eqb, lt-ltb, le-ltb, cases_eq, cases_lt, cases_Bool}
use Rattle.std.proofs.lemmas.Bool.{agree_below_at, true≢false}
use Rattle.std.proofs.lemmas.List.Folds.{list_any-append}
use Rattle.std.proofs.lemmas.Nat.{from_be_bytes-to_be_bytes_8}
use Rattle.std.proofs.lemmas.Nat.Bits.{bit_at_set_same, bit_at_set_other, bit_at-zero}
use Rattle.hex.specs.Hex.{encode_upper, encode_with, upper_digits, IsBytes}
use Rattle.hex.proofs.HexLemmas.{length-encode_with, decode_of-encode_upper}
use Rattle.iso_codec.specs.declared.bitmaps.Bitmaps.{Bitmaps}
use Rattle.iso_codec.specs.Message.{bit, names, named, numbers, Ascends, IsBitmap, is_element}
use Rattle.iso_codec.specs.Message.{is_upper_hex}
use Rattle.iso_codec.specs.Setting.{Marks, is_in}
use Rattle.iso_codec.proofs.TableBounds.{format_in_bounds}
use Rattle.iso_codec.proofs.OneMessage.{format_of_element}

pub or_false : (b : Bool) → (b || false) ≡ b
or_false true = refl
or_false false = refl

pub any_push : {X : Type 0} (p : X → Bool) (xs : List X) (x : X) →
    list_any p (xs ++ x ∷ []) ≡ (list_any p xs || p x)
any_push p xs x = list_any-append p xs (x ∷ []) ∙ ap (λ (b : Bool). list_any p xs || b)
    (or_false (p x))

-- ---- one bit

pub bit_more : (bits n k : ℕ) → 1 ≤ n → n ≤ 64 → 1 ≤ k → k ≤ 64
    → bit (bit_or bits (1 * 2 ^ (64 - n) % 2 ^ 64)) k ≡ (bit bits k || eqb k n)
bit_more bits n k a b d e =
    elim (cases_eq k n) [
      | inl same ↦
          let place : 64 - k ≡ 64 - n = omega arith in
          let within : 64 - n < 64 = omega arith in
          let set = bit_at_set_same w64 bits (64 - n) within in
          let there : bit (bit_or bits (1 * 2 ^ (64 - n) % 2 ^ 64)) k ≡ true = rw (place, set) refl
          in
          there ∙ sym (or_right (bit bits k) (eqb k n) (eq-eqb k n same))
      | inr other ↦
          let apart : 64 - k ≢ 64 - n = omega arith in
          let within : 64 - n < 64 = omega arith in
          let kept = bit_at_set_other w64 bits (64 - n) within (64 - k) apart in
          ap (λ (v : ℕ). eqb v 1) kept ∙ sym (rw (ne_eqb k n other) (or_false (bit bits k)))
    ]

-- ---- the numbers

no_bit : (k : ℕ) → bit 0 k ≡ false
no_bit k = rw bit_at-zero refl

pub marks_none : Marks [] (record { primary = 0; secondary = 0 })
marks_none = record {
  named_each = λ n lo hi. elim (cases_Bool (leb n 64)) [
    | inl h ↦ rw (h, no_bit n) refl
    | inr h ↦
        rw (h, no_bit (n - 64)) refl
  ];
  second = no_bit 1;
  none = λ h. refl;
}

abbrev pub Adds : ℕ → ℕ → ℕ → Type 0
Adds old new n = (k : ℕ) → 1 ≤ k → k ≤ 64 → bit new k ≡ (bit old k || eqb k n)

same_or : (a b d : Bool) → a ≡ b → d ≡ false → a ≡ (b || d)
same_or a b d e f = rw (e, f) (sym (or_false b))

pub marks_low : (ns : List ℕ) (p q s n : ℕ) → Marks ns (record { primary = p; secondary = s }) →
    2 ≤ n → n ≤ 64
    → Adds p q n → Marks (ns ++ n ∷ []) (record { primary = q; secondary = s })
marks_low ns p q s n m lo hi adds =
    let first : bit q 1 ≡ bit p 1 = adds 1 (omega arith) (omega arith)
    ∙ ap (λ (b : Bool). bit p 1 || b) (ne_eqb 1 n (omega arith)) ∙ or_false (bit p 1) in
    record {
      named_each = λ k a b. elim (cases_lt 64 k) [
        | inl above ↦
            let far : leb k 64 ≡ false = lt-leb k 64 above in
            let old : bit s (k - 64) ≡ is_in ns k = rw far at (m.named_each k a b) in
            rw far (same_or (bit s (k - 64)) (is_in ns k) (eqb k n) old (ne_eqb k n (omega arith))
            ∙ sym (any_push (λ (x : ℕ). eqb k x) ns n))
        | inr below ↦
            let near : leb k 64 ≡ true = le-leb k 64 below in
            let old : bit p k ≡ is_in ns k = rw near at (m.named_each k a b) in
            rw near (adds k (omega arith) below ∙ ap (λ (x : Bool). x || eqb k n) old
            ∙ sym (any_push (λ (x : ℕ). eqb k x) ns n))
      ];
      second = first ∙ same_or (bit p 1) (list_any (λ x. ltb 64 x) ns) (ltb 64 n) m.second
          (le-ltb 64 n hi)
          ∙ sym (any_push (λ (x : ℕ). ltb 64 x) ns n);
      none = λ h. m.none (sym first ∙ h);
    }

pub marks_high : (ns : List ℕ) (p q s t n : ℕ) → Marks ns (record { primary = p; secondary = s }) →
    64 < n → n ≤ 128
    → Adds p q 1 → Adds s t (n - 64) → Marks (ns ++ n ∷ []) (record { primary = q; secondary = t })
marks_high ns p q s t n m lo hi adds more =
    let first : bit q 1 ≡ true = adds 1 (omega arith) (omega arith) ∙ or_right (bit p 1) true refl
    in
    record {
      named_each = λ k a b. elim (cases_lt 64 k) [
        | inl above ↦
            let far : leb k 64 ≡ false = lt-leb k 64 above in
            let old : bit s (k - 64) ≡ is_in ns k = rw far at (m.named_each k a b) in
            let shift : eqb (k - 64) (n - 64) ≡ eqb k n =
            elim (cases_eq k n) [
              | inl e ↦ eq-eqb (k - 64) (n - 64) (omega arith) ∙ sym (eq-eqb k n e)
              | inr e ↦
                  ne_eqb (k - 64) (n - 64) (omega arith) ∙ sym (ne_eqb k n e)
            ] in
            rw far (more (k - 64) (omega arith) (omega arith)
            ∙ ap (λ (x : Bool). x || eqb (k - 64) (n - 64)) old
            ∙ ap (λ (x : Bool). is_in ns k || x) shift ∙ sym (any_push (λ (x : ℕ). eqb k x) ns n))
        | inr below ↦
            let near : leb k 64 ≡ true = le-leb k 64 below in
            let old : bit p k ≡ is_in ns k = rw near at (m.named_each k a b) in
            let kept : bit q k ≡ bit p k = adds k (omega arith) below
            ∙ ap (λ (x : Bool). bit p k || x) (ne_eqb k 1 (omega arith)) ∙ or_false (bit p k) in
            rw near (kept ∙ same_or (bit p k) (is_in ns k) (eqb k n) old (ne_eqb k n (omega arith))
            ∙ sym (any_push (λ (x : ℕ). eqb k x) ns n))
      ];
      second = first ∙ sym (or_right (list_any (λ x. ltb 64 x) ns) (ltb 64 n) (lt-ltb 64 n lo))
          ∙ sym (any_push (λ (x : ℕ). ltb 64 x) ns n);
      none = λ h. absurd (true≢false (sym first ∙ h));
    }

-- ---- the named numbers are those

pub not_in : (low n : ℕ) (xs : List ℕ) → Ascends low xs → n ≤ low → is_in xs n ≡ false
not_in low n [] h le = refl
not_in low n (x ∷ xs) h le = rw (ne_eqb n x (omega arith)) (not_in x n xs h.1 (omega arith))

pub filter_is : (p : ℕ → Bool) (k low start top : ℕ) (xs : List ℕ) → start ≡ low + 1 →
    top ≡ low + k →
    Ascends low xs
    → list_all (λ n. leb n top) xs ≡ true → ((n : ℕ) → low < n → n ≤ top → p n ≡ is_in xs n)
    → filter p (range_with_len start k) ≡ xs
filter_is p zero low start top [] e f asc all h = refl
filter_is p zero low start top (x ∷ xs) e f asc all h =
    let parts = and_parts (leb x top) (list_all (λ n. leb n top) xs) all in
    let le = leb-true x top parts.0 in
    absurd (omega arith)
filter_is p (suc k) low start top [] e f asc all h =
    let here : p start ≡ false = h start (omega arith) (omega arith) in
    rw here (filter_is p k start (start + 1) top [] refl (omega arith) tt refl
    (λ n a b. h n (omega arith) b))
filter_is p (suc k) low start top (x ∷ xs) e f asc all h =
    let parts = and_parts (leb x top) (list_all (λ n. leb n top) xs) all in
    elim (cases_eq x start) [
      | inl same ↦
          let here : p start ≡ true = h start (omega arith) (omega arith)
          ∙ or_left (eqb start x) (is_in xs start) (eq-eqb start x (sym same)) in
          let asc' : Ascends start xs = subst (λ (m : ℕ). Ascends m xs) same asc.1 in
          let rest = filter_is p k start (start + 1) top xs refl (omega arith) asc' parts.1
          (λ n a b. h n (omega arith) b ∙ ap (λ (c : Bool). c || is_in xs n)
          (ne_eqb n x (omega arith))) in
          rw (here, rest, same) refl
      | inr other ↦
          let here : p start ≡ false = h start (omega arith) (omega arith)
          ∙ rw (ne_eqb start x (omega arith)) (not_in x start xs asc.1 (omega arith)) in
          rw here (filter_is p k start (start + 1) top (x ∷ xs) refl (omega arith)
          (omega arith, asc.1) all
          (λ n a b. h n (omega arith) b))
    ]

small_numbers : (es : List (ℕ × List ℕ)) → list_all is_element es ≡ true
    → list_all (λ n. leb n 128) (numbers es) ≡ true
small_numbers [] h = refl
small_numbers (e ∷ es) h =
    let parts = and_parts (is_element e) (list_all is_element es) h in
    let format = format_of_element e.0 e.1 parts.0 in
    and_from (leb e.0 128) (list_all (λ n. leb n 128) (numbers es))
    (le-leb e.0 128 (format_in_bounds e.0 format.0 format.1).2) (small_numbers es parts.1)

pub names_marked : (bitmaps : Bitmaps) (es : List (ℕ × List ℕ)) → Marks (numbers es) bitmaps →
    Ascends 1 (numbers es)
    → list_all is_element es ≡ true → numbers es ≡ named bitmaps
unfolding named
names_marked bitmaps es m asc all =
    sym (filter_is (names bitmaps) 127 1 2 128 (numbers es) refl refl asc
    (small_numbers es all) (λ n a b. m.named_each n a b))

-- ---- digits in capitals

capital : (d : ℕ) → d < 16 → is_upper_hex (get_or upper_digits d 0) ≡ true
capital d h = agree_below_at (λ (x : ℕ). is_upper_hex (get_or upper_digits x 0))
    (λ (_ : ℕ). true) 16 d refl h

pub upper_case : (xs : List ℕ) → IsBytes xs → list_all is_upper_hex (encode_upper xs) ≡ true
unfolding encode_with
upper_case [] h = refl
upper_case (b ∷ bs) h =
    let small : b < 256 = h 0 in
    and_from (is_upper_hex (get_or upper_digits (b / 16) 0)) _ (capital (b / 16) (omega arith))
    (and_from (is_upper_hex (get_or upper_digits (b % 16) 0)) _ (capital (b % 16) (omega arith))
    (upper_case bs (λ i. h (suc i))))

pub bitmap_written : (bits : ℕ) → bits < 2 ^ 64 → IsBytes (to_be_bytes w64 bits)
    → IsBitmap (encode_upper (to_be_bytes w64 bits)) bits
bitmap_written bits h small = record {
  bytes = to_be_bytes w64 bits;
  size = length-encode_with upper_digits (to_be_bytes w64 bits);
  decoded = decode_of-encode_upper (to_be_bytes w64 bits) small;
  value = sym (from_be_bytes-to_be_bytes_8 bits h);
}

pub bytes_small : (n i : ℕ) → get_or (to_be_bytes w64 n) i 0 < 256
bytes_small n zero = omega arith
bytes_small n (suc zero) = omega arith
bytes_small n (suc (suc zero)) = omega arith
bytes_small n (suc (suc (suc zero))) = omega arith
bytes_small n (suc (suc (suc (suc zero)))) = omega arith
bytes_small n (suc (suc (suc (suc (suc zero))))) = omega arith
bytes_small n (suc (suc (suc (suc (suc (suc zero)))))) = omega arith
bytes_small n (suc (suc (suc (suc (suc (suc (suc zero))))))) = omega arith
bytes_small n (suc (suc (suc (suc (suc (suc (suc (suc i)))))))) = omega arith
