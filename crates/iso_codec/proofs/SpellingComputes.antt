-- A message has one spelling with bitmaps in capitals, the one that computes.
use Rattle.std.proofs.Common.{◌≡◌, ℕ, zero, suc, ◌+◌, ◌-◌, ◌*◌, ◌/◌, ◌%◌, ◌^◌, ◌<◌, ◌≤◌, Bool, true}
use Rattle.std.proofs.Common.{false, ◌&&◌, ◌||◌, eqb, leb, get_or, bit_or, List, [], ◌∷◌, ◌++◌}
use Rattle.std.proofs.Common.{length, Ok, refl, sym, ap, subst, ◌∙◌, append_assoc, arith, inl, inr}
use Rattle.std.proofs.Common.{pow_mono, mod-eq_of_lt}
use Rattle.std.specs.Prelude.{fold, MatchBool}
use Rattle.std.specs.List.{list_all, filter, range_with_len}
use Rattle.std.specs.Int.{w64, to_be_bytes, from_be_bytes, bit_at}
use Rattle.std.proofs.lemmas.Bool.{and_parts, and_from, leb-true, le-leb, lt-leb, eq-eqb, eqb-true}
use Rattle.std.proofs.lemmas.Bool.{eqb-false, ne_eqb, or_left, cases_Bool, cases_eq, cases_lt}
use Rattle.std.proofs.lemmas.Bool.{agree_below_at}
use Rattle.std.proofs.lemmas.List.{append-nil}
use Rattle.std.proofs.lemmas.List.Folds.{list_all-append}
use Rattle.std.proofs.lemmas.Nat.{or_lt, be_bytes_8}
use Rattle.std.proofs.lemmas.Nat.Bits.{bit_at-lt, same_from_bits_below}
use Rattle.hex.specs.Hex.{decode_of, encode_upper, encode_with, upper_digits, IsBytes}
use Rattle.hex.proofs.HexLemmas.{decode_of-encode_upper, decode_of-ok, decode_of-same}
use Rattle.iso_codec.specs.declared.bitmaps.Bitmaps.{Bitmaps}
use Rattle.std.specs.Char.{is_ascii_digit}
use Rattle.std.specs.Int.{is_in_range}
use Rattle.iso_codec.specs.Message.{IsoMessage, IsMessage, IsBitmap, AreBitmaps, bit, names, named}
use Rattle.iso_codec.specs.Message.{numbers, is_element, body, is_upper_hex, Writes}
use Rattle.iso_codec.specs.Setting.{Marks, is_in}
use Rattle.iso_codec.specs.Reading.{with_bit, naming, bitmaps_of, upper_case, digits_of_bitmaps}
use Rattle.iso_codec.specs.Reading.{spelling}
use Rattle.iso_codec.proofs.TableBounds.{format_in_bounds}
use Rattle.iso_codec.proofs.OneMessage.{format_of_element}
use Rattle.iso_codec.proofs.NamedNumbers.{filter_ascends}
use Rattle.iso_codec.proofs.BitmapsOfNumbers.{bit_more, marks_none, marks_low, marks_high, not_in}
use Rattle.iso_codec.proofs.BitmapsOfNumbers.{bitmap_written, bytes_small}
use Rattle.iso_codec.proofs.BitmapsOfNumbers.{upper_case as in_capitals}
use Rattle.iso_codec.proofs.WrittenIsRead.{all_append, one_bitmap, two_bitmaps, written}

-- ---- the bitmaps that name some numbers

power_small : (n : ℕ) → 1 ≤ n → 2 ^ (64 - n) < 2 ^ 64
power_small n h =
    let under : 64 - n ≤ 63 = omega arith in
    let le : 2 ^ (64 - n) ≤ 2 ^ 63 = pow_mono under in omega (arith, le)

adds_bit : (bits n k : ℕ) → 1 ≤ n → n ≤ 64 → 1 ≤ k → k ≤ 64 →
    bit (with_bit bits n) k ≡ (bit bits k || eqb k n)
adds_bit bits n k a b d e =
    let small = power_small n a in
    let same : 1 * 2 ^ (64 - n) % 2 ^ 64 ≡ 2 ^ (64 - n) = omega (arith, mod-eq_of_lt small) in
    ap (λ (p : ℕ). bit (bit_or bits p) k) (sym same) ∙ bit_more bits n k a b d e

abbrev pub InRange : ℕ → Bool
InRange n = leb 2 n && leb n 128

pub marks_step : (ns : List ℕ) (bitmaps : Bitmaps) (n : ℕ) → Marks ns bitmaps → 2 ≤ n → n ≤ 128
    → Marks (ns ++ n ∷ []) (naming bitmaps n)
marks_step ns bitmaps n m lo hi =
    elim (cases_lt 64 n) [
      | inl above ↦
          let far : leb n 64 ≡ false = lt-leb n 64 above in
          rw far (marks_high ns bitmaps.primary (with_bit bitmaps.primary 1) bitmaps.secondary
          (with_bit bitmaps.secondary (n - 64)) n m above hi
          (λ k a b. adds_bit bitmaps.primary 1 k (omega arith) (omega arith) a b)
          (λ k a b. adds_bit bitmaps.secondary (n - 64) k (omega arith) (omega arith) a b))
      | inr below ↦
          let near : leb n 64 ≡ true = le-leb n 64 below in
          rw near (marks_low ns bitmaps.primary (with_bit bitmaps.primary n) bitmaps.secondary n m
          lo below
          (λ k a b. adds_bit bitmaps.primary n k (omega arith) below a b))
    ]

marks_fold : (before ns : List ℕ) (bitmaps : Bitmaps) → Marks before bitmaps →
    list_all InRange ns ≡ true
    → Marks (before ++ ns) (fold naming bitmaps ns)
marks_fold before [] bitmaps m all = subst (λ (l : List ℕ). Marks l bitmaps)
    (sym (append-nil before)) m
marks_fold before (n ∷ ns) bitmaps m all =
    let parts = and_parts (InRange n) (list_all InRange ns) all in
    let here = and_parts (leb 2 n) (leb n 128) parts.0 in
    subst (λ (l : List ℕ). Marks l (fold naming (naming bitmaps n) ns))
    (append_assoc before (n ∷ []) ns)
    (marks_fold (before ++ n ∷ []) ns (naming bitmaps n)
    (marks_step before bitmaps n m (leb-true 2 n here.0) (leb-true n 128 here.1)) parts.1)

numbers_in_range : (es : List (ℕ × List ℕ)) → list_all is_element es ≡ true →
    list_all InRange (numbers es) ≡ true
numbers_in_range [] h = refl
numbers_in_range (e ∷ es) h =
    let parts = and_parts (is_element e) (list_all is_element es) h in
    let format = format_of_element e.0 e.1 parts.0 in
    let sound = format_in_bounds e.0 format.0 format.1 in
    and_from (InRange e.0) (list_all InRange (numbers es))
    (and_from (leb 2 e.0) (leb e.0 128) (le-leb 2 e.0 sound.1) (le-leb e.0 128 sound.2))
    (numbers_in_range es parts.1)

pub marked : (es : List (ℕ × List ℕ)) → list_all is_element es ≡ true →
    Marks (numbers es) (bitmaps_of (numbers es))
unfolding bitmaps_of
marked es h = marks_fold [] (numbers es) (record { primary = 0; secondary = 0 }) marks_none
    (numbers_in_range es h)

-- ---- bitmaps fit

abbrev pub Small : Bitmaps → Type 0
Small bitmaps = (bitmaps.primary < 2 ^ 64) × (bitmaps.secondary < 2 ^ 64)

bit_small : (bits n : ℕ) → bits < 2 ^ 64 → 1 ≤ n → with_bit bits n < 2 ^ 64
bit_small bits n h a = or_lt 64 bits (2 ^ (64 - n)) h (power_small n a)

small_step : (bitmaps : Bitmaps) (n : ℕ) → 2 ≤ n → Small bitmaps → Small (naming bitmaps n)
small_step bitmaps n lo h =
    elim (cases_lt 64 n) [
      | inl above ↦
          let far : leb n 64 ≡ false = lt-leb n 64 above in
          rw far (
            bit_small bitmaps.primary 1 h.0 (omega arith),
            bit_small bitmaps.secondary (n - 64) h.1 (omega arith),
          )
      | inr below ↦
          let near : leb n 64 ≡ true = le-leb n 64 below in
          rw near (bit_small bitmaps.primary n h.0 (omega arith), h.1)
    ]

small_fold : (ns : List ℕ) (bitmaps : Bitmaps) → Small bitmaps → list_all InRange ns ≡ true
    → Small (fold naming bitmaps ns)
small_fold [] bitmaps h all = h
small_fold (n ∷ ns) bitmaps h all =
    let parts = and_parts (InRange n) (list_all InRange ns) all in
    let here = and_parts (leb 2 n) (leb n 128) parts.0 in
    small_fold ns (naming bitmaps n) (small_step bitmaps n (leb-true 2 n here.0) h) parts.1

pub bitmaps_small : (es : List (ℕ × List ℕ)) → list_all is_element es ≡ true →
    Small (bitmaps_of (numbers es))
unfolding bitmaps_of
bitmaps_small es h = small_fold (numbers es) (record { primary = 0; secondary = 0 })
    (omega arith, omega arith)
    (numbers_in_range es h)

-- ---- their digits

capitals_spell : (bits : ℕ) → bits < 2 ^ 64 → IsBitmap (upper_case bits) bits
capitals_spell bits h = bitmap_written bits h (bytes_small bits)

capitals_upper : (bits : ℕ) → list_all is_upper_hex (upper_case bits) ≡ true
capitals_upper bits = in_capitals (to_be_bytes w64 bits) (bytes_small bits)

pub digits_spell : (ns : List ℕ) (bitmaps : Bitmaps) → Small bitmaps → Marks ns bitmaps
    → AreBitmaps (digits_of_bitmaps bitmaps) bitmaps
    × (list_all is_upper_hex (digits_of_bitmaps bitmaps) ≡ true)
unfolding digits_of_bitmaps
digits_spell ns bitmaps h m =
    elim (cases_Bool (bit bitmaps.primary 1)) [
      | inl set ↦
          rw set (
            two_bitmaps (upper_case bitmaps.primary) (upper_case bitmaps.secondary) bitmaps
                (capitals_spell bitmaps.primary h.0) set (capitals_spell bitmaps.secondary h.1),
            all_append is_upper_hex (upper_case bitmaps.primary) (upper_case bitmaps.secondary)
                (capitals_upper bitmaps.primary) (capitals_upper bitmaps.secondary),
          )
      | inr unset ↦
          rw unset (
            one_bitmap (upper_case bitmaps.primary) bitmaps (capitals_spell bitmaps.primary h.0)
                unset
                (m.none unset),
            capitals_upper bitmaps.primary,
          )
    ]

pub spelling_writes : (m : IsoMessage) → IsMessage m → Writes (spelling m) m
unfolding spelling
spelling_writes m l =
    let bitmaps : Bitmaps = bitmaps_of (numbers m.elements) in
    let k = marked m.elements l.each in
    let d = digits_spell (numbers m.elements) bitmaps (bitmaps_small m.elements l.each) k in
    written m bitmaps (digits_of_bitmaps bitmaps) l k d.0 d.1

-- ---- one spelling: the same numbers are named by the same bitmaps

-- whether a filter of a range keeps a number
in_filter : (p : ℕ → Bool) (k start count : ℕ) → start ≤ k → k < start + count
    → is_in (filter p (range_with_len start count)) k ≡ p k
in_filter p k start zero lo hi = absurd (omega arith)
in_filter p k start (suc count) lo hi =
    let kept : List ℕ = filter p (range_with_len (start + 1) count) in
    elim (cases_eq k start) [
      | inl same ↦ elim (cases_Bool (p start)) [
        | inl kept_here ↦ rw kept_here
            (or_left (eqb k start) (is_in kept k) (eq-eqb k start same) ∙ sym kept_here
            ∙ ap p (sym same))
        | inr left ↦ rw left
            (not_in start k kept (filter_ascends p start (start + 1) count (omega arith))
            (omega arith) ∙ sym left ∙ ap p (sym same))
      ]
      | inr other ↦
          let rest = in_filter p k (start + 1) count (omega arith) (omega arith) in
          elim (cases_Bool (p start)) [
            | inl kept_here ↦ rw kept_here
                (ap (λ (b : Bool). b || is_in kept k) (ne_eqb k start other) ∙ rest)
            | inr left ↦ rw left rest
          ]
    ]

same_names : (a b : Bitmaps) → named a ≡ named b → (k : ℕ) → 2 ≤ k → k ≤ 128 → names a k ≡ names b k
unfolding named
same_names a b e k lo hi = sym (in_filter (names a) k 2 127 lo (omega arith))
    ∙ ap (λ (l : List ℕ). is_in l k) e
    ∙ in_filter (names b) k 2 127 lo (omega arith)

same_bit : (a b : ℕ) → a < 2 → b < 2 → eqb a 1 ≡ eqb b 1 → a ≡ b
same_bit a b ha hb e =
    elim (cases_eq a 1) [
      | inl one ↦ one ∙ sym (eqb-true b 1 (sym e ∙ eq-eqb a 1 one))
      | inr not ↦
          let other : b ≡ 1 → ⊥ = eqb-false b 1 (sym e ∙ ne_eqb a 1 not) in
          omega (arith, not, other)
    ]

same_bits : (a b : ℕ) → a < 2 ^ 64 → b < 2 ^ 64 → ((k : ℕ) → 1 ≤ k → k ≤ 64 → bit a k ≡ bit b k) →
    a ≡ b
same_bits a b ha hb h =
    same_from_bits_below 64 a b ha hb (λ i lt.
    let place : 64 - (64 - i) ≡ i = omega arith in
    let e : bit a (64 - i) ≡ bit b (64 - i) = h (64 - i) (omega arith) (omega arith) in
    let f : eqb (bit_at a i) 1 ≡ eqb (bit_at b i) 1 = rw place at e in
    same_bit (bit_at a i) (bit_at b i) (bit_at-lt a i) (bit_at-lt b i) f)

same_primary : (a b : Bitmaps) → named a ≡ named b → bit a.primary 1 ≡ bit b.primary 1 →
    a.primary < 2 ^ 64
    → b.primary < 2 ^ 64 → a.primary ≡ b.primary
same_primary a b e first ha hb =
    same_bits a.primary b.primary ha hb (λ k lo hi. elim (cases_eq k 1) [
      | inl one ↦ rw one first
      | inr more ↦
          let near : leb k 64 ≡ true = le-leb k 64 hi in
          rw near at (same_names a b e k (omega arith) (omega arith))
    ])

same_secondary : (a b : Bitmaps) → named a ≡ named b → a.secondary < 2 ^ 64 → b.secondary < 2 ^ 64
    → a.secondary ≡ b.secondary
same_secondary a b e ha hb =
    same_bits a.secondary b.secondary ha hb (λ k lo hi.
    let far : leb (k + 64) 64 ≡ false = lt-leb (k + 64) 64 (omega arith) in
    let back : k + 64 - 64 ≡ k = omega arith in
    rw (far, back) at (same_names a b e (k + 64) (omega arith) (omega arith)))

-- ---- the same bitmap has the same capitals

abbrev Digit : ℕ → Type 0
Digit c = (d : ℕ) × (d < 16) × (get_or upper_digits d 0 ≡ c)

digit_of : (c : ℕ) → is_upper_hex c ≡ true → Digit c
digit_of c h =
    elim (cases_Bool (is_ascii_digit c)) [
      | inl low ↦
          let p = and_parts (leb 48 c) (leb c 57) low in
          let a = leb-true 48 c p.0 in
          let b = leb-true c 57 p.1 in
          let e = agree_below_at (λ x. eqb (get_or upper_digits x 0) (48 + x)) (λ _. true) 10
          (c - 48) refl
          (omega arith) in
          let f = eqb-true (get_or upper_digits (c - 48) 0) (48 + (c - 48)) e in
          let g : 48 + (c - 48) ≡ c = omega arith in
          (c - 48, omega arith, f ∙ g)
      | inr high ↦
          let q : is_in_range 65 70 c ≡ true = rw high at h in
          let p = and_parts (leb 65 c) (leb c 70) q in
          let a = leb-true 65 c p.0 in
          let b = leb-true c 70 p.1 in
          let e = agree_below_at (λ x. eqb (get_or upper_digits (10 + x) 0) (65 + x)) (λ _. true) 6
          (c - 65) refl
          (omega arith) in
          let f = eqb-true (get_or upper_digits (10 + (c - 65)) 0) (65 + (c - 65)) e in
          let g : 65 + (c - 65) ≡ c = omega arith in
          (10 + (c - 65), omega arith, f ∙ g)
    ]

abbrev Packed : List ℕ → Type 0
Packed s = (bytes : List ℕ) × IsBytes bytes × (encode_upper bytes ≡ s)

bytes_more : (b : ℕ) (bytes : List ℕ) → b < 256 → IsBytes bytes → IsBytes (b ∷ bytes)
bytes_more b bytes h hs zero = h
bytes_more b bytes h hs (suc i) = hs i

packed : (s : List ℕ) → length s % 2 ≡ 0 → list_all is_upper_hex s ≡ true → Packed s
unfolding encode_with
packed [] even h = ([], λ i. omega arith, refl)
packed (a ∷ []) even h = absurd (omega arith)
packed (a ∷ b ∷ s) even h =
    let p = and_parts (is_upper_hex a) (is_upper_hex b && list_all is_upper_hex s) h in
    let q = and_parts (is_upper_hex b) (list_all is_upper_hex s) p.1 in
    let x = digit_of a p.0 in
    let y = digit_of b q.0 in
    let rest = packed s (omega arith) q.1 in
    let byte : ℕ = x.0 * 16 + y.0 in
    let high : byte / 16 ≡ x.0 = omega (arith, y.1) in
    let low : byte % 16 ≡ y.0 = omega (arith, y.1) in (
      byte ∷ rest.0,
      bytes_more byte rest.0 (omega (arith, x.1, y.1)) rest.1,
      rw (high, low, x.2, y.2, rest.2) refl,
    )

-- what decodes to these bytes, in capitals
pub spelled_up : (s bytes : List ℕ) → decode_of s ≡ Ok bytes → list_all is_upper_hex s ≡ true →
    s ≡ encode_upper bytes
spelled_up s bytes h up =
    let p = packed s (decode_of-ok s bytes h).0 up in
    let d : decode_of s ≡ Ok p.0 = ap decode_of (sym p.2) ∙ decode_of-encode_upper p.0 p.1 in
    sym p.2 ∙ ap encode_upper (decode_of-same s p.0 bytes d h)

-- a bitmap in capitals is the number's
record Capital (s : List ℕ) (v : ℕ) : Type 0 where
  small : v < 2 ^ 64
  text : s ≡ upper_case v

value_small : (bytes : List ℕ) → IsBytes bytes → from_be_bytes w64 bytes < 2 ^ 64
value_small bytes h = omega (arith, h 0, h 1, h 2, h 3, h 4, h 5, h 6, h 7)

capital_is : (s : List ℕ) (v : ℕ) → IsBitmap s v → list_all is_upper_hex s ≡ true → Capital s v
capital_is s v b up =
    let ok = decode_of-ok s b.bytes b.decoded in
    let size : length b.bytes ≡ 8 = omega (arith, ok.2, b.size) in
    record {
      small = subst (λ (x : ℕ). x < 2 ^ 64) (sym b.value) (value_small b.bytes ok.3);
      text = spelled_up s b.bytes b.decoded up ∙ ap encode_upper
          (sym (be_bytes_8 b.bytes v size ok.3 b.value));
    }

-- ---- the whole

all_front : (xs ys : List ℕ) → list_all is_upper_hex (xs ++ ys) ≡ true
    → (list_all is_upper_hex xs ≡ true) × (list_all is_upper_hex ys ≡ true)
all_front xs ys h =
    and_parts (list_all is_upper_hex xs) (list_all is_upper_hex ys)
    (sym (list_all-append is_upper_hex xs ys) ∙ h)

same_second : (set : Bool) (a b : Bitmaps) (s t : List ℕ) → named a ≡ named b →
    list_all is_upper_hex s ≡ true
    → list_all is_upper_hex t ≡ true
    → MatchBool set (IsBitmap s a.secondary) ((s ≡ []) × (a.secondary ≡ 0))
    → MatchBool set (IsBitmap t b.secondary) ((t ≡ []) × (b.secondary ≡ 0)) → s ≡ t
same_second true a b s t e us ut ha hb =
    let x = capital_is s a.secondary ha us in
    let y = capital_is t b.secondary hb ut in
    x.text ∙ ap upper_case (same_secondary a b e x.small y.small) ∙ sym y.text
same_second false a b s t e us ut ha hb = ha.0 ∙ sym hb.0

pub one_written : (s t : List ℕ) (m : IsoMessage) → Writes s m → Writes t m → s ≡ t
one_written s t m a b =
    let e : named a.bitmaps ≡ named b.bitmaps = sym a.names_all ∙ b.names_all in
    let first : bit a.bitmaps.primary 1 ≡ bit b.bitmaps.primary 1 =
    a.second_only ∙ sym b.second_only in
    let ua = all_front a.digits_fit.first a.digits_fit.second
    (subst (λ (d : List ℕ). list_all is_upper_hex d ≡ true) a.digits_fit.parts a.upper_case) in
    let ub = all_front b.digits_fit.first b.digits_fit.second
    (subst (λ (d : List ℕ). list_all is_upper_hex d ≡ true) b.digits_fit.parts b.upper_case) in
    let x = capital_is a.digits_fit.first a.bitmaps.primary a.digits_fit.primary ua.0 in
    let y = capital_is b.digits_fit.first b.bitmaps.primary b.digits_fit.primary ub.0 in
    let firsts : a.digits_fit.first ≡ b.digits_fit.first = x.text
    ∙ ap upper_case (same_primary a.bitmaps b.bitmaps e first x.small y.small) ∙ sym y.text in
    let second : MatchBool (bit b.bitmaps.primary 1)
    (IsBitmap a.digits_fit.second a.bitmaps.secondary)
    ((a.digits_fit.second ≡ []) × (a.bitmaps.secondary ≡ 0)) =
    subst (λ (z : Bool). MatchBool z (IsBitmap a.digits_fit.second a.bitmaps.secondary)
    ((a.digits_fit.second ≡ []) × (a.bitmaps.secondary ≡ 0))) first a.digits_fit.secondary in
    let seconds = same_second (bit b.bitmaps.primary 1)
    a.bitmaps b.bitmaps a.digits_fit.second b.digits_fit.second e ua.1 ub.1 second
    b.digits_fit.secondary in
    let digits : a.digits ≡ b.digits = a.digits_fit.parts
    ∙ ap (λ (d : List ℕ). d ++ a.digits_fit.second) firsts
    ∙ ap (λ (d : List ℕ). b.digits_fit.first ++ d) seconds ∙ sym b.digits_fit.parts in
    a.parts ∙ ap (λ (d : List ℕ). m.kind ++ (d ++ body m.elements)) digits ∙ sym b.parts

pub written_is : (text : List ℕ) (m : IsoMessage) → Writes text m → text ≡ spelling m
written_is text m w = one_written text (spelling m) m w (spelling_writes m w.is_message)
