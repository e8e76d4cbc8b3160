-- Numbers and bytes, written and read back.
use Rattle.std.proofs.Common.{◌≡◌, ℕ, zero, suc, ◌+◌, ◌-◌, ◌<◌, ◌≤◌, Bool, true, false, ◌&&◌, List}
use Rattle.std.proofs.Common.{[], ◌∷◌, Option, Some, None, refl, ap, subst, ◌∙◌, inl, inr}
use Rattle.std.proofs.Common.{arith}
use Rattle.std.specs.Char.{is_ascii_digit}
use Rattle.std.specs.Fmt.{decimal, digits}
use Rattle.std.specs.List.{list_all}
use Rattle.std.specs.Prelude.{◌==◌, nat_le}
use Rattle.std.specs.Str.{IsUtf8, all_scalars}
use Rattle.std.proofs.Math.Utf8.{low_scalar}
use Rattle.std.proofs.lemmas.Bool.{and_parts, cases_eq, eqb-true, le-leb, leb-true}
use Rattle.std.proofs.lemmas.Fmt.{IsAscii-decimal}
use Rattle.std.proofs.lemmas.Str.{IsUtf8-from_ascii, chars-encodes}
use Rattle.iso_codec.proofs.OneMessage.{format_of_element}
use Rattle.iso_codec.proofs.TableBounds.{format_in_bounds}
use Rattle.iso_codec.specs.Message.{is_element}
use Rattle.acq_json.specs.Said.{as_bytes, bytes_said, is_byte, number_said}
use Rattle.acq_json.specs.Written.{characters}

-- ---- bytes

pub are_scalars : (bytes : List ℕ) → list_all is_byte bytes ≡ true → all_scalars bytes ≡ true
are_scalars [] all = refl
are_scalars (b ∷ bs) all =
    let parts = and_parts (is_byte b) (list_all is_byte bs) all in
    let low = leb-true b 255 parts.0 in
    rw (low_scalar b (omega (arith, low))) (are_scalars bs parts.1)

pub characters_utf8 : (bytes : List ℕ) → list_all is_byte bytes ≡ true → IsUtf8 (characters bytes)
characters_utf8 bytes all = (bytes, (are_scalars bytes all, refl))

pub bytes_back : (bytes : List ℕ) → list_all is_byte bytes ≡ true
    → bytes_said (characters bytes) ≡ Some bytes
bytes_back bytes all =
    ap as_bytes (chars-encodes bytes (are_scalars bytes all)) ∙ rw all refl

pub digits_are_bytes : (text : List ℕ) → list_all is_ascii_digit text ≡ true
    → list_all is_byte text ≡ true
digits_are_bytes [] all = refl
digits_are_bytes (d ∷ ds) all =
    let parts = and_parts (is_ascii_digit d) (list_all is_ascii_digit ds) all in
    let high = leb-true d 57 (and_parts (nat_le 48 d) (nat_le d 57) parts.0).1 in
    let own : is_byte d ≡ true = le-leb d 255 (omega (arith, high)) in
    rw own (digits_are_bytes ds parts.1)

-- ---- numbers

abbrev is_some_of : ℕ → Option ℕ → Bool
is_some_of n None = false
is_some_of n (Some k) = k == n

is_some : (n : ℕ) (o : Option ℕ) → is_some_of n o ≡ true → o ≡ Some n
is_some n None h = absurd (cc)
is_some n (Some k) h = ap Some (eqb-true k n h)

-- of the numbers from 2 to n + 1
abbrev numbers_to : ℕ → Bool
numbers_to zero = true
numbers_to (suc n) = is_some_of (n + 2) (number_said (decimal (n + 2))) && numbers_to n

table : numbers_to 127 ≡ true
unfolding digits
table = refl

number_to : (k : ℕ) → numbers_to k ≡ true → (n : ℕ) → n < k
    → number_said (decimal (n + 2)) ≡ Some (n + 2)
number_to zero all n less = absurd (omega arith)
number_to (suc k) all n less =
    let parts = and_parts (is_some_of (k + 2) (number_said (decimal (k + 2)))) (numbers_to k) all in
    elim (cases_eq n k) [
      | inl same ↦ rw same (is_some (k + 2) (number_said (decimal (k + 2))) parts.0)
      | inr other ↦ number_to k parts.1 n (omega arith)
    ]

pub number_back : (n : ℕ) → 2 ≤ n → n ≤ 128 → number_said (decimal n) ≡ Some n
number_back n low high =
    let e : (n - 2) + 2 ≡ n = omega (arith, low) in
    subst (λ (k : ℕ). number_said (decimal k) ≡ Some k) e
    (number_to 127 table (n - 2) (omega (arith, low, high)))

pub number_utf8 : (n : ℕ) → n ≤ 128 → IsUtf8 (decimal n)
number_utf8 n high = IsUtf8-from_ascii (decimal n) (IsAscii-decimal n (omega (arith, high)))

-- an element of the table has such a number
pub element_number : (n : ℕ) (content : List ℕ) → is_element (n, content) ≡ true
    → (2 ≤ n) × (n ≤ 128)
element_number n content is =
    let format = format_of_element n content is in
    let bounds = format_in_bounds n format.0 format.1 in
    (bounds.1, bounds.2)
