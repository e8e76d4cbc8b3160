-- One element: what is read is spelled so.
use Rattle.std.proofs.Common.{◌≡◌, ℕ, ◌+◌, ◌/◌, ◌%◌, ◌<◌, ◌≤◌, Bool, true, ◌&&◌, leb, List, [], ◌∷◌}
use Rattle.std.proofs.Common.{◌++◌, length, take, Some, None, refl, sym, ap, ◌∙◌, append_assoc}
use Rattle.std.proofs.Common.{arith, inl, inr}
use Rattle.std.specs.List.{list_all}
use Rattle.std.proofs.lemmas.Bool.{and_parts, and_from, leb-true, eq-eqb, le-leb, cases_Bool}
use Rattle.std.proofs.lemmas.List.{append-nil, nil_from_length, length-take-le, map_push}
use Rattle.std.proofs.lemmas.List.Concat.{flat_map-append}
use Rattle.std.proofs.lemmas.List.Folds.{list_all-append}
use Rattle.iso_codec.specs.declared.form.Form.{Form}
use Rattle.iso_codec.specs.declared.form.Form.TheVariants.{Fixed, Llvar, Lllvar}
use Rattle.iso_codec.specs.declared.element_format.ElementFormat.{ElementFormat}
use Rattle.iso_codec.specs.Table.{format_of}
use Rattle.std.specs.Char.{is_ascii_digit, digit_value}
use Rattle.std.proofs.lemmas.Str.{digit_value_digit}
use Rattle.std.specs.Str.Parse.{digits_value}
use Rattle.iso_codec.specs.Content.{prefix_size, stated, length_of, digits_of, has_length, allows}
use Rattle.iso_codec.specs.Content.{spelled_by}
use Rattle.iso_codec.specs.declared.bitmaps.Bitmaps.{Bitmaps}
use Rattle.iso_codec.specs.Message.{named, numbers, is_element, spelled, body}
use Rattle.iso_codec.specs.Faults.{IsContent}

-- what a length that may stand shows
pub stated_some : (greatest : ℕ) (digits : List ℕ) (n : ℕ) → stated greatest digits ≡ Some n
    → (list_all is_ascii_digit digits ≡ true) × (digits_value 10 digits ≡ n) × (n ≤ greatest)
stated_some greatest digits n h =
    elim (cases_Bool (list_all is_ascii_digit digits && leb (digits_value 10 digits) greatest)) [
      | inl good ↦
          let parts = and_parts (list_all is_ascii_digit digits)
          (leb (digits_value 10 digits) greatest) good in
          let e : Some (digits_value 10 digits) ≡ Some n = rw good at h in
          let same : digits_value 10 digits ≡ n = cc in
          (parts.0, same, rw (← same) (leb-true _ _ parts.1))
      | inr bad ↦ let e : None ≡ Some n = rw bad at h in cc
    ]

digit_value-of_digit : (b : ℕ) → is_ascii_digit b ≡ true →
    (digit_value b + 48 ≡ b) × (digit_value b < 10)
digit_value-of_digit b h =
    let parts = and_parts (leb 48 b) (leb b 57) h in
    let high : b ≤ 57 = leb-true b 57 parts.1 in
    let e = digit_value_digit b (leb-true 48 b parts.0, high) in
    (e, omega arith)

two_back : (a b : ℕ) → is_ascii_digit a ≡ true → is_ascii_digit b ≡ true → (n : ℕ) →
    digits_value 10 (a ∷ b ∷ []) ≡ n
    → ((48 + n / 10) ∷ (48 + n % 10) ∷ []) ≡ a ∷ b ∷ []
two_back a b ha hb n h =
    let ba = digit_value-of_digit a ha in
    let bb = digit_value-of_digit b hb in
    let x : 48 + n / 10 ≡ a = omega arith in
    let y : 48 + n % 10 ≡ b = omega arith in
    rw (x, y) refl

three_back : (a b d : ℕ) → is_ascii_digit a ≡ true → is_ascii_digit b ≡ true →
    is_ascii_digit d ≡ true → (n : ℕ)
    → digits_value 10 (a ∷ b ∷ d ∷ []) ≡ n →
    ((48 + n / 100) ∷ (48 + n / 10 % 10) ∷ (48 + n % 10) ∷ [])
    ≡ a ∷ b ∷ d ∷ []
three_back a b d ha hb hd n h =
    let ba = digit_value-of_digit a ha in
    let bb = digit_value-of_digit b hb in
    let bd = digit_value-of_digit d hd in
    let x : 48 + n / 100 ≡ a = omega arith in
    let y : 48 + n / 10 % 10 ≡ b = omega arith in
    let z : 48 + n % 10 ≡ d = omega arith in
    rw (x, y, z) refl

two : (digits : List ℕ) (n : ℕ) → length digits ≡ 2 → list_all is_ascii_digit digits ≡ true
    → digits_value 10 digits ≡ n → ((48 + n / 10) ∷ (48 + n % 10) ∷ []) ≡ digits
two [] n l h e = absurd (omega arith)
two (a ∷ []) n l h e = absurd (omega arith)
two (a ∷ b ∷ []) n l h e =
    let p = and_parts (is_ascii_digit a) (is_ascii_digit b && true) h in
    let q = and_parts (is_ascii_digit b) true p.1 in
    two_back a b p.0 q.0 n e
two (a ∷ b ∷ d ∷ rest) n l h e = absurd (omega arith)

three : (digits : List ℕ) (n : ℕ) → length digits ≡ 3 → list_all is_ascii_digit digits ≡ true
    → digits_value 10 digits ≡ n →
    ((48 + n / 100) ∷ (48 + n / 10 % 10) ∷ (48 + n % 10) ∷ []) ≡ digits
three [] n l h e = absurd (omega arith)
three (a ∷ []) n l h e = absurd (omega arith)
three (a ∷ b ∷ []) n l h e = absurd (omega arith)
three (a ∷ b ∷ d ∷ []) n l h e =
    let p = and_parts (is_ascii_digit a) (is_ascii_digit b && (is_ascii_digit d && true)) h in
    let q = and_parts (is_ascii_digit b) (is_ascii_digit d && true) p.1 in
    let r = and_parts (is_ascii_digit d) true q.1 in
    three_back a b d p.0 q.0 r.0 n e
three (a ∷ b ∷ d ∷ x ∷ rest) n l h e = absurd (omega arith)

-- the digits that spell a length are those of the length
pub digits_back : (f : Form) (digits : List ℕ) (n : ℕ) → length digits ≡ prefix_size f →
    length_of f digits ≡ Some n
    → (digits_of f n ≡ digits) × (has_length f n ≡ true)
digits_back (Fixed k) digits n l h =
    let e : k ≡ n = cc in
    (sym (nil_from_length digits l), eq-eqb n k (sym e))
digits_back (Llvar greatest) digits n l h =
    let s = stated_some greatest digits n h in
    (two digits n l s.0 s.1, le-leb n greatest s.2)
digits_back (Lllvar greatest) digits n l h =
    let s = stated_some greatest digits n h in
    (three digits n l s.0 s.1, le-leb n greatest s.2)

-- content that was read is an element, and spelled as it stood
pub content_is : (n : ℕ) (r : ElementFormat) (rest content after : List ℕ) → format_of n ≡ Some r
    → IsContent r rest content after
    → (is_element (n, content) ≡ true) × (rest ≡ spelled (n, content) ++ after)
content_is n r rest content after format h =
    let digits : List ℕ = take (prefix_size r.form) rest in
    let back = digits_back r.form digits h.len
    (length-take-le (prefix_size r.form) rest h.prefix_there) h.stated in
    let fits : has_length r.form (length content) ≡ true = rw h.size back.1 in
    let known : allows (Some r) content ≡ true = and_from _ _ fits h.class_fits in
    let whole : rest ≡ spelled_by (Some r) content ++ after =
    rw (h.size, back.0) (h.parts ∙ sym (append_assoc digits content after)) in
    (rw format known, rw format whole)

-- one more element
pub body_push : (es : List (ℕ × List ℕ)) (e : ℕ × List ℕ) (front rest after : List ℕ) →
    front ≡ body es ++ rest
    → rest ≡ spelled e ++ after → front ≡ body (es ++ e ∷ []) ++ after
body_push es e front rest after h k =
    let one : body (es ++ e ∷ []) ≡ body es ++ spelled e = flat_map-append spelled es (e ∷ [])
    ∙ ap (λ (x : List ℕ). body es ++ x) (append-nil (spelled e)) in
    h ∙ ap (λ (x : List ℕ). body es ++ x) k ∙ sym (append_assoc (body es) (spelled e) after)
    ∙ ap (λ (x : List ℕ). x ++ after) (sym one)

pub all_push : {X : Type 0} (p : X → Bool) (xs : List X) (x : X) → list_all p xs ≡ true → p x ≡ true
    → list_all p (xs ++ x ∷ []) ≡ true
all_push p xs x h k = list_all-append p xs (x ∷ []) ∙ rw (h, k) refl

pub all_of_mid : {X : Type 0} (p : X → Bool) (xs ys : List X) (x : X) →
    list_all p (xs ++ x ∷ ys) ≡ true → p x ≡ true
all_of_mid p xs ys x h =
    let both = sym (list_all-append p xs (x ∷ ys)) ∙ h in
    let behind = and_parts (list_all p xs) (list_all p (x ∷ ys)) both in
    (and_parts (p x) (list_all p ys) behind.1).0

-- where reading the elements has come: es are read, rest is left, and the elements ns have to come
pub record Goes (bitmaps : Bitmaps) (front : List ℕ) (es : List (ℕ × List ℕ))
    (rest ns : List ℕ) : Type 0 where
  pub parts : front ≡ body es ++ rest
  pub numbers_are : named bitmaps ≡ numbers es ++ ns
  pub each : list_all is_element es ≡ true

pub goes_on : (bitmaps : Bitmaps) (front : List ℕ) (es : List (ℕ × List ℕ)) (rest ns : List ℕ)
    (n : ℕ)
    (r : ElementFormat) (content after : List ℕ) → Goes bitmaps front es rest (n ∷ ns) →
    format_of n ≡ Some r
    → IsContent r rest content after → Goes bitmaps front (es ++ (n, content) ∷ []) after ns
goes_on bitmaps front es rest ns n r content after g format k =
    let c = content_is n r rest content after format k in
    record {
      parts = body_push es (n, content) front rest after g.parts c.1;
      numbers_are = g.numbers_are ∙ sym (append_assoc (numbers es) (n ∷ []) ns)
          ∙ ap (λ (l : List ℕ). l ++ ns) (sym (map_push (λ (e : ℕ × List ℕ). e.0) es (n, content)));
      each = all_push is_element es (n, content) g.each c.0;
    }

pub goes_none : (bitmaps : Bitmaps) (front ns : List ℕ) → named bitmaps ≡ ns →
    Goes bitmaps front [] front ns
goes_none bitmaps front ns e = record { parts = refl; numbers_are = e; each = refl }
