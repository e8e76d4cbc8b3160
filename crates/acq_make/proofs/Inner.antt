-- Texts that are shown end no line.
use Rattle.std.proofs.Common.{◌≡◌, ℕ, Bool, true, false, nat_eq, List, [], ◌∷◌, ◌++◌, Option, Some, None}
use Rattle.std.proofs.Common.{refl, sym, ap, subst, ◌∙◌, inl, inr, arith}
use Rattle.std.specs.Prelude.{◌==◌, ◌&&◌, ◌||◌, codes, if◌then◌else◌, length, take, drop}
use Rattle.std.specs.Char.{is_ascii_digit}
use Rattle.std.specs.List.{list_all}
use Rattle.std.proofs.lemmas.Bool.{and_parts, cases_Bool, eqb-true, leb-true, ne_eqb}
use Rattle.iso_codec.proofs.WrittenIsRead.{all_append}
use Rattle.iso_codec.specs.Content.{is_printable}
use Rattle.acq_show.specs.Contents.{byte_shown, content_shown, meaning_shown, part_shown, printable}
use Rattle.acq_show.specs.Meanings.{code_number, meaning, network_codes, responses, settlements, transactions}
use Rattle.acq_show.specs.Meanings.{word_for}
use Rattle.acq_show.specs.Names.{class_name, classes, function_name, is_empty, name_in, origin_name}
use Rattle.acq_make.specs.WrittenOut.{content_written, is_masked}
use Rattle.acq_make.proofs.ContentsBack.{shown_plain}
use Rattle.acq_make.proofs.Printed.{printable_is}
use Rattle.acq_make.proofs.Texts.{is_inner, one_line}

pub both : (a b : List ℕ) → one_line a ≡ true → one_line b ≡ true → one_line (a ++ b) ≡ true
both a b h k = all_append is_inner a b h k

pub if_inner : (b : Bool) (x y : List ℕ) → one_line x ≡ true → one_line y ≡ true
    → one_line (if b then x else y) ≡ true
if_inner true x y h k = h
if_inner false x y h k = k

-- a byte from the space on
from_space : (b : ℕ) → is_printable b ≡ true → is_inner b ≡ true
from_space b h =
    let low = leb-true 32 b (and_parts _ _ h).0 in
    let ten : nat_eq b 10 ≡ false = ne_eqb b 10 (λ is. absurd (omega (arith, is, low))) in
    let more : nat_eq b 13 ≡ false = ne_eqb b 13 (λ is. absurd (omega (arith, is, low))) in
    rw (ten, more) refl

byte_inner : (b : ℕ) → is_inner (byte_shown b) ≡ true
byte_inner b =
    elim (cases_Bool (is_printable b)) [
      | inl is ↦ ap (λ (x : Bool). is_inner (if x then b else 46)) is ∙ from_space b is
      | inr isnt ↦ ap (λ (x : Bool). is_inner (if x then b else 46)) isnt
    ]

pub printable_inner : (xs : List ℕ) → one_line (printable xs) ≡ true
printable_inner [] = refl
printable_inner (x ∷ xs) = rw (byte_inner x) (printable_inner xs)

pub clear_inner : (c : List ℕ) → list_all is_printable c ≡ true → one_line c ≡ true
clear_inner c clear = ap one_line (sym (printable_is c clear)) ∙ printable_inner c

pub digits_inner : (xs : List ℕ) → list_all is_ascii_digit xs ≡ true → one_line xs ≡ true
digits_inner [] h = refl
digits_inner (d ∷ ds) h =
    let parts = and_parts (is_ascii_digit d) (list_all is_ascii_digit ds) h in
    let low = leb-true 48 d (and_parts _ _ parts.0).0 in
    let ten : nat_eq d 10 ≡ false = ne_eqb d 10 (λ is. absurd (omega (arith, is, low))) in
    let more : nat_eq d 13 ≡ false = ne_eqb d 13 (λ is. absurd (omega (arith, is, low))) in
    rw (ten, more) (digits_inner ds parts.1)

-- ---- tables of words

table_inner : (rows : List (ℕ × List ℕ)) (n : ℕ) → list_all (λ r. one_line r.1) rows ≡ true
    → one_line (name_in rows n) ≡ true
table_inner [] n h = refl
table_inner (r ∷ rs) n h =
    let parts = and_parts (one_line r.1) (list_all (λ x. one_line x.1) rs) h in
    if_inner (n == r.0) r.1 (name_in rs n) parts.0 (table_inner rs n parts.1)

word_inner : (rows : List (ℕ × List ℕ)) (o : Option ℕ) → list_all (λ r. one_line r.1) rows ≡ true
    → one_line (word_for rows o) ≡ true
word_inner rows None h = refl
word_inner rows (Some n) h = table_inner rows n h

meaning_inner : (n : ℕ) (c : List ℕ) → one_line (meaning n c) ≡ true
meaning_inner n c =
    let three = word_inner transactions (code_number 2 (take 2 c)) refl in
    let response = word_inner responses (code_number 2 c) refl in
    let settlement = word_inner settlements (code_number 1 c) refl in
    let network = word_inner network_codes (code_number 3 c) refl in
    if_inner (n == 3) (word_for transactions (code_number 2 (take 2 c)))
    (if n == 39 then word_for responses (code_number 2 c)
    else if n == 66 then word_for settlements (code_number 1 c)
    else if n == 70 then word_for network_codes (code_number 3 c) else []) three
    (if_inner (n == 39) (word_for responses (code_number 2 c))
    (if n == 66 then word_for settlements (code_number 1 c)
    else if n == 70 then word_for network_codes (code_number 3 c) else []) response
    (if_inner (n == 66) (word_for settlements (code_number 1 c))
    (if n == 70 then word_for network_codes (code_number 3 c) else []) settlement
    (if_inner (n == 70) (word_for network_codes (code_number 3 c)) [] network refl)))

meaning_line : (words : List ℕ) → one_line words ≡ true → one_line (meaning_shown words) ≡ true
meaning_line words h =
    if_inner (is_empty words) [] (codes ": " ++ words) refl (both (codes ": ") words refl h)

-- the words behind a type
pub words_inner : (class function origin : ℕ)
    → one_line (class_name class function ++ codes " " ++ function_name function
    ++ origin_name origin) ≡ true
words_inner class function origin =
    let class_is : one_line (class_name class function) ≡ true =
    if_inner (class == 50 && (function == 50 || function == 51)) (codes "completion")
    (name_in classes class) refl (table_inner classes class refl) in
    let function_is : one_line (function_name function) ≡ true =
    table_inner ((48, codes "request") ∷ (49, codes "response") ∷ (50, codes "advice")
    ∷ (51, codes "advice response") ∷ []) function refl in
    let origin_is : one_line (origin_name origin) ≡ true =
    if_inner (origin == 49) (codes ", repeat") [] refl refl in
    both (class_name class function ++ codes " " ++ function_name function) (origin_name origin)
    (both (class_name class function ++ codes " ") (function_name function)
    (both (class_name class function) (codes " ") class_is refl) function_is) origin_is

-- ---- contents

part_inner : (name p : List ℕ) → one_line name ≡ true → one_line (part_shown name p) ≡ true
part_inner name p h = both name (printable p) h (printable_inner p)

Inner : ℕ → List ℕ → Type 0
Inner n c = one_line (content_shown n c) ≡ true

four : (a b c d : List ℕ) → one_line a ≡ true → one_line b ≡ true → one_line c ≡ true
    → one_line d ≡ true → one_line (a ++ b ++ c ++ d) ≡ true
four a b c d ha hb hc hd = both (a ++ b ++ c) d (both (a ++ b) c (both a b ha hb) hc) hd

inner_90 : (c : List ℕ) → Inner 90 c
unfolding Inner
inner_90 c =
    let kind : List ℕ = part_shown (codes "type ") (take 4 c) in
    let trace : List ℕ = part_shown (codes ", trace number ") (take 6 (drop 4 c)) in
    let moment : List ℕ = part_shown (codes ", transmitted ") (take 10 (drop 6 (drop 4 c))) in
    let acquirer : List ℕ = part_shown (codes ", acquirer ")
    (take 11 (drop 10 (drop 6 (drop 4 c)))) in
    let forwarder : List ℕ = part_shown (codes ", forwarder ")
    (drop 11 (drop 10 (drop 6 (drop 4 c)))) in
    if_inner (length c == 42) (kind ++ trace ++ moment ++ acquirer ++ forwarder) (printable c)
    (both (kind ++ trace ++ moment ++ acquirer) forwarder
    (four kind trace moment acquirer (part_inner (codes "type ") (take 4 c) refl)
    (part_inner (codes ", trace number ") (take 6 (drop 4 c)) refl)
    (part_inner (codes ", transmitted ") (take 10 (drop 6 (drop 4 c))) refl)
    (part_inner (codes ", acquirer ") (take 11 (drop 10 (drop 6 (drop 4 c)))) refl))
    (part_inner (codes ", forwarder ") (drop 11 (drop 10 (drop 6 (drop 4 c)))) refl))
    (printable_inner c)

inner_95 : (c : List ℕ) → Inner 95 c
unfolding Inner
inner_95 c =
    let amount : List ℕ = part_shown (codes "amount ") (take 12 c) in
    let settlement : List ℕ = part_shown (codes ", settlement amount ") (take 12 (drop 12 c)) in
    let fee : List ℕ = part_shown (codes ", fee ") (take 9 (drop 12 (drop 12 c))) in
    let other : List ℕ = part_shown (codes ", settlement fee ") (drop 9 (drop 12 (drop 12 c))) in
    if_inner (length c == 42) (amount ++ settlement ++ fee ++ other) (printable c)
    (four amount settlement fee other (part_inner (codes "amount ") (take 12 c) refl)
    (part_inner (codes ", settlement amount ") (take 12 (drop 12 c)) refl)
    (part_inner (codes ", fee ") (take 9 (drop 12 (drop 12 c))) refl)
    (part_inner (codes ", settlement fee ") (drop 9 (drop 12 (drop 12 c))) refl))
    (printable_inner c)

inner_plain : (n : ℕ) (c : List ℕ) → is_masked n ≡ false → (n == 90) ≡ false → (n == 95) ≡ false
    → Inner n c
unfolding Inner
inner_plain n c seen n90 n95 =
    ap one_line (shown_plain n c seen n90 n95)
    ∙ both (printable c) (meaning_shown (meaning n c)) (printable_inner c)
    (meaning_line (meaning n c) (meaning_inner n c))

shown_inner : (n : ℕ) (c : List ℕ) → is_masked n ≡ false → Inner n c
shown_inner n c seen =
    elim (cases_Bool (n == 90)) [
      | inl at ↦ subst (λ (k : ℕ). Inner k c) (sym (eqb-true n 90 at)) (inner_90 c)
      | inr n90 ↦ elim (cases_Bool (n == 95)) [
        | inl at ↦ subst (λ (k : ℕ). Inner k c) (sym (eqb-true n 95 at)) (inner_95 c)
        | inr n95 ↦ inner_plain n c seen n90 n95
      ]
    ]

pub written_inner : (n : ℕ) (c : List ℕ) → list_all is_printable c ≡ true
    → one_line (content_written n c) ≡ true
unfolding Inner
written_inner n c clear =
    elim (cases_Bool (is_masked n)) [
      | inl masked ↦
          ap (λ (b : Bool). one_line (if b then c else content_shown n c)) masked
          ∙ clear_inner c clear
      | inr seen ↦
          ap (λ (b : Bool). one_line (if b then c else content_shown n c)) seen ∙ shown_inner n c seen
    ]
