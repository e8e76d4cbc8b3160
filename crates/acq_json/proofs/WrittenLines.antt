-- The line of a message is one line of UTF-8, and its text is the message's value.
use Rattle.std.proofs.Common.{◌≡◌, ℕ, zero, suc, ◌<◌, ◌≤◌, Bool, true, false, cond, ◌&&◌, nat_eq}
use Rattle.std.proofs.Common.{List, [], ◌∷◌, ◌++◌, Some, refl, inl, inr, arith}
use Rattle.std.specs.Prelude.{codes}
use Rattle.std.specs.Fmt.{decimal}
use Rattle.std.specs.Str.{IsUtf8}
use Rattle.std.specs.List.{list_all}
use Rattle.std.proofs.lemmas.Bool.{and_parts, cases_eq, cases_lt, ne_eqb}
use Rattle.std.proofs.lemmas.Str.{IsUtf8-append, IsUtf8-nil}
use Rattle.json.specs.Json.{Json}
use Rattle.json.specs.Print.{ends, escape, escape_byte, print, print_from, quoted, separator}
use Rattle.json.specs.Print.{token_text}
use Rattle.json.specs.Token.{Token, begin_object, end_object, key, string}
use Rattle.json.specs.Tree.{MembersHaveNumbers, depth, json_tokens, members_depth}
use Rattle.json.specs.Tree.{members_tokens}
use Rattle.json.proofs.Printed.Strings.{escape_byte_plain}
use Rattle.json.proofs.Printed.Trees.{document-print}
use Rattle.json.proofs.Printed.Utf8.{IsUtf8-are_ascii, IsUtf8-key, IsUtf8-quoted, IsUtf8-separator}
use Rattle.iso_codec.specs.Message.{IsMessage, IsoMessage, is_element}
use Rattle.acq_make.proofs.Inner.{both}
use Rattle.acq_make.proofs.Texts.{one_line}
use Rattle.acq_json.specs.declared.card_form.CardForm.TheVariants.{Whole}
use Rattle.acq_json.specs.Said.{is_byte, is_open, value_said}
use Rattle.acq_json.specs.Written.{characters, elements_json, message_json}
use Rattle.acq_json.proofs.BytesBack.{characters_utf8, digits_are_bytes, element_number}
use Rattle.acq_json.proofs.BytesBack.{number_utf8}
use Rattle.acq_json.proofs.ValuesRead.{valued}

-- ---- escapes end no line

abbrev escapes_below : ℕ → Bool
escapes_below zero = true
escapes_below (suc n) = one_line (escape_byte n) && escapes_below n

each_below : (n : ℕ) → escapes_below n ≡ true → (x : ℕ) → x < n → one_line (escape_byte x) ≡ true
each_below zero all x less = absurd (omega arith)
each_below (suc n) all x less =
    let parts = and_parts (one_line (escape_byte n)) (escapes_below n) all in
    elim (cases_eq x n) [
      | inl same ↦ rw same parts.0
      | inr other ↦ each_below n parts.1 x (omega arith)
    ]

table : escapes_below 128 ≡ true
unfolding escape_byte
table = refl

one_inner : (x : ℕ) → one_line (escape_byte x) ≡ true
one_inner x = elim (cases_lt x 128) [
  | inl low ↦ each_below 128 table x low
  | inr high ↦
      let ten : nat_eq x 10 ≡ false = ne_eqb x 10 (λ is. absurd (omega (arith, is, high))) in
      let more : nat_eq x 13 ≡ false = ne_eqb x 13 (λ is. absurd (omega (arith, is, high))) in
      rw (escape_byte_plain x (λ is. omega (arith, is, high)) (λ is. omega (arith, is, high))
      (omega (arith, high)))
      (rw (ten, more) refl)
]

escape_inner : (s : List ℕ) → one_line (escape s) ≡ true
escape_inner [] = refl
escape_inner (x ∷ xs) = both (escape_byte x) (escape xs) (one_inner x) (escape_inner xs)

quoted_inner : (s : List ℕ) → one_line (quoted s) ≡ true
quoted_inner s = both (escape s) (34 ∷ []) (escape_inner s) refl

-- ---- tokens

-- texts of one line, in UTF-8
record IsClear (text : List ℕ) : Type 0 where
  line : one_line text ≡ true
  utf8 : IsUtf8 text

clear_both : (a b : List ℕ) → IsClear a → IsClear b → IsClear (a ++ b)
clear_both a b first second = record {
  line = both a b first.line second.line;
  utf8 = IsUtf8-append a b first.utf8 second.utf8;
}

comma_clear : (b : Bool) → one_line (cond b (44 ∷ []) []) ≡ true
comma_clear true = refl
comma_clear false = refl

abbrev AreClear : List Token → Type 0
AreClear [] = Unit {0}
AreClear (t ∷ ts) = IsClear (token_text t) × AreClear ts

printed_clear : (after_value : Bool) (ts : List Token) → AreClear ts
    → IsClear (print_from after_value ts)
unfolding print_from
printed_clear after_value [] all = record { line = refl; utf8 = IsUtf8-nil }
printed_clear after_value (t ∷ ts) all =
    clear_both (separator after_value t) (token_text t ++ print_from (ends t) ts)
    (record { line = comma_clear _; utf8 = IsUtf8-separator after_value t })
    (clear_both (token_text t) (print_from (ends t) ts) all.0 (printed_clear (ends t) ts all.1))

clear_begin : IsClear (token_text begin_object)
clear_begin = record { line = refl; utf8 = IsUtf8-are_ascii (123 ∷ []) refl }

clear_end : IsClear (token_text end_object)
clear_end = record { line = refl; utf8 = IsUtf8-are_ascii (125 ∷ []) refl }

clear_key : (s : List ℕ) → IsUtf8 s → IsClear (token_text (key s))
clear_key s is = record {
  line = both (quoted s) (58 ∷ []) (quoted_inner s) refl;
  utf8 = IsUtf8-key s is;
}

clear_string : (s : List ℕ) → IsUtf8 s → IsClear (token_text (string s))
clear_string s is = record { line = quoted_inner s; utf8 = IsUtf8-quoted s is }

clear_members : (es : List (ℕ × List ℕ)) → list_all is_element es ≡ true
    → list_all is_open es ≡ true → (rest : List Token) → AreClear rest
    → AreClear (members_tokens (elements_json Whole es) ++ rest)
clear_members [] are each rest clear = (clear_end, clear)
clear_members (e ∷ es) are each rest clear =
    let element = and_parts (is_element e) (list_all is_element es) are in
    let parts = and_parts (is_open e) (list_all is_open es) each in
    let own = and_parts (list_all is_byte e.1) _ parts.0 in (
      clear_key (decimal e.0) (number_utf8 e.0 (element_number e.0 e.1 element.0).1),
      (
        clear_string (characters e.1) (characters_utf8 e.1 own.0),
        clear_members es element.1 parts.1 rest clear,
      ),
    )

text_of : IsoMessage → List ℕ
text_of m = print (json_tokens (message_json Whole m))

line_clear : (m : IsoMessage) → IsMessage m
    → list_all is_open m.elements ≡ true → IsClear (text_of m)
unfolding text_of
line_clear m is each =
    let bytes = digits_are_bytes m.kind is.kind_fits.digits in
    printed_clear false (json_tokens (message_json Whole m)) (
      clear_begin,
      (
        clear_key (codes "type") (IsUtf8-are_ascii (codes "type") refl),
        (
          clear_string (characters m.kind) (characters_utf8 m.kind bytes),
          (
            clear_key (codes "elements") (IsUtf8-are_ascii (codes "elements") refl),
            (clear_begin, clear_members m.elements is.each each (end_object ∷ []) (clear_end, tt)),
          ),
        ),
      ),
    )

-- ---- the value

members_numbers : (es : List (ℕ × List ℕ)) → MembersHaveNumbers (elements_json Whole es)
members_numbers [] = tt
members_numbers (e ∷ es) = (tt, members_numbers es)

members_flat : (es : List (ℕ × List ℕ)) → members_depth (elements_json Whole es) ≡ 0
members_flat [] = refl
members_flat (e ∷ es) = rw (members_flat es) refl

message_flat : (m : IsoMessage) → depth (message_json Whole m) ≤ 128
message_flat m = rw (members_flat m.elements) (omega arith)

pub one_line_text : (m : IsoMessage) → IsMessage m
    → list_all is_open m.elements ≡ true
    → one_line (print (json_tokens (message_json Whole m))) ≡ true
unfolding text_of
one_line_text m is each = (line_clear m is each).line

pub its_value : (m : IsoMessage) → IsMessage m
    → list_all is_open m.elements ≡ true
    → value_said (print (json_tokens (message_json Whole m))) ≡ Some (message_json Whole m)
unfolding text_of
its_value m is each =
    let j : Json = message_json Whole m in
    let text : List ℕ = print (json_tokens j) in
    valued text text j refl (line_clear m is each).utf8
    (document-print j (tt, ((members_numbers m.elements), tt)) (message_flat m))
