-- Lines of types, of elements and of remarks, as they are read.
use Rattle.std.proofs.Common.{◌≡◌, ℕ, ◌-◌, ◌≤◌, Bool, true, false, nat_eq, List, [], ◌∷◌, ◌++◌}
use Rattle.std.proofs.Common.{length, Option, Some, refl, ap, ◌∙◌, arith, append-nil}
use Rattle.std.specs.Prelude.{codes, if◌then◌else◌}
use Rattle.std.specs.Char.{is_ascii_digit}
use Rattle.std.specs.Fmt.{decimal}
use Rattle.std.specs.List.{list_all}
use Rattle.std.proofs.lemmas.Bool.{and_parts, eq-eqb, leb-true, ne_eqb}
use Rattle.iso_codec.specs.Message.{IsKind}
use Rattle.acq_show.specs.Names.{element_name, is_empty}
use Rattle.acq_show.specs.Shown.{spaces}
use Rattle.acq_make.specs.declared.line_kind.LineKind.{LineKind}
use Rattle.acq_make.specs.declared.line_kind.LineKind.TheVariants.{Remark, Empty, Head, Element}
use Rattle.acq_make.specs.Lines.{behind_name, behind_spaces, behind_word, first_word, is_remark}
use Rattle.acq_make.specs.Lines.{line_kind, said_text, text_kind, word_kind}
use Rattle.acq_make.proofs.Known.{Known, starts_digit, starts_word}
use Rattle.acq_make.proofs.Texts.{begins_own, behind_column, behind_spaces_is, behind_word_is}
use Rattle.acq_make.proofs.Texts.{first_word_all, first_word_is, is_not, is_space, no_space}

digit_bounds : (d : ℕ) → is_ascii_digit d ≡ true → (48 ≤ d) × (d ≤ 57)
digit_bounds d h =
    let parts = and_parts _ _ h in (leb-true 48 d parts.0, leb-true d 57 parts.1)

space_isnt : (d : ℕ) → is_ascii_digit d ≡ true → is_space d ≡ false
space_isnt d h =
    let bounds = digit_bounds d h in ne_eqb d 32 (λ is. absurd (omega (arith, is, bounds.0)))

-- a text that begins with a digit is no remark
no_remark : (d : ℕ) (rest : List ℕ) → is_ascii_digit d ≡ true → is_remark (d ∷ rest) ≡ false
no_remark d rest h =
    let bounds = digit_bounds d h in
    let hash : nat_eq 35 d ≡ false = ne_eqb 35 d (λ is. absurd (omega (arith, is, bounds.0))) in
    let letter : nat_eq 116 d ≡ false = ne_eqb 116 d (λ is. absurd (omega (arith, is, bounds.1))) in
    rw (hash, letter) refl

pub no_empty : (b : ℕ) (rest : List ℕ) → is_empty (b ∷ rest) ≡ false
no_empty b rest = ne_eqb (length (b ∷ rest)) 0 (λ is. absurd (omega (arith, is)))

-- a line whose first word begins with a digit
kind_of_word : (k : ℕ) (word rest : List ℕ) (kind : Option LineKind) → starts_digit word ≡ true
    → first_word (word ++ rest) ≡ word → word_kind word ≡ kind
    → line_kind (spaces k ++ (word ++ rest)) ≡ kind
unfolding line_kind
kind_of_word k [] rest kind digit first is = absurd (cc)
kind_of_word k (d ∷ ds) rest kind digit first is =
    let text : List ℕ = d ∷ (ds ++ rest) in
    ap text_kind (behind_spaces_is k d (ds ++ rest) (space_isnt d digit))
    ∙ ap (λ (b : Bool). if b then Some Empty
    else (if is_remark text then Some Remark else word_kind (first_word text)))
    (no_empty d (ds ++ rest))
    ∙ ap (λ (b : Bool). if b then Some Remark else word_kind (first_word text))
    (no_remark d (ds ++ rest) digit)
    ∙ ap word_kind first ∙ is

-- ---- types

digits_no_space : (word : List ℕ) → list_all is_ascii_digit word ≡ true → no_space word ≡ true
digits_no_space [] h = refl
digits_no_space (d ∷ ds) h =
    let parts = and_parts (is_ascii_digit d) (list_all is_ascii_digit ds) h in
    rw (space_isnt d parts.0) (digits_no_space ds parts.1)

starts : (word : List ℕ) → IsKind word → starts_digit word ≡ true
starts [] is = absurd (omega (arith, is.size))
starts (d ∷ ds) is = (and_parts (is_ascii_digit d) (list_all is_ascii_digit ds) is.digits).0

head_word : (word : List ℕ) → IsKind word → word_kind word ≡ Some (Head word)
head_word word is = rw (eq-eqb (length word) 4 is.size) refl

pub named_head : (kind words : List ℕ) → IsKind kind
    → line_kind (kind ++ (32 ∷ words)) ≡ Some (Head kind)
named_head kind words is =
    kind_of_word 0 kind (32 ∷ words) (Some (Head kind)) (starts kind is)
    (first_word_is kind words (digits_no_space kind is.digits)) (head_word kind is)

pub bare_head : (kind : List ℕ) → IsKind kind → line_kind (kind ++ []) ≡ Some (Head kind)
bare_head kind is =
    kind_of_word 0 kind [] (Some (Head kind)) (starts kind is)
    (ap first_word (append-nil kind) ∙ first_word_all kind (digits_no_space kind is.digits))
    (head_word kind is)

-- ---- elements

pub element_kind : (n k : ℕ) (rest : List ℕ) → Known n
    → line_kind (spaces k ++ (decimal n ++ (32 ∷ rest))) ≡ Some (Element n)
element_kind n k rest is =
    kind_of_word k (decimal n) (32 ∷ rest) (Some (Element n)) is.digit
    (first_word_is (decimal n) rest is.word) is.kind

behind_number : (k : ℕ) (word name later : List ℕ) → starts_digit word ≡ true
    → no_space word ≡ true → starts_word name ≡ true
    → behind_word (behind_spaces (spaces k ++ (word ++ (32 ∷ (32 ∷ (name ++ later))))))
    ≡ name ++ later
behind_number k [] name later digit none named = absurd (cc)
behind_number k (d ∷ ds) [] later digit none named = absurd (cc)
behind_number k (d ∷ ds) (b ∷ bs) later digit none named =
    ap behind_word
    (behind_spaces_is k d (ds ++ (32 ∷ (32 ∷ (b ∷ (bs ++ later))))) (space_isnt d digit))
    ∙ behind_word_is (d ∷ ds) 1 b (bs ++ later) none (is_not _ named)

pub element_text : (n k : ℕ) (content : List ℕ) → Known n
    → said_text n (spaces k ++ (decimal n ++ (32 ∷ (32 ∷ (element_name n
    ++ (spaces (34 - length (element_name n)) ++ content)))))) ≡ content
unfolding said_text
element_text n k content is =
    ap (behind_name n)
    (behind_number k (decimal n) (element_name n)
    (spaces (34 - length (element_name n)) ++ content) is.digit is.word is.name)
    ∙ behind_column (element_name n) content (34 - length (element_name n))

-- ---- remarks

pub remark_kind : (rest : List ℕ) → line_kind (codes "the host replies " ++ rest) ≡ Some Remark
unfolding line_kind
remark_kind rest =
    let text : List ℕ = codes "the host replies " ++ rest in
    let own : is_remark text ≡ true = begins_own (codes "the host replies ") rest in
    ap text_kind (behind_spaces_is 0 116 (codes "he host replies " ++ rest) refl)
    ∙ ap (λ (b : Bool). if b then Some Empty
    else (if is_remark text then Some Remark else word_kind (first_word text)))
    (no_empty 116 (codes "he host replies " ++ rest))
    ∙ ap (λ (b : Bool). if b then Some Remark else word_kind (first_word text)) own
