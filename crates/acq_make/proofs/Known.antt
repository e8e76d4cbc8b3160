-- What is known of the elements that the table has: their numbers as words, and their names.
use Rattle.std.proofs.Common.{◌≡◌, ℕ, Bool, true, false, List, [], ◌∷◌, Option, Some, None, refl, sym}
use Rattle.std.proofs.Common.{ap, subst, inl, inr}
use Rattle.std.specs.Prelude.{◌==◌, not, ◌&&◌}
use Rattle.std.specs.Char.{is_ascii_digit}
use Rattle.std.specs.Fmt.{decimal, digits}
use Rattle.std.specs.List.{list_all}
use Rattle.std.proofs.lemmas.Bool.{and_parts, cases_Bool, eqb-true}
use Rattle.iso_codec.proofs.Computing.{on_literals}
use Rattle.iso_codec.specs.declared.element_format.ElementFormat.{ElementFormat}
use Rattle.iso_codec.specs.Table.{format_of, row_of, rows}
use Rattle.acq_show.specs.Names.{element_name}
use Rattle.acq_make.specs.declared.line_kind.LineKind.{LineKind}
use Rattle.acq_make.specs.declared.line_kind.LineKind.TheVariants.{Remark, Empty, Head, Element}
use Rattle.acq_make.specs.Lines.{word_kind}
use Rattle.acq_make.proofs.Texts.{is_space, no_space, one_line}

abbrev is_kind : Option LineKind → ℕ → Bool
is_kind None n = false
is_kind (Some Remark) n = false
is_kind (Some Empty) n = false
is_kind (Some (Head kind)) n = false
is_kind (Some (Element k)) n = k == n

kind_is : (o : Option LineKind) (n : ℕ) → is_kind o n ≡ true → o ≡ Some (Element n)
kind_is None n h = absurd (cc)
kind_is (Some Remark) n h = absurd (cc)
kind_is (Some Empty) n h = absurd (cc)
kind_is (Some (Head kind)) n h = absurd (cc)
kind_is (Some (Element k)) n h = ap (λ (x : ℕ). Some (Element x)) (eqb-true k n h)

-- a first byte is there, and is a digit
abbrev pub starts_digit : List ℕ → Bool
starts_digit [] = false
starts_digit (b ∷ bs) = is_ascii_digit b

-- a first byte is there, and is no space
abbrev pub starts_word : List ℕ → Bool
starts_word [] = false
starts_word (b ∷ bs) = not (is_space b)

row_ok : ℕ → Bool
row_ok n =
    is_kind (word_kind (decimal n)) n && no_space (decimal n) && starts_digit (decimal n)
    && one_line (decimal n) && starts_word (element_name n) && one_line (element_name n)

all_ok : list_all (λ r. row_ok r.0) rows ≡ true
unfolding row_ok digits on_literals
all_ok = refl

row_known : (rs : List (ℕ × ElementFormat)) (n : ℕ) (f : ElementFormat) → row_of rs n ≡ Some f
    → list_all (λ r. row_ok r.0) rs ≡ true → row_ok n ≡ true
row_known [] n f is all = absurd (cc)
row_known (r ∷ rs) n f is all =
    let parts = and_parts (row_ok r.0) (list_all (λ x. row_ok x.0) rs) all in
    elim (cases_Bool (n == r.0)) [
      | inl same ↦ subst (λ (k : ℕ). row_ok k ≡ true) (sym (eqb-true n r.0 same)) parts.0
      | inr other ↦ row_known rs n f (rw other at is) parts.1
    ]

pub record Known (n : ℕ) : Type 0 where
  pub kind : word_kind (decimal n) ≡ Some (Element n)
  pub word : no_space (decimal n) ≡ true
  pub digit : starts_digit (decimal n) ≡ true
  pub number : one_line (decimal n) ≡ true
  pub name : starts_word (element_name n) ≡ true
  pub line : one_line (element_name n) ≡ true

pub known : (n : ℕ) (f : ElementFormat) → format_of n ≡ Some f → Known n
unfolding row_ok format_of
known n f is =
    let five = and_parts _ _ (row_known rows n f is all_ok) in
    let four = and_parts _ _ five.0 in
    let three = and_parts _ _ four.0 in
    let two = and_parts _ _ three.0 in
    let one = and_parts _ _ two.0 in
    record {
      kind = kind_is _ n one.0;
      word = one.1;
      digit = two.1;
      number = three.1;
      name = four.1;
      line = five.1;
    }
