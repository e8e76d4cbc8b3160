-- What a content that fits an element is.
use Rattle.std.proofs.Common.{◌≡◌, ℕ, ◌^◌, ◌<◌, ◌≤◌, ◌⊎◌, inl, inr, Bool, true, false, ◌&&◌, eqb}
use Rattle.std.proofs.Common.{List, [], length, Option, Some, None, is_some, refl, ap, subst, arith}
use Rattle.std.proofs.Math.Nat.{pow-le-pow_right}
use Rattle.std.specs.Prelude.{SomeIff, if◌then◌else◌}
use Rattle.std.specs.List.{list_all}
use Rattle.std.specs.Char.{is_ascii_digit}
use Rattle.std.proofs.lemmas.Bool.{and_parts, eqb-true, leb-true}
use Rattle.iso_codec.specs.declared.set_fault.SetFault.{SetFault}
use Rattle.iso_codec.specs.declared.form.Form.{Form}
use Rattle.iso_codec.specs.declared.form.Form.TheVariants.{Fixed, Llvar, Lllvar}
use Rattle.iso_codec.specs.declared.class.Class.{Class}
use Rattle.iso_codec.specs.declared.class.Class.TheVariants.{Numeric, Alphanumeric, Printable}
use Rattle.iso_codec.specs.declared.class.Class.TheVariants.{Track, Hex, SignedNumeric, Any}
use Rattle.iso_codec.specs.declared.element_format.ElementFormat.{ElementFormat}
use Rattle.iso_codec.specs.Content.{has_length, has_class, is_printable, is_alphanumeric}
use Rattle.iso_codec.specs.Message.{IsoMessage, content_of}
use Rattle.iso_codec.specs.Table.{format_of}
use Rattle.iso_codec.specs.Setting.{set_fault, set_fault_by}
use Rattle.acq_message.specs.Names.{is_merchant}
use Rattle.acq_message.specs.IssuerTexts.{is_decline_code}
use Rattle.acq_message.specs.Elements.{has, or_empty, text_at}
use Rattle.acq_message.specs.ShortNumbers.{is_short_form, is_numeric, is_short_format}
use Rattle.acq_message.specs.ShortNumbers.{is_short_number}

passes_both : (long good : Bool) (x y : SetFault)
    → (if long then (if good then None else Some x) else Some y) ≡ None → (long && good) ≡ true
passes_both true true x y h = refl
passes_both true false x y h = absurd cc
passes_both false good x y h = absurd cc

-- a content of element 42 names a merchant
pub names_merchant : (text : List ℕ) → set_fault 42 text ≡ None → is_merchant text ≡ true
unfolding format_of has_class
names_merchant text h = passes_both (eqb (length text) 15) (list_all is_printable text) _ _ h

-- what is read exactly where a text passes is there where it does
pub some_where : {A : Type 0} (found : Option A) (P : Type 0) (value : A) → SomeIff found P value →
    P →
    found ≡ Some value
some_where None P value h passes = absurd (h passes)
some_where (Some x) P value h passes = ap Some h.1

pub fits_both : (long good : Bool) (x y : SetFault) → (long && good) ≡ true
    → (if long then (if good then None else Some x) else Some y) ≡ None
fits_both true true x y h = refl
fits_both true false x y h = absurd cc
fits_both false good x y h = absurd cc

-- what an issuer declines with is a content of element 39
pub set_fault-decline_code : (text : List ℕ) → is_decline_code text ≡ true →
    set_fault 39 text ≡ None
unfolding format_of has_class
set_fault-decline_code text h =
    let parts = and_parts (eqb (length text) 2 && list_all is_alphanumeric text) _ h in
    fits_both (eqb (length text) 2) (list_all is_alphanumeric text) _ _ parts.0

-- ---- elements that may be missing

abbrev pub FitsWhereThere : IsoMessage → ℕ → List ℕ → Type 0
FitsWhereThere m n text = has m n ≡ true → set_fault n text ≡ None

nothing_or_fits : (o : Option (List ℕ)) (n : ℕ) (text : List ℕ) → text ≡ or_empty o
    → (is_some o ≡ true → set_fault n text ≡ None) → (text ≡ []) ⊎ (set_fault n text ≡ None)
nothing_or_fits None n text is h = inl is
nothing_or_fits (Some content) n text is h = inr (h refl)

-- the length and the class of what an element of one length may be
pub fixed_fits : (n size : ℕ) (class : Class) (text : List ℕ)
    → format_of n ≡ Some (record { form = Fixed size; class = class }) → set_fault n text ≡ None
    → (length text ≡ size) × (has_class class text ≡ true)
fixed_fits n size class text is h =
    let by_format : set_fault_by (Some (record { form = Fixed size; class = class })) n text
    ≡ None =
    subst (λ (o : Option ElementFormat). set_fault_by o n text ≡ None) is h in
    let both = passes_both (eqb (length text) size) (has_class class text) _ _ by_format in
    let parts = and_parts (eqb (length text) size) (has_class class text) both in
    (eqb-true (length text) size parts.0, parts.1)

-- a text of digits in an element of so many, or nothing
pub digits_fit : (m : IsoMessage) (n size : ℕ) (text : List ℕ)
    → format_of n ≡ Some (record { form = Fixed size; class = Numeric }) → text ≡ text_at m n
    → FitsWhereThere m n text → (length text ≤ size) × (list_all is_ascii_digit text ≡ true)
unfolding has_class
digits_fit m n size text is value fits =
    elim (nothing_or_fits (content_of m.elements n) n text value fits) [
      | inl nothing ↦ rw nothing (omega arith, refl)
      | inr h ↦ let both = fixed_fits n size Numeric text is h in (omega arith, both.1)
    ]

short_length : (form : Form) (size : ℕ) → is_short_form form ≡ true → has_length form size ≡ true →
    size ≤ 16
short_length (Fixed k) size h fits = let le = leb-true k 16 h in let is = eqb-true size k fits in
    omega arith
short_length (Llvar k) size h fits = let le = leb-true k 16 h in let is = leb-true size k fits in
    omega arith
short_length (Lllvar k) size h fits = let le = leb-true k 16 h in let is = leb-true size k fits in
    omega arith

numeric_digits : (class : Class) (text : List ℕ) → is_numeric class ≡ true →
    has_class class text ≡ true
    → list_all is_ascii_digit text ≡ true
unfolding has_class
numeric_digits Numeric text h fits = fits
numeric_digits Alphanumeric text h fits = absurd cc
numeric_digits Printable text h fits = absurd cc
numeric_digits Track text h fits = absurd cc
numeric_digits Hex text h fits = absurd cc
numeric_digits SignedNumeric text h fits = absurd cc
numeric_digits Any text h fits = absurd cc

short_by : (o : Option ElementFormat) (n : ℕ) (text : List ℕ) → is_short_format o ≡ true →
    set_fault_by o n text ≡ None
    → (length text ≤ 16) × (list_all is_ascii_digit text ≡ true)
short_by None n text h fits = absurd cc
short_by (Some f) n text h fits =
    let short = and_parts (is_short_form f.form) (is_numeric f.class) h in
    let both = passes_both (has_length f.form (length text)) (has_class f.class text) _ _ fits in
    let parts = and_parts (has_length f.form (length text)) (has_class f.class text) both in
    (short_length f.form (length text) short.0 parts.0, numeric_digits f.class text short.1 parts.1)

-- at most sixteen digits, or nothing
pub short_digits : (m : IsoMessage) (n : ℕ) (text : List ℕ) → is_short_number n ≡ true →
    text ≡ text_at m n
    → FitsWhereThere m n text → (length text ≤ 16) × (list_all is_ascii_digit text ≡ true)
short_digits m n text short value fits =
    elim (nothing_or_fits (content_of m.elements n) n text value fits) [
      | inl nothing ↦ rw nothing (omega arith, refl)
      | inr h ↦ short_by (format_of n) n text short h
    ]

-- digits of an amount
pub amount_digits : (m : IsoMessage) (text : List ℕ) → text ≡ text_at m 4 → FitsWhereThere m 4 text
    → (length text ≤ 12) × (list_all is_ascii_digit text ≡ true)
unfolding format_of
amount_digits m text value fits = digits_fit m 4 12 text refl value fits

-- the length of a reference
pub reference_length : (m : IsoMessage) (text : List ℕ) → text ≡ text_at m 37 →
    FitsWhereThere m 37 text
    → length text ≤ 12
unfolding format_of
reference_length m text value fits =
    elim (nothing_or_fits (content_of m.elements 37) 37 text value fits) [
      | inl nothing ↦ rw nothing (omega arith)
      | inr h ↦ let both = fixed_fits 37 12 Alphanumeric text refl h in omega arith
    ]

-- a number of at most twelve digits
pub below_twelve : (number size : ℕ) → number < 10 ^ size → size ≤ 12 → number ≤ 999_999_999_999
below_twelve number size h le =
    let most : 10 ^ size ≤ 10 ^ 12 = pow-le-pow_right {n = 10} (omega arith) {i = size} {j = 12} le
    in
    omega arith

-- an expiry is four digits
pub four_digits : (text : List ℕ) → set_fault 14 text ≡ None
    → (length text ≡ 4) × (list_all is_ascii_digit text ≡ true)
unfolding format_of has_class
four_digits text fits = fixed_fits 14 4 Numeric text refl fits

-- a date of settlement is four digits
pub settlement_date_length : (text : List ℕ) → set_fault 15 text ≡ None → length text ≡ 4
unfolding format_of has_class
settlement_date_length text fits = (fixed_fits 15 4 Numeric text refl fits).0
