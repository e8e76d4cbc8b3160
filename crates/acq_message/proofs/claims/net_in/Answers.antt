use Rattle.std.proofs.Common.{◌≡◌, ◌≢◌, ℕ, ◌^◌, ◌<◌, ◌⊎◌, inl, inr, true, List, [], ◌∷◌, length}
use Rattle.std.proofs.Common.{None, refl, subst, arith, pos, ◌-ℤ◌}
use Rattle.std.specs.List.{list_all}
use Rattle.std.specs.Char.{is_ascii_digit}
use Rattle.std.specs.Str.Parse.{digits_value}
use Rattle.std.proofs.lemmas.Bool.{and_parts, ne_eqb}
use Rattle.std.proofs.lemmas.Int.{ints}
use Rattle.iso_codec.specs.Content.{has_class}
use Rattle.iso_codec.specs.declared.class.Class.TheVariants.{SignedNumeric}
use Rattle.iso_codec.specs.Table.{format_of}
use Rattle.iso_codec.specs.Setting.{set_fault}
use Rattle.acq_message.specs.Claims.{net_in}
use Rattle.acq_message.proofs.ElementsFit.{fixed_fits}
use Rattle.acq_message.proofs.claims.net_in.Goals as goal

-- behind the sign stand sixteen digits
after_sign : (text : List ℕ) (sign : ℕ) (digits : List ℕ) → (text ≡ []) ⊎ (set_fault 97 text ≡ None)
    → text ≡ sign ∷ digits → (length digits ≡ 16) × (list_all is_ascii_digit digits ≡ true)
unfolding format_of has_class
after_sign text sign digits (inl nothing) is = absurd cc
after_sign text sign digits (inr fits) is =
    let both = fixed_fits 97 17 SignedNumeric (sign ∷ digits) refl (rw is at fits) in
    let parts = and_parts _ (list_all is_ascii_digit digits) both.1 in
    let size = both.0 in
    (omega arith, parts.1)

sixteen : (n size : ℕ) → n < 10 ^ size → size ≡ 16 → n < 10_000_000_000_000_000
sixteen n size h is = subst (λ (k : ℕ). n < 10 ^ k) is h

debit : (text : List ℕ) (sign : ℕ) (digits : List ℕ) (n : ℕ) → text ≡ sign ∷ digits →
    n ≡ digits_value 10 digits
    → sign ≡ 68 → net_in text ≡ pos 0 -ℤ pos n
debit text sign digits n is value minus = rw (is, minus, value) refl

credit : (text : List ℕ) (sign : ℕ) (digits : List ℕ) (n : ℕ) → text ≡ sign ∷ digits →
    n ≡ digits_value 10 digits
    → sign ≢ 68 → net_in text ≡ pos n
credit text sign digits n is value plus = rw (is, ne_eqb sign 68 plus, value) refl

pub digits_value-net-requires : goal.digits_value-net-requires
digits_value-net-requires c =
    let fit = after_sign c.args.text.now c.in-Some.sign.now c.in-Some.digits.now c.requires
    c.in-Some.ensures.cases.0 in
    record { each = fit.1; size = omega (arith, fit.0) }

pub overflow_cast-net : goal.overflow_cast-net
overflow_cast-net c =
    let fit = after_sign c.args.text.now c.in-Some.sign.now c.in-Some.digits.now c.requires
    c.in-Some.ensures.cases.0 in
    let small = sixteen c.digits_value-net.result _ c.digits_value-net.ensures.bound fit.0 in
    omega (arith, ints)

pub overflow_sub-result : goal.overflow_sub-result
overflow_sub-result c =
    let fit = after_sign c.args.text.now c.in-Some.sign.now c.in-Some.digits.now c.requires
    c.in-Some.ensures.cases.0 in
    let small = sixteen c.digits_value-net.result _ c.digits_value-net.ensures.bound fit.0 in
    omega (arith, ints)

pub returns-then-sign-eq68 : goal.returns-then-sign-eq68
returns-then-sign-eq68 c =
    let fit = after_sign c.args.text.now c.in-Some.sign.now c.in-Some.digits.now c.requires
    c.in-Some.ensures.cases.0 in
    let small = sixteen c.digits_value-net.result _ c.digits_value-net.ensures.bound fit.0 in
    let is = debit c.args.text.now c.in-Some.sign.now c.in-Some.digits.now c.digits_value-net.result
    c.in-Some.ensures.cases.0 c.digits_value-net.ensures.value c.if-sign-eq68.true in
    omega (arith, ints, is)

pub returns-else-sign-eq68 : goal.returns-else-sign-eq68
returns-else-sign-eq68 c =
    let fit = after_sign c.args.text.now c.in-Some.sign.now c.in-Some.digits.now c.requires
    c.in-Some.ensures.cases.0 in
    let small = sixteen c.digits_value-net.result _ c.digits_value-net.ensures.bound fit.0 in
    let is = credit c.args.text.now c.in-Some.sign.now c.in-Some.digits.now
    c.digits_value-net.result
    c.in-Some.ensures.cases.0 c.digits_value-net.ensures.value c.if-sign-eq68.false in
    omega (arith, ints, is)
