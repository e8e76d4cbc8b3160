-- A request that the first check passed has the elements that it needs, each with its format.
use Rattle.std.proofs.Common.{◌≡◌, ℕ, zero, suc, Bool, true, false, eqb, List, [], ◌∷◌, length}
use Rattle.std.proofs.Common.{take, drop, None, refl, subst, arith, inl, inr}
use Rattle.std.specs.List.{list_all, list_any}
use Rattle.std.specs.Char.{is_ascii_digit}
use Rattle.std.proofs.lemmas.Bool.{and_parts, and_from, eq-eqb, eqb-true, or_cases, cases_Bool}
use Rattle.std.proofs.lemmas.List.{length-take, length-drop}
use Rattle.card_no.proofs.DigitPlaces.{all-take}
use Rattle.iso_codec.specs.declared.class.Class.TheVariants.{Numeric, Printable}
use Rattle.iso_codec.specs.Content.{has_class}
use Rattle.iso_codec.specs.Message.{IsoMessage}
use Rattle.iso_codec.specs.Table.{format_of}
use Rattle.iso_codec.specs.Setting.{set_fault}
use Rattle.acq_message.specs.declared.service.Service.{Service}
use Rattle.acq_message.specs.declared.service.Service.TheVariants.{Authorization, Financial}
use Rattle.acq_message.specs.declared.service.Service.TheVariants.{Completion, Reversal}
use Rattle.acq_message.specs.declared.service.Service.TheVariants.{ReversalAdvice, Reconciliation}
use Rattle.acq_message.specs.declared.service.Service.TheVariants.{NetworkManagement}
use Rattle.acq_message.specs.declared.request_message.RequestMessage.{RequestMessage}
use Rattle.acq_message.specs.Services.{needed, is_recordable, names_original}
use Rattle.acq_message.specs.Elements.{has}
use Rattle.acq_message.specs.FirstCheck.{is_malformed}
use Rattle.acq_message.specs.Names.{is_terminal, is_trace, is_transmission}
use Rattle.acq_message.proofs.ElementsFit.{FitsWhereThere, fixed_fits}

needed_there : (service : Service) (m : IsoMessage) → is_malformed service m ≡ false
    → list_all (has m) (needed service) ≡ true
needed_there service m passed =
    elim (cases_Bool (list_all (has m) (needed service))) [
      | inl all ↦ all
      | inr missing ↦ let refused : true ≡ false = rw missing at passed in absurd cc
    ]

abbrev pub needs : Service → ℕ → Bool
needs service n = list_any (λ k. eqb k n) (needed service)

pub one_of_all : (p : ℕ → Bool) (ns : List ℕ) (n : ℕ) → list_all p ns ≡ true →
    list_any (λ k. eqb k n) ns ≡ true
    → p n ≡ true
one_of_all p [] n h k = absurd cc
one_of_all p (m ∷ ns) n h k =
    let parts = and_parts (p m) (list_all p ns) h in
    elim (or_cases (eqb m n) (list_any (λ k. eqb k n) ns) k) [
      | inl same ↦ subst (λ (x : ℕ). p x ≡ true) (eqb-true m n same) parts.0
      | inr later ↦ one_of_all p ns n parts.1 later
    ]

-- a needed element is there, so its content fits it
pub needed_fits : (r s : RequestMessage) (n : ℕ) (text : List ℕ) → s ≡ r →
    is_malformed r.service r.message ≡ false
    → needs r.service n ≡ true → FitsWhereThere s.message n text → set_fault n text ≡ None
needed_fits r s n text is passed need fits =
    fits (one_of_all (has s.message) (needed s.service) n
    (needed_there s.service s.message (rw (← is) at passed)) (rw (← is) at need))

-- ---- what a recorded request needs

abbrev key_elements : List ℕ
key_elements = 7 ∷ 11 ∷ 41 ∷ 42 ∷ []

needs_key : (s : Service) → is_recordable s ≡ true → list_all (needs s) key_elements ≡ true
needs_key Authorization h = refl
needs_key Financial h = refl
needs_key Completion h = refl
needs_key Reversal h = refl
needs_key ReversalAdvice h = refl
needs_key Reconciliation h = refl
needs_key NetworkManagement h = absurd cc

-- the content of an element of the key fits it
pub key_fits : (r s : RequestMessage) (n : ℕ) (text : List ℕ) → s ≡ r →
    is_malformed r.service r.message ≡ false
    → is_recordable r.service ≡ true → list_any (λ k. eqb k n) key_elements ≡ true →
    FitsWhereThere s.message n text
    → set_fault n text ≡ None
key_fits r s n text is passed recorded in_key fits =
    needed_fits r s n text is passed
    (one_of_all (needs r.service) key_elements n (needs_key r.service recorded) in_key) fits

-- ---- what the contents name

pub names_terminal : (text : List ℕ) → set_fault 41 text ≡ None → is_terminal text ≡ true
unfolding format_of has_class
names_terminal text h =
    let both = fixed_fits 41 8 Printable text refl h in
    and_from (eqb (length text) 8) _ (eq-eqb (length text) 8 both.0) both.1

pub names_trace : (text : List ℕ) → set_fault 11 text ≡ None → is_trace text ≡ true
unfolding format_of has_class
names_trace text h =
    let both = fixed_fits 11 6 Numeric text refl h in
    and_from (eqb (length text) 6) _ (eq-eqb (length text) 6 both.0) both.1

pub names_transmission : (text : List ℕ) → set_fault 7 text ≡ None → is_transmission text ≡ true
unfolding format_of has_class
names_transmission text h =
    let both = fixed_fits 7 10 Numeric text refl h in
    and_from (eqb (length text) 10) _ (eq-eqb (length text) 10 both.0) both.1

-- ---- element 90

pub names_service : (s : Service) → names_original s ≡ true →
    (is_recordable s ≡ true) × (needs s 90 ≡ true)
names_service Authorization h = absurd cc
names_service Financial h = absurd cc
names_service Completion h = absurd cc
names_service Reversal h = (refl, refl)
names_service ReversalAdvice h = (refl, refl)
names_service Reconciliation h = absurd cc
names_service NetworkManagement h = absurd cc

all-drop : (p : ℕ → Bool) (n : ℕ) (xs : List ℕ) → list_all p xs ≡ true →
    list_all p (drop n xs) ≡ true
all-drop p zero xs h = h
all-drop p (suc n) [] h = refl
all-drop p (suc n) (x ∷ xs) h = all-drop p n xs (and_parts (p x) (list_all p xs) h).1

pub original_parts : (text : List ℕ) → set_fault 90 text ≡ None
    → (is_trace (take 6 (drop 4 text)) ≡ true) × (is_transmission (take 10 (drop 10 text)) ≡ true)
unfolding format_of has_class
original_parts text h =
    let both = fixed_fits 90 42 Numeric text refl h in
    let size = both.0 in
    let digits : list_all is_ascii_digit text ≡ true = both.1 in
    let trace : length (take 6 (drop 4 text)) ≡ 6 =
    omega (arith, length-take 6 (drop 4 text), length-drop 4 text) in
    let sent : length (take 10 (drop 10 text)) ≡ 10 =
    omega (arith, length-take 10 (drop 10 text), length-drop 10 text) in (
      and_from _ _ (eq-eqb (length (take 6 (drop 4 text))) 6 trace)
          (all-take is_ascii_digit 6 (drop 4 text) (all-drop is_ascii_digit 4 text digits)),
      and_from _ _ (eq-eqb (length (take 10 (drop 10 text))) 10 sent)
          (all-take is_ascii_digit 10 (drop 10 text) (all-drop is_ascii_digit 10 text digits)),
    )
