-- What a reply has besides what it echoes: each content fits, and the elements are set in turn.
use Rattle.std.proofs.Common.{◌≡◌, ℕ, suc, ℤ, pos, negsuc, Bool, true, false, eqb, List, [], ◌∷◌}
use Rattle.std.proofs.Common.{◌++◌, length, Some, None, refl, ap}
use Rattle.std.specs.Prelude.{codes, if◌then◌else◌}
use Rattle.std.specs.List.{list_all}
use Rattle.std.specs.Char.{is_ascii_digit}
use Rattle.std.proofs.lemmas.Bool.{and_parts, and_from, eq-eqb}
use Rattle.iso_codec.specs.declared.class.Class.{Class}
use Rattle.iso_codec.specs.declared.class.Class.TheVariants.{Numeric, Alphanumeric, SignedNumeric}
use Rattle.iso_codec.specs.declared.form.Form.TheVariants.{Fixed}
use Rattle.iso_codec.specs.Content.{has_class, is_alphanumeric}
use Rattle.iso_codec.specs.Message.{IsoMessage, IsKind, with_content}
use Rattle.iso_codec.specs.Table.{format_of}
use Rattle.iso_codec.specs.Setting.{set_fault}
use Rattle.day_totals.specs.Day.{mmdd_of}
use Rattle.day_totals.specs.Digits.{zero_padded}
use Rattle.day_totals.proofs.ZeroPadded.{length-zero_padded, all_digits-zero_padded}
use Rattle.acq_message.specs.declared.service.Service.{Service}
use Rattle.acq_message.specs.declared.service.Service.TheVariants.{Authorization, Financial}
use Rattle.acq_message.specs.declared.service.Service.TheVariants.{Completion, Reversal}
use Rattle.acq_message.specs.declared.service.Service.TheVariants.{ReversalAdvice, Reconciliation}
use Rattle.acq_message.specs.declared.service.Service.TheVariants.{NetworkManagement}
use Rattle.acq_message.specs.declared.request_message.RequestMessage.{RequestMessage}
use Rattle.acq_message.specs.Services.{reply_kind}
use Rattle.acq_message.specs.IssuerTexts.{is_authorization_id}
use Rattle.acq_message.specs.Reply.{with_contents, reply_to, echo, day_element, code_element}
use Rattle.acq_message.specs.Reply.{count_elements, amount_elements, totals_elements, coded_reply}
use Rattle.acq_message.specs.Reply.{totals_reply}
use Rattle.acq_message.specs.declared.response_code.ResponseCode.{ResponseCode}
use Rattle.day_totals.specs.Totals.{DayTotals, net_of, net_text_of}
use Rattle.acq_message.proofs.ElementsFit.{fits_both}

pub kind_fits : (s : Service) → IsKind (reply_kind s)
kind_fits Authorization = record { size = refl; digits = refl }
kind_fits Financial = record { size = refl; digits = refl }
kind_fits Completion = record { size = refl; digits = refl }
kind_fits Reversal = record { size = refl; digits = refl }
kind_fits ReversalAdvice = record { size = refl; digits = refl }
kind_fits Reconciliation = record { size = refl; digits = refl }
kind_fits NetworkManagement = record { size = refl; digits = refl }

-- ---- contents that fit

-- a text of the length and the class of an element of one length
fits_fixed : (n size : ℕ) (class : Class) (text : List ℕ)
    → format_of n ≡ Some (record { form = Fixed size; class = class }) → length text ≡ size
    → has_class class text ≡ true → set_fault n text ≡ None
fits_fixed n size class text is long good =
    let both = and_from (eqb (length text) size) (has_class class text)
    (eq-eqb (length text) size long) good in
    rw is (fits_both (eqb (length text) size) (has_class class text) _ _ both)

-- a number in as many digits as the element has
pub padded_fits : (n size number : ℕ) (text : List ℕ)
    → format_of n ≡ Some (record { form = Fixed size; class = Numeric }) →
    text ≡ zero_padded size number
    → set_fault n text ≡ None
unfolding has_class
padded_fits n size number text format is =
    rw is (fits_fixed n size Numeric (zero_padded size number) format
    (length-zero_padded size number)
    (all_digits-zero_padded size number))

alphanumeric_digits : (text : List ℕ) → list_all is_ascii_digit text ≡ true →
    list_all is_alphanumeric text ≡ true
alphanumeric_digits [] h = refl
alphanumeric_digits (b ∷ bs) h =
    let parts = and_parts (is_ascii_digit b) (list_all is_ascii_digit bs) h in
    rw parts.0 (alphanumeric_digits bs parts.1)

pub day_fits : (day : ℕ) (text : List ℕ) → text ≡ mmdd_of day → list_all is_ascii_digit text ≡ true
    → set_fault 15 text ≡ None
unfolding format_of has_class
day_fits day text is digits = fits_fixed 15 4 Numeric text refl (ap length is) digits

pub reference_fits : (reference : ℕ) (text : List ℕ) → text ≡ zero_padded 12 reference →
    set_fault 37 text ≡ None
unfolding format_of has_class
reference_fits reference text is =
    rw is (fits_fixed 37 12 Alphanumeric (zero_padded 12 reference) refl
    (length-zero_padded 12 reference)
    (alphanumeric_digits (zero_padded 12 reference) (all_digits-zero_padded 12 reference)))

pub authorization_fits : (id : List ℕ) → is_authorization_id id ≡ true → set_fault 38 id ≡ None
unfolding format_of has_class
authorization_fits id h = fits_both (eqb (length id) 6) (list_all is_alphanumeric id) _ _ h

pub balance_fits : (in_balance : Bool) (text : List ℕ) →
    text ≡ (if in_balance then codes "1" else codes "2")
    → set_fault 66 text ≡ None
unfolding format_of has_class
balance_fits true text is = rw is refl
balance_fits false text is = rw is refl

pub net_fits : (net : ℤ) (text : List ℕ) → text ≡ net_text_of net → set_fault 97 text ≡ None
unfolding format_of has_class
net_fits (pos n) text is =
    rw is (fits_fixed 97 17 SignedNumeric (67 ∷ zero_padded 16 n) refl
    (ap suc (length-zero_padded 16 n))
    (all_digits-zero_padded 16 n))
net_fits (negsuc n) text is =
    rw is (fits_fixed 97 17 SignedNumeric (68 ∷ zero_padded 16 (suc n)) refl
    (ap suc (length-zero_padded 16 (suc n)))
    (all_digits-zero_padded 16 (suc n)))

-- ---- elements set in turn

with_contents-append : (xs ys es : List (ℕ × List ℕ))
    → with_contents es (xs ++ ys) ≡ with_contents (with_contents es xs) ys
with_contents-append [] ys es = refl
with_contents-append (x ∷ xs) ys es = with_contents-append xs ys (with_content es x.0 x.1)

-- a reply with more elements
pub reply_more : (r : RequestMessage) (m : IsoMessage) (added more : List (ℕ × List ℕ)) →
    m ≡ reply_to r added
    → record { kind = m.kind; elements = with_contents m.elements more }
    ≡ reply_to r (added ++ more)
reply_more r m added more so =
    rw (so, with_contents-append added more (echo r.service r.message)) refl

-- a message with more elements
abbrev pub more : IsoMessage → List (ℕ × List ℕ) → IsoMessage
more m added = record { kind = m.kind; elements = with_contents m.elements added }

-- the elements of totals, set behind a code
pub totals_set : (r : RequestMessage) (day : ℕ) (code : ResponseCode) (in_balance : Bool)
    (t : DayTotals)
    (m0 m1 m2 m3 : IsoMessage) (balance net : List ℕ) → m0 ≡ coded_reply day r code
    → m1 ≡ more m0 ((66, balance) ∷ []) → m2 ≡ more m1 (count_elements t) →
    m3 ≡ more m2 (amount_elements t)
    → balance ≡ (if in_balance then codes "1" else codes "2") → net ≡ net_text_of (net_of t)
    → more m3 ((97, net) ∷ []) ≡ totals_reply day r code in_balance t
totals_set r day code in_balance t m0 m1 m2 m3 balance net coded e1 e2 e3 is_balance is_net =
    rw (e3, e2, e1, is_balance, is_net)
    (reply_more r m0 (day_element r.service day ++ code_element code)
    (totals_elements in_balance t) coded)
