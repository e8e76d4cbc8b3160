-- Why the host replies 30, as lines that say nothing.
use Rattle.std.proofs.Common.{◌≡◌, ◌⊎◌, ℕ, Bool, true, false, List, [], ◌∷◌, ◌++◌, Option, Some, None}
use Rattle.std.proofs.Common.{refl, sym, ap, ◌∙◌, inl, inr}
use Rattle.std.specs.Prelude.{◌&&◌, codes, find, not}
use Rattle.std.specs.Fmt.{decimal, digits}
use Rattle.std.specs.List.{list_all}
use Rattle.std.proofs.lemmas.Bool.{and_parts, cases_Bool}
use Rattle.iso_codec.proofs.Computing.{on_literals}
use Rattle.iso_codec.proofs.WrittenIsRead.{all_append}
use Rattle.iso_codec.specs.Message.{IsoMessage}
use Rattle.acq_message.specs.declared.service.Service.{Service}
use Rattle.acq_message.specs.declared.service.Service.TheVariants as service
use Rattle.acq_message.specs.Elements.{has}
use Rattle.acq_message.specs.FirstCheck.{has_one_of, unverifiable}
use Rattle.acq_message.specs.Services.{needed, needed_card, service_of}
use Rattle.acq_show.specs.Names.{element_name}
use Rattle.acq_show.specs.Remarks.{element_words, first_missing, first_remark, first_unverifiable}
use Rattle.acq_show.specs.Remarks.{message_remark, remark, remark_by}
use Rattle.acq_make.proofs.Texts.{is_inner, one_line}

-- nothing, or one line that begins so
abbrev pub IsRemark : List ℕ → Type 0
IsRemark text =
    (text ≡ []) ⊎ ((rest : List ℕ) × (one_line rest ≡ true)
    × (text ≡ (codes "the host replies " ++ rest) ++ (10 ∷ [])))

word_ok : ℕ → Bool
word_ok n = one_line (decimal n) && one_line (element_name n)

found_ok : (p : ℕ → Bool) (ns : List ℕ) (n : ℕ) → find p ns ≡ Some n → list_all word_ok ns ≡ true
    → word_ok n ≡ true
found_ok p [] n is all = absurd (cc)
found_ok p (k ∷ ks) n is all =
    let parts = and_parts (word_ok k) (list_all word_ok ks) all in
    elim (cases_Bool (p k)) [
      | inl here ↦ let own : Some k ≡ Some n = rw here at is in
          let same : k ≡ n = cc in ap word_ok (sym same) ∙ parts.0
      | inr away ↦ found_ok p ks n (rw away at is) parts.1
    ]

needed_ok : (s : Service) → list_all word_ok (needed s) ≡ true
unfolding word_ok digits on_literals
needed_ok service.Authorization = refl
needed_ok service.Financial = refl
needed_ok service.Completion = refl
needed_ok service.Reversal = refl
needed_ok service.ReversalAdvice = refl
needed_ok service.Reconciliation = refl
needed_ok service.NetworkManagement = refl

unverifiable_ok : list_all word_ok unverifiable ≡ true
unfolding word_ok digits on_literals
unverifiable_ok = refl

of_words : (words : List ℕ) → one_line words ≡ true → IsRemark (remark words)
of_words words inner = inr (codes "30: " ++ words, inner, refl)

of_element : (n : ℕ) (words : List ℕ) → word_ok n ≡ true → one_line words ≡ true
    → IsRemark (remark (element_words n ++ words))
unfolding element_words word_ok
of_element n words ok inner =
    let parts = and_parts _ _ ok in
    let front = all_append is_inner (codes "element " ++ decimal n) (codes ", ") parts.0 refl in
    let named = all_append is_inner (codes "element " ++ decimal n ++ codes ", ") (element_name n)
    front parts.1 in
    let whole = all_append is_inner (codes "element " ++ decimal n ++ codes ", " ++ element_name n)
    (codes ", ") named refl in
    of_words (codes "element " ++ decimal n ++ codes ", " ++ element_name n ++ codes ", " ++ words)
    (all_append is_inner
    (codes "element " ++ decimal n ++ codes ", " ++ element_name n ++ codes ", ") words whole inner)

first_is : (missing : Option ℕ) (card : Bool) (bad : Option ℕ)
    → ((n : ℕ) → missing ≡ Some n → word_ok n ≡ true) → ((n : ℕ) → bad ≡ Some n → word_ok n ≡ true)
    → IsRemark (first_remark missing card bad)
first_is (Some n) card bad h k = of_element n (codes "is missing") (h n refl) refl
first_is None false bad h k = of_words (codes "neither element 2 nor 35 is there") refl
first_is None true (Some n) h k =
    of_element n (codes "is there, and can't be checked") (k n refl) refl
first_is None true None h k = inl refl

by_service : (s : Option Service) (m : IsoMessage) → IsRemark (remark_by s m)
by_service None m = inl refl
by_service (Some s) m =
    first_is (first_missing m (needed s)) (has_one_of m (needed_card s)) (first_unverifiable m)
    (λ n is. found_ok (λ k. not (has m k)) (needed s) n is (needed_ok s))
    (λ n is. found_ok (has m) unverifiable n is unverifiable_ok)

pub is_remark_text : (m : IsoMessage) → IsRemark (message_remark m)
is_remark_text m = by_service (service_of m.kind) m
