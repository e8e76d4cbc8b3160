-- What the reasons of the first check say, if it refuses a request.
use Rattle.std.proofs.Common.{◌≡◌, ℕ, List, [], ◌∷◌, Option, Some, None, Bool, true, false}
use Rattle.std.proofs.Common.{refl, inl, inr}
use Rattle.std.specs.Prelude.{not, find, if◌then◌else◌}
use Rattle.std.specs.List.{list_all, list_any}
use Rattle.std.proofs.lemmas.Bool.{cases_Bool}
use Rattle.card_no.proofs.FirstThatPasses.{find-passes, find-none, find-contains}
use Rattle.iso_codec.specs.Message.{IsoMessage}
use Rattle.acq_message.specs.declared.service.Service.{Service}
use Rattle.acq_message.specs.declared.request_message.RequestMessage.{RequestMessage}
use Rattle.acq_message.specs.declared.response_code.ResponseCode.TheVariants as code
use Rattle.acq_message.specs.Services.{needed, needed_card}
use Rattle.acq_message.specs.Elements.{has}
use Rattle.acq_message.specs.Cards.{has_bad_track, has_two_cards}
use Rattle.acq_message.specs.FirstCheck.{is_malformed, has_one_of, unverifiable}
use Rattle.acq_core.specs.Known.{Known}
use Rattle.acq_reasons.specs.declared.reason.Reason.TheVariants as reason
use Rattle.acq_reasons.specs.Codes.{code_of}
use Rattle.acq_reasons.specs.Reasons.{malformation, malformation_of, bad_element, bad_content}
use Rattle.acq_reasons.specs.Reasons.{first_missing, first_unverifiable}
use Rattle.acq_reasons.specs.Truths.{SaysTrue}

pub not_true : (b : Bool) → not b ≡ true → b ≡ false
not_true true h = absurd cc
not_true false h = refl

-- ---- the code

of_content : (bad_track two_cards : Bool) →
    code_of (if bad_track then reason.TrackWithoutCard else if two_cards then reason.TwoCards
    else reason.BadRemainder)
    ≡ code.FormatError
of_content true two_cards = refl
of_content false true = refl
of_content false false = refl

of_element : (m : IsoMessage) (o : Option ℕ) → code_of (bad_element m o) ≡ code.FormatError
of_element m None = of_content (has_bad_track m) (has_two_cards m)
of_element m (Some n) = refl

of_card : (m : IsoMessage) (has_card : Bool) →
    code_of (if has_card then bad_element m (first_unverifiable m) else reason.MissingCard)
    ≡ code.FormatError
of_card m true = of_element m (first_unverifiable m)
of_card m false = refl

of_missing : (service : Service) (m : IsoMessage) (o : Option ℕ) →
    code_of (malformation_of service m o) ≡ code.FormatError
of_missing service m None = of_card m (has_one_of m (needed_card service))
of_missing service m (Some n) = refl

pub malformation_code : (service : Service) (m : IsoMessage) →
    code_of (malformation service m) ≡ code.FormatError
malformation_code service m = of_missing service m (first_missing m (needed service))

-- ---- what is said

-- none fails, so all pass
all_pass : (p : ℕ → Bool) (xs : List ℕ) → find (λ n. not (p n)) xs ≡ None → list_all p xs ≡ true
all_pass p [] h = refl
all_pass p (x ∷ xs) h =
    elim (cases_Bool (p x)) [
      | inl passes ↦ rw passes (all_pass p xs (rw passes at h))
      | inr fails ↦ let e : Some x ≡ None = rw fails at h in absurd cc
    ]

module _ (k : Known) (r : RequestMessage) (refused : is_malformed r.service r.message ≡ true) where
  content_is_bad : list_all (has r.message) (needed r.service) ≡ true →
      has_one_of r.message (needed_card r.service) ≡ true →
      list_any (has r.message) unverifiable ≡ false → SaysTrue k r (bad_content r.message)
  content_is_bad complete carded checked =
      elim (cases_Bool (has_bad_track r.message)) [
        | inl track ↦ rw track track
        | inr no_track ↦
            elim (cases_Bool (has_two_cards r.message)) [
              | inl two ↦ rw (no_track, two) two
              | inr one ↦
                  rw (no_track, one)
                  (rw (complete, carded, checked, no_track, one) at refused)
            ]
      ]

  element_is_bad : list_all (has r.message) (needed r.service) ≡ true →
      has_one_of r.message (needed_card r.service) ≡ true →
      (o : Option ℕ) → first_unverifiable r.message ≡ o → SaysTrue k r (bad_element r.message o)
  element_is_bad complete carded None none =
      content_is_bad complete carded (find-none (has r.message) unverifiable none)
  element_is_bad complete carded (Some n) is =
      (find-contains (has r.message) unverifiable n is, find-passes (has r.message) unverifiable n is)

  element_is_missing : (o : Option ℕ) → first_missing r.message (needed r.service) ≡ o →
      SaysTrue k r (malformation_of r.service r.message o)
  element_is_missing None none =
      elim (cases_Bool (has_one_of r.message (needed_card r.service))) [
        | inl carded ↦
            rw carded (element_is_bad (all_pass (has r.message) (needed r.service) none) carded
            (first_unverifiable r.message) refl)
        | inr no_card ↦ rw no_card no_card
      ]
  element_is_missing (Some n) is =
      let test : ℕ → Bool = λ x. not (has r.message x) in (
        find-contains test (needed r.service) n is,
        not_true (has r.message n) (find-passes test (needed r.service) n is),
      )

  pub malformation_says_true : SaysTrue k r (malformation r.service r.message)
  malformation_says_true = element_is_missing (first_missing r.message (needed r.service)) refl
