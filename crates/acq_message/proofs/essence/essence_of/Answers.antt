use Rattle.std.proofs.Common.{◌≡◌, ℕ, true, false, leb, ltb, List, [], ◌∷◌, ◌++◌, Some, None}
use Rattle.std.proofs.Common.{get_or, refl, inl, inr, subst}
use Rattle.std.specs.Prelude.{codes, IfOk}
use Rattle.std.specs.List.{filter, list_all}
use Rattle.std.proofs.lemmas.Bool.{cases_Bool, ltb-true, lt-leb}
use Rattle.iso_codec.specs.Message.{IsoMessage, with_content, is_among}
use Rattle.iso_codec.specs.Reading.{spelling}
use Rattle.acq_message.specs.declared.service.Service.{Service}
use Rattle.acq_message.specs.declared.service.Service.TheVariants.{Authorization, Financial}
use Rattle.acq_message.specs.declared.service.Service.TheVariants.{Completion, Reversal}
use Rattle.acq_message.specs.declared.service.Service.TheVariants.{ReversalAdvice, Reconciliation}
use Rattle.acq_message.specs.declared.service.Service.TheVariants.{NetworkManagement}
use Rattle.acq_message.specs.Services.{digits_of}
use Rattle.acq_message.specs.Cards.{card_of}
use Rattle.acq_message.specs.Elements.{essential, essence_of}
use Rattle.acq_message.proofs.NeededElements.{one_of_all}
use Rattle.acq_message.proofs.essence.essence_of.Goals as goal
use Rattle.acq_message.proofs.essence.essence_of.Goals.{in-Some+in_ok-essence-in-Some, in-None}

-- the card number stands before elements that are all behind it
front : (numbers : List ℕ) → list_all (ltb 2) numbers ≡ true →
    (es : List (ℕ × List ℕ)) (text : List ℕ) →
    with_content (filter (is_among numbers) es) 2 text
    ≡ (2, text) ∷ filter (is_among numbers) es
front numbers behind [] text = refl
front numbers behind (e ∷ es) text =
    elim (cases_Bool (is_among numbers e)) [
      | inl kept ↦
          let above : ltb 2 e.0 ≡ true = one_of_all (ltb 2) numbers e.0 behind kept in
          let after : leb e.0 2 ≡ false = lt-leb e.0 2 (ltb-true 2 e.0 above) in
          rw (kept, after) refl
      | inr dropped ↦ rw dropped (front numbers behind es text)
    ]

-- they are
all_behind : (s : Service) → list_all (ltb 2) (essential s) ≡ true
all_behind Authorization = refl
all_behind Financial = refl
all_behind Completion = refl
all_behind Reversal = refl
all_behind ReversalAdvice = refl
all_behind Reconciliation = refl
all_behind NetworkManagement = refl

four_digits : (s : Service) (digits : List ℕ) → digits ≡ digits_of s
    → get_or digits 0 0 ∷ get_or digits 1 0 ∷ get_or digits 2 0 ∷ 48 ∷ [] ≡ digits_of s ++ codes "0"
four_digits s digits is = rw is (computed s)
  where
    computed : (s : Service) →
        get_or (digits_of s) 0 0 ∷ get_or (digits_of s) 1 0 ∷ get_or (digits_of s) 2 0 ∷ 48 ∷ []
        ≡ digits_of s ++ codes "0"
    computed Authorization = refl
    computed Financial = refl
    computed Completion = refl
    computed Reversal = refl
    computed ReversalAdvice = refl
    computed Reconciliation = refl
    computed NetworkManagement = refl

-- what was selected, before the card number is set
abbrev selection : IsoMessage → List ℕ → List ℕ → IsoMessage
selection m digits numbers = record {
  kind = get_or digits 0 0 ∷ get_or digits 1 0 ∷ get_or digits 2 0 ∷ 48 ∷ [];
  elements = filter (is_among numbers) m.elements;
}

with_card : (s : Service) (m essence : IsoMessage) (digits numbers number : List ℕ) →
    digits ≡ digits_of s
    → numbers ≡ essential s → Some number ≡ card_of m → essence ≡ selection m digits numbers
    → spelling (record { kind = essence.kind; elements = with_content essence.elements 2 number })
    ≡ essence_of s m
with_card s m essence digits numbers number are_digits are_numbers is so =
    rw (so, four_digits s digits are_digits, are_numbers, front (essential s) (all_behind s) m.elements number, ← is) refl

without_card : (s : Service) (m essence : IsoMessage) (digits numbers : List ℕ) →
    digits ≡ digits_of s
    → numbers ≡ essential s → None ≡ card_of m → essence ≡ selection m digits numbers
    → spelling essence ≡ essence_of s m
without_card s m essence digits numbers are_digits are_numbers is so =
    rw (so, four_digits s digits are_digits, are_numbers, ← is) refl

whole : (c : goal.After-drop-essence-inside-2) → spelling c.match-card_number_of.essence
    ≡ essence_of c.args.service c.args.message.now
whole c =
    let m = c.args.message.now in
    elim c.match-card_number_of.branch [
      | in-Some+in_ok-essence-in-Some w ↦
          rw (w.essence-is, w.in_ok-essence-in-Some.ensures)
          (with_card c.args.service m c.in_ok-selected.selected c.digits.result
          c.essential.result.now w.in-Some.number.now c.digits.ensures c.essential.ensures
          w.in-Some.ensures.value
          c.in_ok-selected.ensures)
      | in-None w ↦
          rw w.essence-is (without_card c.args.service m c.in_ok-selected.selected c.digits.result
          c.essential.result.now c.digits.ensures c.essential.ensures w.in-None.ensures.value
          c.in_ok-selected.ensures)
    ]

pub returns : goal.returns
returns c =
    subst (λ (t : List ℕ). IfOk c.spelled.result (λ text. text ≡ t)) (whole c) c.spelled.ensures
