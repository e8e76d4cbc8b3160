-- What a request that passes the first check is told of: nothing.
use Rattle.std.proofs.Common.{◌≡◌, ℕ, Bool, true, false, List, [], ◌∷◌, None, refl, inl, inr}
use Rattle.std.specs.Prelude.{not, find, ◌||◌}
use Rattle.std.specs.List.{list_all, list_any}
use Rattle.std.proofs.lemmas.Bool.{and_parts, cases_Bool}
use Rattle.iso_codec.specs.Message.{IsoMessage}
use Rattle.acq_message.specs.declared.service.Service.{Service}
use Rattle.acq_message.specs.Services.{needed, needed_card}
use Rattle.acq_message.specs.Elements.{has}
use Rattle.acq_message.specs.FirstCheck.{has_one_of, is_malformed, unverifiable}
use Rattle.acq_show.specs.Remarks.{first_missing, first_unverifiable, remark_on}

none_missing : (m : IsoMessage) (numbers : List ℕ) → list_all (has m) numbers ≡ true
    → first_missing m numbers ≡ None
none_missing m [] all = refl
none_missing m (n ∷ ns) all =
    let parts = and_parts (has m n) (list_all (has m) ns) all in
    rw parts.0 (none_missing m ns parts.1)

none_found : (p : ℕ → Bool) (numbers : List ℕ) → list_any p numbers ≡ false → find p numbers ≡ None
none_found p [] none = refl
none_found p (n ∷ ns) none =
    elim (cases_Bool (p n)) [
      | inl there ↦ let is : true ≡ false = rw there at none in absurd (cc)
      | inr away ↦ rw away (none_found p ns (rw away at none))
    ]

-- neither of two
neither : (a b : Bool) → (a || b) ≡ false → (a ≡ false) × (b ≡ false)
neither true b h = absurd (cc)
neither false b h = (refl, h)

is_not : (a : Bool) → not a ≡ false → a ≡ true
is_not true h = refl
is_not false h = absurd (cc)

pub unremarked : (service : Service) (m : IsoMessage) → is_malformed service m ≡ false
    → remark_on service m ≡ []
unremarked service m passed =
    let one = neither _ _ passed in
    let two = neither _ _ one.0 in
    let three = neither _ _ two.0 in
    let four = neither _ _ three.0 in
    let five = neither _ _ four.0 in
    let all = none_missing m (needed service) (is_not _ five.0) in
    let card : has_one_of m (needed_card service) ≡ true = is_not _ five.1 in
    let none : first_unverifiable m ≡ None = none_found (has m) unverifiable four.1 in
    rw (all, card, none) refl
