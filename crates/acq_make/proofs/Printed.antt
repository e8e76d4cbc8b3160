-- What is printed as it stands.
use Rattle.std.proofs.Common.{◌≡◌, ℕ, zero, suc, Bool, true, List, [], ◌∷◌, take, drop, refl, ap}
use Rattle.std.specs.List.{list_all}
use Rattle.std.proofs.lemmas.Bool.{and_parts}
use Rattle.iso_codec.specs.Content.{is_printable}
use Rattle.acq_show.specs.Contents.{printable}

pub printable_is : (content : List ℕ) → list_all is_printable content ≡ true
    → printable content ≡ content
printable_is [] h = refl
printable_is (b ∷ bs) h =
    let parts = and_parts (is_printable b) (list_all is_printable bs) h in
    rw parts.0 (ap (λ (x : List ℕ). b ∷ x) (printable_is bs parts.1))

pub all_take : (p : ℕ → Bool) (k : ℕ) (xs : List ℕ) → list_all p xs ≡ true
    → list_all p (take k xs) ≡ true
all_take p zero xs h = refl
all_take p (suc k) [] h = refl
all_take p (suc k) (x ∷ xs) h =
    let parts = and_parts (p x) (list_all p xs) h in rw parts.0 (all_take p k xs parts.1)

pub all_drop : (p : ℕ → Bool) (k : ℕ) (xs : List ℕ) → list_all p xs ≡ true
    → list_all p (drop k xs) ≡ true
all_drop p zero xs h = h
all_drop p (suc k) [] h = refl
all_drop p (suc k) (x ∷ xs) h = all_drop p k xs (and_parts (p x) (list_all p xs) h).1
