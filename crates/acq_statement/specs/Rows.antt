-- What visitors that keep rows make of one.
use Rattle.std.specs.Prelude.{◌≡◌, Bool, true, false, [], ◌∷◌, ◌++◌}
use Rattle.acq_core.specs.declared.merchant.Merchant.{Merchant}
use Rattle.acq_statement.specs.declared.enrolled.Enrolled.{Enrolled}

-- it has one merchant more, or memory ran out
abbrev pub EnrolsOne : Enrolled → Merchant → Bool → Enrolled → Type 0
EnrolsOne old row true new =
    (new.merchants.items ≡ old.merchants.items ++ row ∷ []) × (new.is_short ≡ old.is_short)
EnrolsOne old row false new = new.is_short ≡ true
