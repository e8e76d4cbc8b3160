-- What a visitor that collects names makes of a merchant.
use Rattle.std.specs.Prelude.{◌≡◌, Bool, true, false, [], ◌∷◌, ◌++◌}
use Rattle.acq_core.specs.declared.merchant.Merchant.{Merchant}
use Rattle.acq_reports.specs.declared.names.Names.{Names}

-- it has one name more, or memory ran out
abbrev pub NamesOne : Names → Merchant → Bool → Names → Type 0
NamesOne old row true new =
    (new.names.items ≡ old.names.items ++ row.id ∷ []) × (new.is_short ≡ old.is_short)
NamesOne old row false new = new.is_short ≡ true
