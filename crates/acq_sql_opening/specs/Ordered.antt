-- What putting a book in order leaves.
use Rattle.std.specs.Prelude.{◌≡◌, Result, OnOk}
use Rattle.sqlite.specs.State.{State, Survives}

-- a stop leaves what it might before, or where the call succeeded what is committed now
abbrev pub LeavesWhole : {T E : Type 0} → State → State → Result T E → Type 0
LeavesWhole old new result =
    Survives old new (λ trees. OnOk result (trees ≡ new.committed.trees))
