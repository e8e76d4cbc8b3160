-- What a visitor that keeps the first row makes of it.
use Rattle.std.specs.Prelude.{◌≡◌, Bool, true, false, Some}
use Rattle.acq_core.specs.declared.request.Request.{Request}
use Rattle.acq_status.specs.Figures.{waiting_of}
use Rattle.acq_status.specs.declared.first_waiting.First.{First}

-- it has it, and wants no more
abbrev pub KeepsOne : First → Request → Bool → First → Type 0
KeepsOne old row true new = ⊥
KeepsOne old row false new = new.row ≡ Some (waiting_of row)
