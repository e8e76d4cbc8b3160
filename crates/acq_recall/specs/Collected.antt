-- What a visitor keeps of the rows that it is shown.
use Rattle.std.specs.Prelude.{◌≡◌, Bool, true, [], ◌∷◌, ◌++◌}
use Rattle.acq_core.specs.declared.request.Request.{Request}
use Rattle.acq_recall.specs.declared.collecting.Collecting.{Collecting}

-- if all is kept behind a row, it is kept behind those before, and more is wanted
abbrev pub Keeps : Collecting → Request → Bool → Collecting → Type 0
Keeps v row more w =
    w.is_whole ≡ true → (more ≡ true) × ((v.is_whole ≡ true)
    × (w.rows.items ≡ v.rows.items ++ row ∷ []))
