-- What a visitor that gathers ranges makes of a range.
use Rattle.std.specs.Prelude.{◌≡◌, Bool, true, false, [], ◌∷◌, ◌++◌}
use Rattle.card_no.specs.declared.range.Range.{Range}
use Rattle.acq_range_changes.specs.declared.gathering.Gathered.{Gathered}

-- it has the range behind the others, or it can't have it
abbrev pub GathersOne : Gathered → Range → Bool → Gathered → Type 0
GathersOne old row true new =
    (new.ranges ≡ old.ranges ++ row ∷ []) × (new.is_short ≡ old.is_short)
GathersOne old row false new = new.is_short ≡ true
