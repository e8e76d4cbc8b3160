use Rattle.std.proofs.Common.{refl}
use Rattle.iso_codec.proofs.PlacesOfFaults.{bitmap_found, bitmap_missing}
use Rattle.iso_codec.proofs.fault_places.fault_place.Goals as goal

pub returns-in-Ok : goal.returns-in-Ok
returns-in-Ok c =
    let found = bitmap_found c.behind_type.result.now c.in-Ok.field-0.0 c.in-Ok.field-0.1.now
    c.in-Ok.ensures.found in
    rw (c.in-BadBitmap.is, ← c.behind_type.ensures, found) refl

pub returns-in-Err : goal.returns-in-Err
returns-in-Err c =
    let missing = bitmap_missing c.behind_type.result.now c.in-Err.field-0 c.in-Err.ensures.fault in
    rw (c.in-BadBitmap.is, ← c.behind_type.ensures, missing.1) refl
