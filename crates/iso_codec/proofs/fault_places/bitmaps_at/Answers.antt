use Rattle.std.proofs.Common.{sym, ◌∙◌}
use Rattle.iso_codec.proofs.PlacesOfFaults.{no_bitmaps, no_second, one_bitmap, two_bitmaps}
use Rattle.iso_codec.proofs.fault_places.bitmaps_at.Goals as goal

pub returns-in_default : goal.returns-in_default
returns-in_default c =
    sym (no_bitmaps c.args.rest.now c.in_default.field-0 c.in_default.ensures.fault)

pub returns-then-not-bit : goal.returns-then-not-bit
returns-then-not-bit c =
    sym (one_bitmap c.args.rest.now c.in-Ok.after.now c.in-Ok.primary c.in-Ok.ensures.found
    (sym c.bit.ensures ∙ c.if-not-bit.true))

pub returns-in_default-bitmap_at : goal.returns-in_default-bitmap_at
returns-in_default-bitmap_at c =
    sym (no_second c.args.rest.now c.in-Ok.after.now c.in-Ok.primary c.in_default-bitmap_at.field-0
    c.in-Ok.ensures.found (sym c.bit.ensures ∙ c.if-not-bit.false)
    c.in_default-bitmap_at.ensures.fault)

pub returns : goal.returns
returns c =
    sym (two_bitmaps c.args.rest.now c.in-Ok.after.now c.in-Ok-bitmap_at.body.now c.in-Ok.primary
    c.in-Ok-bitmap_at.secondary c.in-Ok.ensures.found (sym c.bit.ensures ∙ c.if-not-bit.false)
    c.in-Ok-bitmap_at.ensures.found)
