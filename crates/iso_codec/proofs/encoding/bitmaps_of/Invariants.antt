use Rattle.std.proofs.Common.{take}
use Rattle.iso_codec.specs.Setting.{Marks}
use Rattle.iso_codec.specs.Span.{numbers_of}
use Rattle.iso_codec.proofs.encoding.bitmaps_of.Given as goal

abbrev pub invariant-loop-span : goal.invariant-loop-span
invariant-loop-span l =
    Marks (numbers_of (take l.span-index l.spans))
    (record { primary = l.primary; secondary = l.secondary })
