use Rattle.std.proofs.Common.{◌≡◌, take}
use Rattle.acq_make.specs.Contents.{parts_at}
use Rattle.acq_make.proofs.contents.parts_at.Given as goal

-- the parts at the places so far
abbrev pub invariant-loop-start : goal.invariant-loop-start
invariant-loop-start l = l.parts.items ≡ parts_at (take l.start-index l.places) l.text
