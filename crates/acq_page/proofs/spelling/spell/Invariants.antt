use Rattle.std.proofs.Common.{◌≡◌, take}
use Rattle.std.specs.List.{flat_map}
use Rattle.acq_page.specs.Pages.{spelled}
use Rattle.acq_page.proofs.spelling.spell.Given as goal

abbrev pub invariant-loop-piece : goal.invariant-loop-piece
invariant-loop-piece l = l.page.items ≡ flat_map spelled (take l.piece-index l.pieces)
