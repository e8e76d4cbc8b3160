use Rattle.std.proofs.Common.{take, ◌≡◌, true, List, ℕ}
use Rattle.std.specs.List.{list_all}
use Rattle.iso_codec.specs.Setting.{is_below}
use Rattle.iso_codec.specs.Span.{elements_in}
use Rattle.iso_codec.proofs.message.place.Given as goal

abbrev pub invariant-loop-i : goal.invariant-loop-i
invariant-loop-i l = (bytes : List ℕ) →
    list_all (is_below l.number) (elements_in bytes (take l.i l.spans)) ≡ true
