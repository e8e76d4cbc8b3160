use Rattle.std.proofs.Common.{take, ◌≡◌}
use Rattle.std.specs.List.{list_all}
use Rattle.iso_codec.specs.Content.{is_track}
use Rattle.iso_codec.proofs.classes.all_track.Given as goal

abbrev pub invariant-loop-b : goal.invariant-loop-b
invariant-loop-b l = l.all ≡ list_all is_track (take l.b-index l.text)
