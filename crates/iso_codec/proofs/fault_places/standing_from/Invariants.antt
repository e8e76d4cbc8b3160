use Rattle.std.proofs.Common.{◌≡◌, false, length}
use Rattle.iso_codec.specs.Message.{named, bit}
use Rattle.iso_codec.proofs.PlacesOfFaults.{Leaves}
use Rattle.iso_codec.proofs.fault_places.standing_from.Given as goal

abbrev pub invariant-loop-lower : goal.invariant-loop-lower
invariant-loop-lower l = record {
  leaves : Leaves l.number l.text (named l.left) l.rest;
  unset : bit l.left.primary 1 ≡ false;
}

abbrev pub decreases-loop-lower : goal.decreases-loop-lower
decreases-loop-lower l = length (named l.left)
