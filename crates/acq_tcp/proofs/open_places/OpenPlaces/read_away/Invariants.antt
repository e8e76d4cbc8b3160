-- those behind are left
use Rattle.std.proofs.Common.{◌-◌, length}
use Rattle.acq_tcp.proofs.open_places.OpenPlaces.read_away.Given as goal

abbrev pub decreases-loop-at : goal.decreases-loop-at
decreases-loop-at g l = length l.self.parted.items - l.at
