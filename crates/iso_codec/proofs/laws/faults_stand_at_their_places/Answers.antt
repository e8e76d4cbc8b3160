use Rattle.iso_codec.proofs.PlacesOfPieces.{element_stands, trailing_stands}
use Rattle.iso_codec.proofs.laws.faults_stand_at_their_places.Goals as goal

pub returns : goal.returns
returns c = record { element = element_stands; trailing = trailing_stands }
