use Rattle.iso_codec.proofs.BitmapWords.{unknown_named}
use Rattle.iso_codec.proofs.bitmaps.Bitmaps.of_unknown.Goals as goal

pub returns-clause-same : goal.returns-clause-same
returns-clause-same c = unknown_named c.args.self.now.primary c.args.self.now.secondary
