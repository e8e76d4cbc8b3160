use Rattle.iso_codec.proofs.BitmapWords.{first_unnamed}
use Rattle.iso_codec.proofs.bitmaps.Bitmaps.of_elements.Goals as goal

pub returns-clause-same : goal.returns-clause-same
returns-clause-same c =
    first_unnamed c.args.self.now.primary c.without_bit.result c.args.self.now.secondary
    c.without_bit.ensures
