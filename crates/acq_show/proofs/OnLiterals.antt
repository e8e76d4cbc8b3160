-- What an answer unfolds to compute this crate's definitions on literals.
use Rattle.std.specs.Prelude.{⊤}
use Rattle.std.specs.Fmt.{digits}
use Rattle.iso_codec.proofs.Computing.{on_literals}
use Rattle.acq_show.specs.Shown.{shown}

unfoldable pub shown_on_literals : ⊤
unfolding digits on_literals shown
shown_on_literals = tt
