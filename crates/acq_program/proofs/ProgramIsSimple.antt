-- clap's rules say of the program which arguments it takes, and what they mean.
use Rattle.std.proofs.Common.{◌≡◌, true, refl}
use Rattle.clap.specs.Words.{is_simple, is_simple_and_free}
use Rattle.clap.proofs.OnLiterals.{clap_on_literals}
use Rattle.acq_program.specs.Program.{program}

pub is_simple-program : is_simple program ≡ true
unfolding clap_on_literals
is_simple-program = refl

pub is_simple_and_free-program : is_simple_and_free program ≡ true
unfolding clap_on_literals
is_simple_and_free-program = refl
