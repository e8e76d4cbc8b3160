use Rattle.std.proofs.Common.{◌≡◌, ◌∷◌, ℕ, List, [], true, refl, arith}
use Rattle.std.specs.List.{list_all}
use Rattle.std.proofs.lemmas.Bool.Decides.{nat_tests}
use Rattle.std.proofs.lemmas.List.Folds.{list_all-append}
use Rattle.acq_page.specs.Pages.{escaped, escaped_byte, opens_nothing}
use Rattle.acq_page.proofs.laws.texts_open_nothing.Goals as goal

bytes_open_nothing : (byte : ℕ) → list_all opens_nothing (escaped_byte byte) ≡ true
unfolding escaped_byte
bytes_open_nothing byte = grind (arith, nat_tests)

open_nothing : (text : List ℕ) → list_all opens_nothing (escaped text) ≡ true
open_nothing [] = refl
open_nothing (byte ∷ text) =
    rw (
      list_all-append opens_nothing (escaped_byte byte) (escaped text),
      bytes_open_nothing byte,
      open_nothing text,
    ) refl

pub returns : goal.returns
returns c = open_nothing
