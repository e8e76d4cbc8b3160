-- Texts put one behind another.
use Rattle.std.proofs.Common.{◌≡◌, ℕ, List, ◌++◌, append_assoc}

-- five pairs, put behind other bytes in turn, are one text behind these
pub put_in_turn : (old a b c d e f g h i j : List ℕ)
    → ((((old ++ (a ++ b)) ++ (c ++ d)) ++ (e ++ f)) ++ (g ++ h)) ++ (i ++ j)
    ≡ old ++ (a ++ (b ++ c ++ d ++ e ++ f ++ g ++ h ++ i ++ j))
put_in_turn old a b c d e f g h i j = simp append_assoc
