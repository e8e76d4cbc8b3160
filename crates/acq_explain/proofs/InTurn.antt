-- Texts put one behind another.
use Rattle.std.proofs.Common.{◌≡◌, ℕ, List, ◌++◌, append_assoc}

pub three_in_turn : (old one two three a b c : List ℕ) → one ≡ old ++ a → two ≡ one ++ b
    → three ≡ two ++ c → three ≡ old ++ (a ++ b ++ c)
three_in_turn old one two three a b c h1 h2 h3 = rw (h3, h2, h1) (simp append_assoc)
