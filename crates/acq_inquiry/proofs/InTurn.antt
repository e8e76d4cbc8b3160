-- Texts put one behind another.
use Rattle.std.proofs.Common.{◌≡◌, ℕ, List, ◌++◌, append_assoc}

pub two_in_turn : (old one two a b : List ℕ) → one ≡ old ++ a → two ≡ one ++ b
    → two ≡ old ++ (a ++ b)
two_in_turn old one two a b h1 h2 = rw (h2, h1) (simp append_assoc)

pub five_in_turn : (old one two three four five a b c d e : List ℕ) → one ≡ old ++ a
    → two ≡ one ++ b → three ≡ two ++ c → four ≡ three ++ d → five ≡ four ++ e
    → five ≡ old ++ (a ++ b ++ c ++ d ++ e)
five_in_turn old one two three four five a b c d e h1 h2 h3 h4 h5 =
    rw (h5, h4, h3, h2, h1) (simp append_assoc)

pub six_in_turn : (old one two three four five six a b c d e f : List ℕ) → one ≡ old ++ a
    → two ≡ one ++ b → three ≡ two ++ c → four ≡ three ++ d → five ≡ four ++ e → six ≡ five ++ f
    → six ≡ old ++ (a ++ b ++ c ++ d ++ e ++ f)
six_in_turn old one two three four five six a b c d e f h1 h2 h3 h4 h5 h6 =
    rw (h6, h5, h4, h3, h2, h1) (simp append_assoc)
