-- The parts of replacement amounts, and of an original, put one behind another.
use Rattle.std.proofs.Common.{◌≡◌, ℕ, List, ◌++◌, length, refl, append_assoc}
use Rattle.std.specs.Prelude.{take, drop, codes}
use Rattle.std.proofs.lemmas.Bool.{eq-eqb}
use Rattle.acq_show.specs.Contents.{part_shown, amounts_shown, original_shown}

-- four texts, put behind other bytes in turn
pub four_in_turn : (old one two three four a b c d : List ℕ) → one ≡ old ++ a → two ≡ one ++ b
    → three ≡ two ++ c → four ≡ three ++ d → four ≡ old ++ (a ++ b ++ c ++ d)
four_in_turn old one two three four a b c d h1 h2 h3 h4 = rw (h4, h3, h2, h1) (simp append_assoc)

-- the parts of a content of their length, as it is split
pub amounts_of : (content amount after settlement after' fee rest : List ℕ)
    → length content ≡ 42 → amount ≡ take 12 content → after ≡ drop 12 content
    → settlement ≡ take 12 after → after' ≡ drop 12 after → fee ≡ take 9 after'
    → rest ≡ drop 9 after'
    → part_shown (codes "amount ") amount
    ++ part_shown (codes ", settlement amount ") settlement ++ part_shown (codes ", fee ") fee
    ++ part_shown (codes ", settlement fee ") rest ≡ amounts_shown content
amounts_of content amount after settlement after' fee rest size h1 h2 h3 h4 h5 h6 =
    rw (h6, h5, h4, h3, h2, h1, eq-eqb (length content) 42 size) refl

-- five texts
pub five_in_turn : (old one two three four five a b c d e : List ℕ) → one ≡ old ++ a
    → two ≡ one ++ b → three ≡ two ++ c → four ≡ three ++ d → five ≡ four ++ e
    → five ≡ old ++ (a ++ b ++ c ++ d ++ e)
five_in_turn old one two three four five a b c d e h1 h2 h3 h4 h5 =
    rw (h5, h4, h3, h2, h1) (simp append_assoc)

pub original_of : (content kind after trace after' transmitted after'' acquirer rest : List ℕ)
    → length content ≡ 42 → kind ≡ take 4 content → after ≡ drop 4 content
    → trace ≡ take 6 after → after' ≡ drop 6 after → transmitted ≡ take 10 after'
    → after'' ≡ drop 10 after' → acquirer ≡ take 11 after'' → rest ≡ drop 11 after''
    → part_shown (codes "type ") kind ++ part_shown (codes ", trace number ") trace
    ++ part_shown (codes ", transmitted ") transmitted
    ++ part_shown (codes ", acquirer ") acquirer ++ part_shown (codes ", forwarder ") rest
    ≡ original_shown content
original_of content kind after trace after' transmitted after'' acquirer rest size h1 h2 h3 h4 h5
    h6 h7 h8 =
    rw (h8, h7, h6, h5, h4, h3, h2, h1, eq-eqb (length content) 42 size) refl
