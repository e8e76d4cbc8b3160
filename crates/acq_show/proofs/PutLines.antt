-- Texts put one behind another.
use Rattle.std.proofs.Common.{◌≡◌, ℕ, List, ◌++◌, Result, Ok, Err, append_assoc}
use Rattle.std.specs.Prelude.{OnOk, is_ok, if◌then◌else◌}

-- five texts, put behind other bytes in turn, are the line that they make
pub line_in_turn : (old one two three four five a b c d e f g : List ℕ) → one ≡ old ++ (a ++ b) →
    two ≡ one ++ c
    → three ≡ two ++ (d ++ e) → four ≡ three ++ f → five ≡ four ++ g
    → five ≡ old ++ (a ++ b ++ c ++ d ++ e ++ f ++ g)
line_in_turn old one two three four five a b c d e f g h1 h2 h3 h4 h5 =
    rw (h5, h4, h3, h2, h1) (simp append_assoc)

-- what a text is where a call that puts something was well
pub on_ok_text : {T E : Type 0} (r : Result T E) (new well unwell : List ℕ)
    → new ≡ (if is_ok r then well else unwell) → OnOk r (new ≡ well)
on_ok_text (Ok x) new well unwell h = h
on_ok_text (Err e) new well unwell h = tt
