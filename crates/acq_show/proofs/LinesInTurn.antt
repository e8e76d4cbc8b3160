-- What is shown of lines, one after another.
use Rattle.std.proofs.Common.{◌≡◌, ℕ, List, [], ◌∷◌, ◌++◌, refl, sym, ap, ◌∙◌, append_assoc}
use Rattle.std.proofs.Common.{append-nil}
use Rattle.acq_link.specs.HexLines.{lines_of, without_return}
use Rattle.acq_show.specs.Lines.{line_shown, lines_shown}

-- the first line, and then the text behind it
pub first_shown : (text line rest : List ℕ) → lines_of text ≡ line ∷ lines_of rest
    → lines_shown text ≡ line_shown (without_return line) ++ lines_shown rest
unfolding lines_shown
first_shown text line rest is = rw is refl

pub none_shown : (text : List ℕ) → text ≡ [] → lines_shown text ≡ []
unfolding lines_shown
none_shown text none = rw none refl

-- one line more
pub shown_more : (text rest line later old new : List ℕ)
    → old ++ lines_shown rest ≡ lines_shown text → lines_of rest ≡ line ∷ lines_of later
    → new ≡ old ++ line_shown (without_return line) → new ++ lines_shown later ≡ lines_shown text
shown_more text rest line later old new so is put =
    ap (λ (x : List ℕ). x ++ lines_shown later) put
    ∙ append_assoc old (line_shown (without_return line)) (lines_shown later)
    ∙ ap (λ (x : List ℕ). old ++ x) (sym (first_shown rest line later is)) ∙ so

-- all lines
pub shown_all : (text rest out : List ℕ) → out ++ lines_shown rest ≡ lines_shown text → rest ≡ []
    → out ≡ lines_shown text
shown_all text rest out so none =
    sym (append-nil out) ∙ sym (ap (λ (x : List ℕ). out ++ x) (none_shown rest none)) ∙ so
