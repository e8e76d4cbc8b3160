-- What is written of lines, one after another.
use Rattle.std.proofs.Common.{◌≡◌, ℕ, List, [], ◌∷◌, ◌++◌, refl, sym, ap, ◌∙◌, append_assoc}
use Rattle.std.proofs.Common.{append-nil}
use Rattle.acq_link.specs.HexLines.{lines_of, without_return}
use Rattle.acq_json.specs.declared.card_form.CardForm.{CardForm}
use Rattle.acq_json.specs.Lines.{json_lines, line_json}

first_written : (form : CardForm) (text line rest : List ℕ) → lines_of text ≡ line ∷ lines_of rest
    → json_lines form text ≡ line_json form (without_return line) ++ json_lines form rest
unfolding json_lines
first_written form text line rest is = rw is refl

none_written : (form : CardForm) (text : List ℕ) → text ≡ [] → json_lines form text ≡ []
unfolding json_lines
none_written form text none = rw none refl

-- one line more
pub written_more : (form : CardForm) (text rest line later old new : List ℕ)
    → old ++ json_lines form rest ≡ json_lines form text → lines_of rest ≡ line ∷ lines_of later
    → new ≡ old ++ line_json form (without_return line)
    → new ++ json_lines form later ≡ json_lines form text
written_more form text rest line later old new so is put =
    ap (λ (x : List ℕ). x ++ json_lines form later) put
    ∙ append_assoc old (line_json form (without_return line)) (json_lines form later)
    ∙ ap (λ (x : List ℕ). old ++ x) (sym (first_written form rest line later is)) ∙ so

-- all lines
pub written_all : (form : CardForm) (text rest out : List ℕ)
    → out ++ json_lines form rest ≡ json_lines form text → rest ≡ [] → out ≡ json_lines form text
written_all form text rest out so none =
    sym (append-nil out)
    ∙ sym (ap (λ (x : List ℕ). out ++ x) (none_written form rest none)) ∙ so
