use Rattle.std.proofs.Common.{◌≡◌, ◌∙◌, ◌++◌, ◌∷◌, [], ℕ, List, ap, refl}
use Rattle.acq_front.specs.Lines.{received_of, sent_of}
use Rattle.acq_rounds.specs.Acts.{Connection}
use Rattle.acq_rounds.specs.declared.stage.Stage.TheVariants.{Listening}
use Rattle.acq_controls.proofs.controls.Controls.note.Goals as goal

-- a connection by its parts
abbrev connection : ℕ → List ℕ → List ℕ → List ℕ → List ℕ → Connection
connection number came held went unsent = record {
  number = number;
  came = came;
  held = held;
  went = went;
  unsent = unsent;
  stage = Listening;
}

same_parts : (number : ℕ) (held : List ℕ) {came came_too went went_too unsent unsent_too : List ℕ} →
    came ≡ came_too → went ≡ went_too → unsent ≡ unsent_too →
    connection number came held went unsent ≡ connection number came_too held went_too unsent_too
same_parts number held one two three = rw (one, two, three) refl

pub returns : goal.returns
returns g c = record {
  held = c.front.result.now;
  count = refl;
  ended = c.after-self.ensures.list
      ∙ ap (λ l. c.args.self.now.past.list ++ l ∷ [])
      (same_parts c.args.control.number c.front.result.now
      (c.received.ensures ∙ ap received_of c.line-line.ensures)
      (c.sent.ensures ∙ ap sent_of c.line-line.ensures) c.unsent.ensures);
  here = refl;
}
