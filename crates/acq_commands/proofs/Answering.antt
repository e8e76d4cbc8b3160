-- Answers to the requests that a walk showed.
use Rattle.std.proofs.Common.{◌≡◌, ◌∙◌, ⊎_elim, ℕ, true, false, List, [], ◌∷◌, ◌++◌, map, sym}
use Rattle.std.proofs.Common.{ap, Global, Vec}
use Rattle.std.proofs.lemmas.List.{append-nil, append_assoc}
use Rattle.acq_core.specs.declared.event.Event.{Event}
use Rattle.acq_core.specs.declared.request.Request.{Request}
use Rattle.acq_book.specs.Visits.{SawAll}
use Rattle.acq_commands.specs.Answering.{Answers}
use Rattle.acq_commands.specs.Ending.{unanswered}
use Rattle.acq_commands.specs.declared.ending_waiting.Unanswered.{Unanswered}

-- if none lacks one, there is one to each that was shown, behind those that were there
pub answered : (rows : List Request) (v w : Unanswered) → SawAll Answers rows v w
    → w.is_whole ≡ true → (v.is_whole ≡ true) × (w.moment ≡ v.moment)
    × (w.answers.items ≡ v.answers.items ++ map (unanswered v.moment) rows)
answered [] v w same whole = (
  ap (λ (c : Unanswered). c.is_whole) same ∙ whole,
  sym (ap (λ (c : Unanswered). c.moment) same),
  sym (ap (λ (c : Unanswered). c.answers.items) same) ∙ sym (append-nil v.answers.items),
)
answered (row ∷ rows) v w saw whole =
    ⊎_elim
    (λ more.
    let rest = answered rows more.0 w more.2 whole in
    let one = more.1 rest.0 in (
      one.1,
      rest.1 ∙ one.2,
      rest.2
          ∙ (ap (λ m. more.0.answers.items ++ map (unanswered m) rows) one.2
          ∙ (ap (λ xs. xs ++ map (unanswered v.moment) rows) one.3
          ∙ append_assoc v.answers.items (unanswered v.moment row ∷ [])
          (map (unanswered v.moment) rows))),
    ))
    (λ last. absurd (let e : false ≡ true = (last whole).0 in cc))
    saw

-- so behind nothing, of rows that were shown to what keeps the answers in the end
pub all_answered : (rows : List Request) (v w : Unanswered) (answers : Vec Event Global)
    (moment : ℕ) → v.moment ≡ moment → v.answers.items ≡ []
    → (answers ≡ w.answers) × (w.is_whole ≡ true) → SawAll Answers rows v w
    → answers.items ≡ map (unanswered moment) rows
all_answered rows v w answers moment at empty whole saw =
    ap (λ (a : Vec Event Global). a.items) whole.0
    ∙ ((answered rows v w saw whole.1).2
    ∙ (ap (λ xs. xs ++ map (unanswered v.moment) rows) empty
    ∙ ap (λ m. map (unanswered m) rows) at))
