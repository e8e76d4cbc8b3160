-- What makes answers to requests that wait.
use Rattle.std.specs.Prelude.{◌≡◌, Bool, true, [], ◌∷◌, ◌++◌}
use Rattle.acq_core.specs.declared.request.Request.{Request}
use Rattle.acq_commands.specs.Ending.{unanswered}
use Rattle.acq_commands.specs.declared.ending_waiting.Unanswered.{Unanswered}

-- if there is one behind a request, more are wanted, and there is one to each before it
abbrev pub Answers : Unanswered → Request → Bool → Unanswered → Type 0
Answers v row more w =
    w.is_whole ≡ true → (more ≡ true) × (v.is_whole ≡ true) × (w.moment ≡ v.moment)
    × (w.answers.items ≡ v.answers.items ++ unanswered v.moment row ∷ [])
