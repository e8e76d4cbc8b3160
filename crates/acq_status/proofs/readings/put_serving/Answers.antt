use Rattle.std.proofs.Common.{◌++◌, ◌∙◌, List, ap, append_assoc}
use Rattle.std.proofs.lemmas.Result.{IfOk-weaker}
use Rattle.acq_status.specs.Texts.{known_readings, missing_readings, taken_readings}
use Rattle.acq_status.specs.declared.reading.Reading.{Reading}
use Rattle.acq_status.proofs.readings.put_serving.Goals as goal

pub returns : goal.returns
returns c =
    let s = c.args.serving in
    let old = c.args.readings.now.items in
    let missing = missing_readings s.unanswered s.lost_lines in
    IfOk-weaker c.put_known.result _ _
    (λ u grown. grown
    ∙ ap (λ (l : List Reading). l ++ known_readings s)
    (c.in_ok-put_missing.ensures
    ∙ ap (λ (l : List Reading). l ++ missing) c.in_ok-put_taken.ensures
    ∙ append_assoc old (taken_readings s) missing)
    ∙ append_assoc old (taken_readings s ++ missing) (known_readings s))
    c.put_known.ensures
