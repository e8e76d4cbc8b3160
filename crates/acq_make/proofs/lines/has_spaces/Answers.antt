use Rattle.std.proofs.Common.{◌∙◌, ap, ℕ, List, nat_eq}
use Rattle.std.specs.List.{starts_with}
use Rattle.std.proofs.lemmas.List.{take-replicate}
use Rattle.acq_make.proofs.lines.has_spaces.Goals as goal

pub returns : goal.returns
returns c =
    c.starts_with.ensures.value
    ∙ ap (λ (s : List ℕ). starts_with nat_eq c.args.text.now s)
    (take-replicate c.args.count 34 32 c.requires)
