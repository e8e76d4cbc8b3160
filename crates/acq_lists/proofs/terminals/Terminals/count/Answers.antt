use Rattle.std.proofs.Common.{◌∙◌, ap, length, sym}
use Rattle.std.proofs.lemmas.Map.Entries.{length-values_of}
use Rattle.acq_lists.proofs.terminals.Terminals.count.Goals as goal

pub returns : goal.returns
returns c =
    c.len.ensures.len
    ∙ (sym (length-values_of c.self.inside.rows.entries) ∙ ap (λ s. length s.rows) c.self.view_is)
