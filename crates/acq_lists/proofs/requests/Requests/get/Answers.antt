use Rattle.std.proofs.Common.{◌∙◌, ap}
use Rattle.std.specs.Prelude.{find}
use Rattle.acq_message.specs.Elements.{same_key}
use Rattle.acq_book.specs.Keys.{key_eq}
use Rattle.acq_book.proofs.KeyTests.{key_eq-same}
use Rattle.acq_lists.proofs.Keyed.{found-keyed}
use Rattle.acq_lists.proofs.Edits.{key_of}
use Rattle.acq_lists.proofs.requests.Requests.get.Goals as goal

pub returns : goal.returns
returns c =
    c.get.ensures.value
    ∙ found-keyed key_eq key_of (λ k row. same_key row.key k) (λ k row. key_eq-same k row.key)
    c.args.key.now
    c.self.inside.rows.entries c.self.invariant.keyed
    ∙ ap (λ s. find (λ row. same_key row.key c.args.key.now) s.rows) c.self.view_is
