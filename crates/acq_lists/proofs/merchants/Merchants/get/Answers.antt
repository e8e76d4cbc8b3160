use Rattle.std.proofs.Common.{◌∙◌, ap}
use Rattle.std.specs.Prelude.{find}
use Rattle.std.specs.Str.{bytes_eq}
use Rattle.acq_core.specs.declared.merchant.Merchant.{Merchant}
use Rattle.acq_book.specs.Keys.{merchant_eq}
use Rattle.acq_book.proofs.KeyTests.{text_swap}
use Rattle.acq_lists.proofs.Keyed.{found-keyed}
use Rattle.acq_lists.proofs.merchants.Merchants.get.Goals as goal

pub returns : goal.returns
returns c =
    c.get.ensures.value
    ∙ found-keyed merchant_eq (λ (row : Merchant). row.id) (λ id row. bytes_eq row.id id)
    (λ id row. text_swap id row.id) c.args.id c.self.inside.rows.entries c.self.invariant.keyed
    ∙ ap (λ s. find (λ row. bytes_eq row.id c.args.id) s.rows) c.self.view_is
