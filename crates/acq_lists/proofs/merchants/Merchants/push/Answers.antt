use Rattle.std.proofs.Common.{◌∙◌, ◌++◌, ◌∷◌, [], ap, sym, refl, subst, arith}
use Rattle.std.specs.Prelude.{find}
use Rattle.std.specs.Map.{values_of}
use Rattle.std.specs.Str.{bytes_eq}
use Rattle.acq_core.specs.declared.merchant.Merchant.{Merchant}
use Rattle.acq_book.specs.Keys.{merchant_eq}
use Rattle.acq_lists.specs.Keys.{IsKeyedBy}
use Rattle.acq_book.proofs.KeyTests.{text_swap}
use Rattle.acq_lists.proofs.Keyed.{found-keyed, keyed-push, values-push}
use Rattle.acq_lists.proofs.merchants.Merchants.push.Goals as goal

pub put_merchant-requires-clause-new : goal.put_merchant-requires-clause-new
put_merchant-requires-clause-new c =
    found-keyed merchant_eq (λ (row : Merchant). row.id) (λ id row. bytes_eq row.id id)
    (λ id row. text_swap id row.id) c.args.row.id c.self.inside.rows.entries c.self.invariant.keyed
    ∙ (ap (λ s. find (λ row. bytes_eq row.id c.args.row.id) s.rows) c.self.view_is ∙ c.requires.new)

pub invariant_of-self : goal.invariant_of-self
invariant_of-self c =
    let s = c.self.inside in
    let y = c.args.row in
    record {
      keyed = subst (IsKeyedBy (λ (row : Merchant). row.id)) (sym c.put_merchant.ensures.entries)
          (keyed-push (λ (row : Merchant). row.id) s.rows.entries y.id y refl
          c.self.invariant.keyed);
      room = omega (arith, c.put_merchant.ensures.spare, c.self.invariant.room);
    }

pub returns-clause-rows : goal.returns-clause-rows
returns-clause-rows c =
    ap values_of c.put_merchant.ensures.entries
    ∙ (values-push c.self.inside.rows.entries c.args.row.id c.args.row
    ∙ ap (λ s. s.rows ++ c.args.row ∷ []) c.self.view_is)
