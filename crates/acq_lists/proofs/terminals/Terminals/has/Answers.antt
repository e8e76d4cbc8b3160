use Rattle.std.proofs.Common.{◌∙◌, ap, is_some}
use Rattle.std.specs.Prelude.{◌&&◌}
use Rattle.std.specs.List.{list_any}
use Rattle.std.specs.Map.{values_of}
use Rattle.std.specs.Str.{bytes_eq}
use Rattle.acq_lists.specs.declared.merchant_terminal.MerchantTerminal.{MerchantTerminal}
use Rattle.acq_lists.specs.Keys.{terminal_eq, key_of_terminal}
use Rattle.acq_lists.proofs.KeyTests.{terminal_eq-same}
use Rattle.acq_lists.proofs.Keyed.{found-keyed, found-any}
use Rattle.acq_lists.proofs.terminals.Terminals.has.Goals as goal

pub returns : goal.returns
returns c =
    let s = c.self.inside in
    let k : MerchantTerminal = record { merchant = c.args.merchant; id = c.args.id } in
    let found = found-keyed terminal_eq key_of_terminal
    (λ k row. bytes_eq row.merchant k.merchant && bytes_eq row.id k.id) terminal_eq-same k
    s.rows.entries
    c.self.invariant.keyed in
    c.contains_key.ensures ∙ (ap is_some found
    ∙ (found-any (λ row. bytes_eq row.merchant k.merchant && bytes_eq row.id k.id)
    (values_of s.rows.entries)
    ∙ ap (λ t. list_any (λ row. bytes_eq row.merchant k.merchant && bytes_eq row.id k.id) t.rows)
    c.self.view_is))
