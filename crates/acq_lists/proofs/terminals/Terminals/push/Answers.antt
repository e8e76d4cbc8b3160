use Rattle.std.proofs.Common.{◌∙◌, ◌++◌, ◌∷◌, [], ap, sym, refl, subst, arith, is_some}
use Rattle.std.specs.Prelude.{◌&&◌}
use Rattle.std.specs.List.{list_any}
use Rattle.std.specs.Map.{values_of}
use Rattle.std.specs.Str.{bytes_eq}
use Rattle.acq_lists.specs.Keys.{terminal_eq, key_of_terminal, IsKeyedBy}
use Rattle.acq_lists.proofs.KeyTests.{terminal_eq-same}
use Rattle.acq_lists.proofs.Keyed.{found-keyed, keyed-push, values-push, found-any, none-found}
use Rattle.acq_lists.proofs.terminals.Terminals.push.Goals as goal

pub put_terminal-requires-clause-new : goal.put_terminal-requires-clause-new
put_terminal-requires-clause-new c =
    let s = c.self.inside in
    let k = key_of_terminal c.args.row in
    let found = found-keyed terminal_eq key_of_terminal
    (λ k row. bytes_eq row.merchant k.merchant && bytes_eq row.id k.id) terminal_eq-same k
    s.rows.entries
    c.self.invariant.keyed in
    none-found _ (ap is_some found
    ∙ (found-any (λ row. bytes_eq row.merchant k.merchant && bytes_eq row.id k.id)
    (values_of s.rows.entries)
    ∙ (ap (λ t. list_any (λ row. bytes_eq row.merchant k.merchant && bytes_eq row.id k.id) t.rows)
    c.self.view_is
    ∙ c.requires.new)))

pub invariant_of-self : goal.invariant_of-self
invariant_of-self c =
    let s = c.self.inside in
    let y = c.args.row in
    record {
      keyed = subst (IsKeyedBy key_of_terminal) (sym c.put_terminal.ensures.entries)
          (keyed-push key_of_terminal s.rows.entries
          (key_of_terminal y) y refl c.self.invariant.keyed);
      room = omega (arith, c.put_terminal.ensures.spare, c.self.invariant.room);
    }

pub returns-clause-rows : goal.returns-clause-rows
returns-clause-rows c =
    ap values_of c.put_terminal.ensures.entries
    ∙ (values-push c.self.inside.rows.entries (key_of_terminal c.args.row) c.args.row
    ∙ ap (λ s. s.rows ++ c.args.row ∷ []) c.self.view_is)
