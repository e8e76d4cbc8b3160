use Rattle.std.proofs.Common.{◌∙◌, ap, ◌++◌, ◌∷◌, []}
use Rattle.std.specs.List.{list_any}
use Rattle.std.specs.Str.{bytes_eq}
use Rattle.acq_statement.specs.declared.terminal_sums.TerminalSums.{TerminalSums}
use Rattle.acq_statement.proofs.SumsOfTerminals.{has_push}
use Rattle.acq_statement.proofs.posted_sums.add_terminal.Goals as goal

pub returns-in_ok-push-clause-has : goal.returns-in_ok-push-clause-has
returns-in_ok-push-clause-has c =
    let terminal = c.args.terminal in
    let items = c.args.sums.now.items in
    ap (list_any (λ at. bytes_eq at.id terminal))
    (c.in_ok-push.ensures.items ∙ ap (λ (x : TerminalSums). items ++ x ∷ []) c.idle.ensures)
    ∙ has_push terminal items
