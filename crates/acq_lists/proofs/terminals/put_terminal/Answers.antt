use Rattle.std.proofs.Common.{◌∙◌}
use Rattle.indexmap.proofs.CallerLemmas.{insert_entry-new}
use Rattle.acq_lists.specs.Keys.{terminal_eq, key_of_terminal}
use Rattle.acq_lists.proofs.Edits.{of_ok}
use Rattle.acq_lists.proofs.terminals.put_terminal.Goals as goal

pub returns-clause-entries : goal.returns-clause-entries
returns-clause-entries c =
    of_ok c.insert.result (c.insert.ensures.succeeds c.requires.room) c.insert.ensures.entries
    ∙ insert_entry-new terminal_eq c.args.rows.now (key_of_terminal c.args.row) c.args.row
    c.requires.new
