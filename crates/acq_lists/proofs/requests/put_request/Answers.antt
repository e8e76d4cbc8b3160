use Rattle.std.proofs.Common.{◌∙◌}
use Rattle.indexmap.proofs.CallerLemmas.{insert_entry-new}
use Rattle.acq_book.specs.Keys.{key_eq}
use Rattle.acq_lists.proofs.Edits.{of_ok}
use Rattle.acq_lists.proofs.requests.put_request.Goals as goal

pub returns-clause-entries : goal.returns-clause-entries
returns-clause-entries c =
    of_ok c.insert.result (c.insert.ensures.succeeds c.requires.room) c.insert.ensures.entries
    ∙ insert_entry-new key_eq c.args.rows.now c.args.key c.args.row c.requires.new
