use Rattle.std.proofs.Common.{◌≡◌, IfOk, map, subst}
use Rattle.std.specs.Map.Iter.{deref}
use Rattle.acq_book.specs.Lookups.{postings_behind_at}
use Rattle.acq_list_book.proofs.list_tables.ListTables.postings_behind.Goals as goal

pub returns : goal.returns
returns c =
    subst (λ t. IfOk c.in_order_of_numbers.result (λ rows.
    map deref rows.items ≡ postings_behind_at t c.args.merchant c.args.day)) c.self.view_is
    (c.in_order_of_numbers.ensures _ c.behind.ensures)
