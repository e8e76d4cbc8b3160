use Rattle.std.proofs.Common.{rules}
use Rattle.acq_list_book.proofs.list_tables.ListTables.make.Goals as goal

pub returns-in-SetDay-clause-ok : goal.returns-in-SetDay-clause-ok
returns-in-SetDay-clause-ok c = search rules
