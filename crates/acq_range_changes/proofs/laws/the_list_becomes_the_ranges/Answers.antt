use Rattle.acq_range_changes.proofs.Leading.{changes_lead}
use Rattle.acq_range_changes.proofs.laws.the_list_becomes_the_ranges.Goals as goal

pub returns-clause-ranges : goal.returns-clause-ranges
returns-clause-ranges c = λ t list book_ranges list_ranges.
    (changes_lead t list book_ranges list_ranges).tables

pub returns-clause-taken : goal.returns-clause-taken
returns-clause-taken c = λ t list book_ranges list_ranges.
    (changes_lead t list book_ranges list_ranges).taken
