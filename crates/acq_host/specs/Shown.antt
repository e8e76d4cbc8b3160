-- What is shown of a run's fault: the place of the event that wasn't taken and why, and nothing of
-- what was said before it.
use Rattle.std.specs.Prelude.{ℕ, List, ◌++◌, codes}
use Rattle.std.specs.Fmt.{decimal}
use Rattle.acq_book.specs.declared.book_fault.BookFault.{BookFault}
use Rattle.acq_book.specs.declared.book_fault.BookFault.TheVariants.{Memory, Store}

abbrev pub shown_run_fault : ℕ → BookFault → List ℕ
shown_run_fault at Memory = codes "RunFault at " ++ (decimal at ++ codes ": Memory")
shown_run_fault at Store = codes "RunFault at " ++ (decimal at ++ codes ": Store")
