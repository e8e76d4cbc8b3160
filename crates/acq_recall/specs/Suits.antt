-- What a change is asked for where it isn't known that it fits.
use Rattle.acq_core.specs.declared.change.Change.{Change}
use Rattle.acq_core.specs.Pasts.{HasPast}
use Rattle.acq_core.specs.Tables.{Tables, after}
use Rattle.acq_book.specs.Fits.{Fits}

-- the change fits these tables, and leads to such as events lead to
abbrev pub Suits : Tables → Change → Type 0
Suits t change = Fits t change × HasPast (after t change)
