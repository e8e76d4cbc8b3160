-- Frames in, reply frames out: one connection over a book.
use Rattle.std.specs.Prelude.{◌≡◌, ℕ, ◌++◌, Result, Ok, Err}
use Rattle.std.specs.List.{All}
use Rattle.acq_core.specs.Tables.{Opening, Tables, new_tables}
use Rattle.acq_serving.specs.Serving.{Connection, Serves}
use Rattle.acq_front.specs.Stops.{Left, open_at}
use Rattle.acq_front.specs.Talk.{Saying}
use Rattle.acq_front.specs.declared.front_fault.FrontFault.{FrontFault}
use Rattle.acq_faults.specs.Faults.{of_front}
use Rattle.acq_commands.specs.Streams.{Stream}
use Rattle.acq_faults.specs.declared.fault.Fault.{Fault}

-- what a book begins with that is made for one run: the greatest limit, and the first day
abbrev pub widest_opening : Opening
widest_opening = record { limit = 999999; first_day = 0 }

-- how a connection ended, as the command tells it
abbrev pub told_of : Result (Unit {0}) FrontFault → Result (Unit {0}) Fault
told_of (Ok u) = Ok u
told_of (Err cause) = Err (of_front cause)

-- Over a book at the old tables one connection was served, at moments that may be given, with what
-- issuers may say; and this is left of the book.
abbrev pub ServesOnce : (ℕ → Type 0) → Saying → (old : Tables) → Left
    → (received sent : Stream) → Result (Unit {0}) Fault → Type 0
ServesOnce may_give may_say old left received sent ended =
    (c : Connection) × (served : Result (Unit {0}) FrontFault)
    × (received.after ≡ received.before ++ c.input) × (sent.after ≡ sent.before ++ c.output)
    × All may_give c.moments × Serves may_say old left c served
    × (ended ≡ told_of served)

-- so over a new book in memory
abbrev pub ServesInMemory : (ℕ → Type 0) → Saying → (received sent : Stream)
    → Result (Unit {0}) Fault → Type 0
ServesInMemory may_give may_say received sent ended =
    (left : Tables) × ServesOnce may_give may_say (new_tables widest_opening) (open_at left)
    received sent ended
