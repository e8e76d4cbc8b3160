-- The lines of an input, and the answers of the host that they were sent to.
use Rattle.std.specs.Prelude.{◌≡◌, ◌⊎◌, ◌++◌, ℕ, Bool, true, false, List, Result, Ok, Err}
use Rattle.acq_commands.specs.Streams.{Stream}
use Rattle.acq_faults.specs.declared.fault.Fault.{Fault}
use Rattle.acq_faults.specs.declared.fault.Fault.TheVariants.{Read, Silent}
use Rattle.acq_control.specs.Telling.{Talk, Tells}

-- the status is 1 where an answer was a fault's line
abbrev pub status_of_talk : Result Bool Fault → Result ℕ Fault
status_of_talk (Ok false) = Ok 0
status_of_talk (Ok true) = Ok 1
status_of_talk (Err fault) = Err fault

-- so it ends; or where a read failed, perhaps since no answer came in time
abbrev pub EndsAs : Result Bool Fault → Result ℕ Fault → Type 0
EndsAs (Err Read) ended = (ended ≡ Err Read) ⊎ (ended ≡ Err Silent)
EndsAs answered ended = ended ≡ status_of_talk answered

-- nobody listens there, or nobody took the connection in time, and nothing was read or written
abbrev pub FindsNobody : (received sent told : Stream) → Result ℕ Fault → Type 0
FindsNobody received sent told ended =
    (received.after ≡ received.before) × (sent.after ≡ sent.before) × (told.after ≡ told.before)
    × (ended ≡ Err Read ⊎ ended ≡ Err Silent)

-- What was read was told to a host, and what it answered was written.
abbrev pub Talks : (received sent told : Stream) → Result ℕ Fault → Type 0
Talks received sent told ended =
    (bytes : List ℕ) × (talk : Talk) × (answered : Result Bool Fault)
    × (received.after ≡ received.before ++ bytes) × (sent.after ≡ sent.before ++ talk.shown)
    × (told.after ≡ told.before ++ talk.told) × Tells bytes talk answered
    × EndsAs answered ended

abbrev pub TellsHost : (received sent told : Stream) → Result ℕ Fault → Type 0
TellsHost received sent told ended =
    FindsNobody received sent told ended ⊎ Talks received sent told ended
