-- The messages of an input, and what came back of the host that they were sent to.
use Rattle.std.specs.Prelude.{◌≡◌, ◌⊎◌, ◌++◌, ℕ, Bool, true, false, List, Option, Some, None, Result}
use Rattle.std.specs.Prelude.{Ok, Err}
use Rattle.acq_ask.specs.Asking.{Asks, Talk}
use Rattle.acq_ask.specs.Repeats.{Repeats}
use Rattle.acq_ask.specs.declared.ask_fault.AskFault.{AskFault}
use Rattle.acq_ask.specs.declared.ask_fault.AskFault.TheVariants as ask
use Rattle.acq_ask.specs.declared.no_reply.NoReply.{NoReply}
use Rattle.acq_ask.specs.declared.no_reply.NoReply.TheVariants as no_reply
use Rattle.acq_commands.specs.Streams.{Stream}
use Rattle.acq_faults.specs.declared.fault.Fault.{Fault}
use Rattle.acq_faults.specs.declared.fault.Fault.TheVariants.{Memory, BadLength, Ended, Undecodable}
use Rattle.acq_faults.specs.declared.fault.Fault.TheVariants.{Read, Write, Silent}
use Rattle.acq_program.specs.declared.ask_options.AskOptions.{AskOptions}

-- why a message got no reply, as the command tells it
abbrev pub of_no_reply : NoReply → Fault
of_no_reply no_reply.Memory = Memory
of_no_reply (no_reply.Unsent n) = Write n
of_no_reply no_reply.Silent = Silent
of_no_reply no_reply.Ended = Ended
of_no_reply no_reply.BadLength = BadLength
of_no_reply no_reply.Read = Read

-- why no more messages were sent
abbrev pub of_ask : AskFault → Fault
of_ask ask.Memory = Memory
of_ask ask.Read = Read
of_ask ask.BadLength = BadLength
of_ask ask.Ended = Ended
of_ask (ask.Undecodable cause) = Undecodable cause
of_ask (ask.Write n) = Write n
of_ask (ask.NoReply cause) = of_no_reply cause

-- that a message got no reply in time is told at the end
abbrev pub end_of_asking : Result Bool AskFault → Result (Unit {0}) Fault
end_of_asking (Ok false) = Ok tt
end_of_asking (Ok true) = Err Silent
end_of_asking (Err cause) = Err (of_ask cause)

abbrev pub end_of_repeating : Result (Unit {0}) AskFault → Result (Unit {0}) Fault
end_of_repeating (Ok u) = Ok tt
end_of_repeating (Err cause) = Err (of_ask cause)

-- nobody listens there, or nobody took the connection in time, and nothing was read or written
abbrev pub FindsNoHost : (received sent : Stream) → Result (Unit {0}) Fault → Type 0
FindsNoHost received sent ended =
    (received.after ≡ received.before) × (sent.after ≡ sent.before)
    × (ended ≡ Err Read ⊎ ended ≡ Err Silent)

-- how what was read went, each message once, or one again and again, and the end of it
abbrev pub Goes : Option ℕ → ℕ → (input : List ℕ) → Talk → Result (Unit {0}) Fault → Type 0
Goes None within input talk ended =
    (asked : Result Bool AskFault) × Asks within input talk asked × (ended ≡ end_of_asking asked)
Goes (Some count) within input talk ended =
    (repeated : Result (Unit {0}) AskFault) × Repeats count input talk repeated
    × (ended ≡ end_of_repeating repeated)

-- What was read was sent to a host, and what is shown of it and of what came back was written.
abbrev pub Exchanged : AskOptions → (received sent : Stream) → Result (Unit {0}) Fault → Type 0
Exchanged asked received sent ended =
    (bytes : List ℕ) × (talk : Talk) × (received.after ≡ received.before ++ bytes)
    × (sent.after ≡ sent.before ++ talk.shown) × Goes asked.repeat asked.within bytes talk ended

abbrev pub AsksHost : AskOptions → (received sent : Stream) → Result (Unit {0}) Fault → Type 0
AsksHost asked received sent ended =
    FindsNoHost received sent ended ⊎ Exchanged asked received sent ended
