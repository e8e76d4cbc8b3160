-- An event as the host sees it: a frame by what it spells. And whose event it is.
use Rattle.std.specs.Prelude.{ℕ, Bool, true, false, List, Option, Some, None, Result, Ok, Err}
use Rattle.std.specs.Prelude.{if◌then◌else◌}
use Rattle.iso_codec.specs.declared.decode_fault.DecodeFault.{DecodeFault}
use Rattle.iso_codec.specs.Message.{IsoMessage}
use Rattle.iso_codec.specs.Reading.{reading_of}
use Rattle.acq_message.specs.declared.service.Service.{Service}
use Rattle.acq_message.specs.declared.request_message.RequestMessage.{RequestMessage}
use Rattle.acq_message.specs.Services.{service_of}
use Rattle.acq_message.specs.Elements.{merchant_in}
use Rattle.acq_message.specs.FirstCheck.{is_malformed}
use Rattle.acq_core.specs.declared.event.Event.{Event}
use Rattle.acq_core.specs.declared.event.Event.TheVariants as event
use Rattle.acq_core.specs.declared.arrival.Arrival.{Arrival}
use Rattle.acq_core.specs.declared.arrival.Arrival.TheVariants.{Undecoded, Unserved, Malformed}
use Rattle.acq_core.specs.declared.arrival.Arrival.TheVariants.{Requested, Answered, CutOver}
use Rattle.acq_core.specs.declared.arrival.Arrival.TheVariants.{RangeAdded, RangeDropped}
use Rattle.acq_core.specs.declared.arrival.Arrival.TheVariants.{Enrolled, TerminalAdded}

-- a request, by the first check
abbrev pub checked : RequestMessage → Arrival
checked r = if is_malformed r.service r.message then Malformed r else Requested r

-- a message, by the service of its type
abbrev pub arrival_of_message : ℕ → IsoMessage → Option Service → Arrival
arrival_of_message moment m None = Unserved m
arrival_of_message moment m (Some service) =
    checked (record { moment = moment; service = service; message = m })

-- a frame, by what it reads as
abbrev pub arrival_of_reading : ℕ → Result IsoMessage DecodeFault → Arrival
arrival_of_reading moment (Err fault) = Undecoded fault
arrival_of_reading moment (Ok m) = arrival_of_message moment m (service_of m.kind)

-- an event as the host sees it
abbrev pub arrival_of : Event → Arrival
arrival_of (event.Frame moment text) = arrival_of_reading moment (reading_of text)
arrival_of (event.Answer moment merchant reference verdict) =
    Answered moment merchant reference verdict
arrival_of (event.Cutover moment) = CutOver
arrival_of (event.AddRange range) = RangeAdded range
arrival_of (event.DropRange low high) = RangeDropped low high
arrival_of (event.Enrol merchant currency first) =
    Enrolled (record { id = merchant; currency = currency; first_reference = first })
arrival_of (event.AddTerminal merchant terminal) =
    TerminalAdded (record { merchant = merchant; id = terminal })

-- the merchant that an arrival names, if it names one
abbrev pub merchant_named : Arrival → Option (List ℕ)
merchant_named (Undecoded fault) = None
merchant_named (Unserved m) = merchant_in m
merchant_named (Malformed r) = merchant_in r.message
merchant_named (Requested r) = merchant_in r.message
merchant_named (Answered moment merchant reference verdict) = Some merchant
merchant_named CutOver = None
merchant_named (RangeAdded range) = None
merchant_named (RangeDropped low high) = None
merchant_named (Enrolled merchant) = Some merchant.id
merchant_named (TerminalAdded terminal) = Some terminal.merchant

-- cutovers and changes of ranges belong to all
abbrev pub is_shared : Arrival → Bool
is_shared (Undecoded fault) = false
is_shared (Unserved m) = false
is_shared (Malformed r) = false
is_shared (Requested r) = false
is_shared (Answered moment merchant reference verdict) = false
is_shared CutOver = true
is_shared (RangeAdded range) = true
is_shared (RangeDropped low high) = true
is_shared (Enrolled merchant) = false
is_shared (TerminalAdded terminal) = false
