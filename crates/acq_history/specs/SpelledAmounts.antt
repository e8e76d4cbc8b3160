-- Which amounts the elements of a message say, digit by digit.
use Rattle.std.specs.Prelude.{◌≡◌, ℕ, true, List, take, Some, None}
use Rattle.std.specs.List.{list_all}
use Rattle.std.specs.Char.{is_ascii_digit}
use Rattle.iso_codec.specs.Message.{IsoMessage, IsMessage, content_of}
use Rattle.day_totals.specs.Digits.{zero_padded}
use Rattle.acq_message.specs.declared.request_message.RequestMessage.{RequestMessage}
use Rattle.acq_message.specs.Elements.{amount_in, remaining_in}
use Rattle.acq_core.specs.declared.event.Event.{Event}
use Rattle.acq_core.specs.declared.arrival.Arrival.TheVariants.{Requested}
use Rattle.acq_core.specs.Arrivals.{arrival_of}
use Rattle.acq_core.specs.Events.{IsEvent}

-- Each request that comes and that the first check passes is a message.
abbrev pub RequestsAreMessages : Type 0
RequestsAreMessages =
    (e : Event) (r : RequestMessage) → IsEvent e → arrival_of e ≡ Requested r →
    IsMessage r.message

-- Element 4 is the amount in twelve digits.
abbrev pub AmountsAreSpelled : Type 0
AmountsAreSpelled =
    (m : IsoMessage) (text : List ℕ) → IsMessage m → content_of m.elements 4 ≡ Some text →
    text ≡ zero_padded 12 (amount_in m)

-- Element 95 begins with what a reversal lets remain, in twelve digits.
abbrev pub RemaindersAreSpelled : Type 0
RemaindersAreSpelled =
    (m : IsoMessage) (text : List ℕ) → IsMessage m → content_of m.elements 95 ≡ Some text →
    list_all is_ascii_digit (take 12 text) ≡ true →
    take 12 text ≡ zero_padded 12 (remaining_in m)

-- Without it nothing remains.
abbrev pub NothingElseRemains : Type 0
NothingElseRemains = (m : IsoMessage) → content_of m.elements 95 ≡ None → remaining_in m ≡ 0
