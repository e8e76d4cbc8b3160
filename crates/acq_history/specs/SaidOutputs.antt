-- What goes out is what was told, and what was asked.
use Rattle.std.specs.Prelude.{◌≡◌, ℕ, List, Option, Some}
use Rattle.iso_codec.specs.Message.{IsoMessage}
use Rattle.iso_codec.specs.Reading.{spelling}
use Rattle.acq_core.specs.declared.query.Query.{Query}
use Rattle.acq_core.specs.declared.output.Output.TheVariants as output
use Rattle.acq_core.specs.declared.arrival.Arrival.{Arrival}
use Rattle.acq_core.specs.Known.{Known}
use Rattle.acq_core.specs.Outcome.{Outcome, Asked, outcome, output_of}
use Rattle.acq_history.specs.Entries.{reply_in}

-- A reply, made now or kept, goes out as its own spelling, for the merchant that was named.
abbrev pub RepliesGoOut : Type 0
RepliesGoOut =
    (merchant : Option (List ℕ)) (o : Outcome) (reply : IsoMessage) → reply_in o ≡ Some reply →
    output_of merchant o ≡ output.Reply merchant (spelling reply)

-- What an issuer is asked goes out as it stands.
abbrev pub QueriesGoOut : Type 0
QueriesGoOut =
    (merchant : Option (List ℕ)) (query : Query) →
    output_of merchant (Asked query) ≡ output.Ask query

-- Nothing else goes out as a reply.
abbrev pub OnlyRepliesGoOut : Type 0
OnlyRepliesGoOut =
    (merchant to : Option (List ℕ)) (k : Known) (a : Arrival) (text : List ℕ) →
    output_of merchant (outcome k a) ≡ output.Reply to text →
    (reply : IsoMessage) × (reply_in (outcome k a) ≡ Some reply) × (to ≡ merchant)
    × (text ≡ spelling reply)

-- Nothing else is asked.
abbrev pub OnlyQueriesGoOut : Type 0
OnlyQueriesGoOut =
    (merchant : Option (List ℕ)) (k : Known) (a : Arrival) (query : Query) →
    output_of merchant (outcome k a) ≡ output.Ask query → outcome k a ≡ Asked query
