-- What gateways to issuers show that connect one after the other.
use Rattle.std.specs.Prelude.{ℕ, List, Option, Some, None}
use Rattle.acq_front.specs.Lines.{received_of, sent_of}
use Rattle.acq_gateway.specs.declared.gateway.Gateway.{Gateway}
use Rattle.acq_rounds.specs.Acts.{Connection}
use Rattle.acq_gateways.specs.declared.gateways.Gateways.{Gateways}
use Rattle.acq_gateways.specs.declared.open_gateway.OpenGateway.{OpenGateway}

-- one that is there: its number, what came and what went over its connection, and how it stands
pub record Open : Type 0 where
  pub number : ℕ
  pub came : List ℕ
  pub went : List ℕ
  pub gateway : Gateway

-- how many came, those that went, and the one that is there
pub record Told : Type 0 where
  pub count : ℕ
  pub ended : List Connection
  pub here : Option Open

module _ {S : Type 0} where
  abbrev pub seen : OpenGateway S → Open
  seen o = record {
    number = o.number;
    came = received_of o.line;
    went = sent_of o.line;
    gateway = o.gateway;
  }

  abbrev pub seen_in : Option (OpenGateway S) → Option Open
  seen_in None = None
  seen_in (Some o) = Some (seen o)

  abbrev pub told_of : Gateways S → Told
  told_of g = record { count = g.count; ended = g.past.list; here = seen_in g.here }
