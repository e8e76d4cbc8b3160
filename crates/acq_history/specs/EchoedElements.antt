-- A reply has what its request said of these elements, as it came.
use Rattle.std.specs.Prelude.{◌≡◌, ◌==◌, ℕ, true, List, [], ◌∷◌, Option, Some, None}
use Rattle.std.specs.List.{list_any}
use Rattle.iso_codec.specs.Message.{IsoMessage, content_of}
use Rattle.acq_message.specs.declared.service.Service.{Service}
use Rattle.acq_message.specs.declared.service.Service.TheVariants.{Completion, NetworkManagement}
use Rattle.acq_message.specs.declared.request_message.RequestMessage.{RequestMessage}
use Rattle.acq_message.specs.declared.verdict.Verdict.{Verdict}
use Rattle.acq_core.specs.declared.event.Event.{Event}
use Rattle.acq_core.specs.declared.arrival.Arrival.{Arrival}
use Rattle.acq_core.specs.declared.arrival.Arrival.TheVariants.{Malformed, Requested, Answered}
use Rattle.acq_core.specs.Known.{Known}
use Rattle.acq_core.specs.Outcome.{outcome}
use Rattle.acq_core.specs.Tables.{Opening}
use Rattle.acq_history.specs.History.{Found, referred}
use Rattle.acq_history.specs.PartyHistory.{known_by, history_of}
use Rattle.acq_history.specs.Told.{reply_now}

-- card, processing code, amount, transmission, trace, local time and date, terminal, merchant and
-- currency
abbrev pub in_every_reply : List ℕ
in_every_reply = 2 ∷ 3 ∷ 4 ∷ 7 ∷ 11 ∷ 12 ∷ 13 ∷ 41 ∷ 42 ∷ 49 ∷ []

-- these, a completion's reference, and the code of network management
abbrev pub comes_back : Service → List ℕ
comes_back Completion = 37 ∷ in_every_reply
comes_back NetworkManagement = 70 ∷ in_every_reply
comes_back service = in_every_reply

-- Of each of these elements the reply has the request's content, or none where that has none.
abbrev pub Echoes : RequestMessage → IsoMessage → Type 0
Echoes r reply =
    (n : ℕ) → list_any (λ k. k == n) (comes_back r.service) ≡ true →
    content_of reply.elements n ≡ content_of r.message.elements n

-- the request that came, whether or not the first check passed it
abbrev pub request_in : Arrival → Option RequestMessage
request_in (Malformed r) = Some r
request_in (Requested r) = Some r
request_in arrival = None

-- A reply that is made when its request comes echoes that, whatever its code is.
abbrev pub RepliesEcho : Type 0
RepliesEcho =
    (k : Known) (a : Arrival) (r : RequestMessage) (reply : IsoMessage) →
    request_in a ≡ Some r → reply_now (outcome k a) ≡ Some reply → Echoes r reply

-- One that is made when an issuer answers echoes the request that was admitted under that
-- reference.
abbrev pub AnsweredRepliesEcho : List ℕ → Type 0
AnsweredRepliesEcho m =
    (opening : Opening) (es : List Event) (moment : ℕ) (merchant : List ℕ) (reference : ℕ)
    (v : Verdict) (reply : IsoMessage) →
    let h = history_of opening (Some m) es in
    let a = Answered moment merchant reference v in
    reply_now (outcome (known_by opening h a) a) ≡ Some reply →
    (f : Found) × (referred reference h ≡ Some f) × Echoes f.request reply
