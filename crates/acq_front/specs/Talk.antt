-- The events of one connection: each frame that comes, and behind it, where its issuer is to be
-- asked, the issuer's answer. And what is replied to them.
use Rattle.std.specs.Prelude.{◌≡◌, ◌⊎◌, ℕ, List, [], ◌∷◌, ◌++◌}
use Rattle.std.specs.List.{flat_map}
use Rattle.acq_message.specs.declared.verdict.Verdict.{Verdict}
use Rattle.acq_message.specs.declared.verdict.Verdict.TheVariants.{NoAnswer}
use Rattle.acq_core.specs.declared.event.Event.{Event}
use Rattle.acq_core.specs.declared.event.Event.TheVariants.{Frame, Answer}
use Rattle.acq_core.specs.declared.query.Query.{Query}
use Rattle.acq_core.specs.declared.output.Output.{Output}
use Rattle.acq_core.specs.declared.output.Output.TheVariants.{Reply, Ask}
use Rattle.acq_core.specs.Arrivals.{arrival_of}
use Rattle.acq_core.specs.Tables.{Tables, outputs, step_output, step_tables, tables_after}
use Rattle.acq_front.specs.Coming.{next_or, later_than}

-- the first moment that there is, 2000-01-01 at 00:00:00
abbrev pub first_moment : ℕ
first_moment = 946684800

-- what one message makes: its events, the tables after them, and the moments and verdicts that are
-- still to come
pub record Taking : Type 0 where
  pub events : List Event
  pub tables : Tables
  pub moments : List ℕ
  pub verdicts : List Verdict

-- a message came, and the host said this to it: to a query the issuer's verdict is the answer, at a
-- moment of its own
abbrev pub taking_said : Tables → Event → Output → List ℕ → List Verdict → Taking
taking_said t came (Ask query) moments verdicts =
    let moment = next_or first_moment moments in
    let verdict = next_or NoAnswer verdicts in
    let events = came ∷ Answer moment query.merchant query.reference verdict ∷ [] in
    record {
      events = events;
      tables = tables_after t events;
      moments = later_than moments;
      verdicts = later_than verdicts;
    }
taking_said t came other moments verdicts =
    let events = came ∷ [] in
    record {
      events = events;
      tables = tables_after t events;
      moments = moments;
      verdicts = verdicts;
    }

-- one message, by the moments and verdicts to come
abbrev pub taking : Tables → List ℕ → List ℕ → List Verdict → Taking
taking t message moments verdicts =
    let came = Frame (next_or first_moment moments) message in
    taking_said t came (step_output t (arrival_of came)) (later_than moments) verdicts

-- the events of messages, in order, by the moments and verdicts to come
abbrev pub talk : Tables → List (List ℕ) → List ℕ → List Verdict → List Event
talk t [] moments verdicts = []
talk t (message ∷ messages) moments verdicts =
    let first = taking t message moments verdicts in
    first.events ++ talk first.tables messages first.moments first.verdicts

-- the reply that an output is, if it is one
abbrev pub reply_in : Output → List (List ℕ)
reply_in (Reply party text) = text ∷ []
reply_in other = []

-- what is replied to events, in order
abbrev pub replies : Tables → List Event → List (List ℕ)
replies t events = flat_map reply_in (outputs t events)

-- what issuers are asked for an event, to which the host said this
abbrev pub query_for : Event → Output → List Query
query_for (Frame moment message) (Ask query) = query ∷ []
query_for event other = []

-- what issuers are asked, in order
abbrev pub queries : Tables → List Event → List Query
queries t [] = []
queries t (e ∷ es) =
    query_for e (step_output t (arrival_of e)) ++ queries (step_tables t (arrival_of e)) es

-- what an issuer may say to a query
abbrev pub Saying : Type 1
Saying = Query → Verdict → Type 0

-- no answer to any
abbrev pub says_nothing : Saying
says_nothing query verdict = verdict ≡ NoAnswer

-- what it may say in time: this, or no answer
abbrev pub in_time : Saying → Saying
in_time may_say query verdict = may_say query verdict ⊎ (verdict ≡ NoAnswer)

-- to each query one of these verdicts was said, in order, and might be
abbrev pub AreSaid : Saying → List Query → List Verdict → Type 0
AreSaid may_say [] [] = Unit {0}
AreSaid may_say [] (verdict ∷ verdicts) = ⊥
AreSaid may_say (query ∷ queries) [] = ⊥
AreSaid may_say (query ∷ queries) (verdict ∷ verdicts) =
    may_say query verdict × AreSaid may_say queries verdicts
