-- What a gate in memory shows.
use Rattle.std.specs.Prelude.{ℕ, ◌-◌, Bool, List, vec_len}
use Rattle.acq_front.specs.Ends as conversation
use Rattle.acq_front.specs.Lines.{received_of, sent_of}
use Rattle.acq_front.specs.declared.conversation.Conversation.{Conversation}
use Rattle.acq_front.specs.declared.stream_line.StreamLine.{StreamLine}
use Rattle.acq_rounds.specs.Acts.{Connection}
use Rattle.acq_rounds.specs.Runs.{Following}
use Rattle.acq_rounds.specs.declared.place.Place.{Place}
use Rattle.acq_memory_lines.specs.declared.memory_gate.MemoryGate.{MemoryGate}
use Rattle.acq_memory_lines.specs.declared.memory_stream.MemoryStream.{MemoryStream}

abbrev pub ended_at : MemoryGate → List Connection
ended_at g = g.past.list

-- how many it gave
abbrev pub given_at : MemoryGate → ℕ
given_at g = g.all - vec_len g.coming

abbrev pub stopped_at : MemoryGate → Bool
stopped_at g = g.has_stopped

-- it serves nobody else
abbrev pub others_at : MemoryGate → Unit {0}
others_at g = tt

abbrev pub follow : Following (Unit {0})
follow t steps others = Unit {0}

-- a connection, as a gate sees it
abbrev pub connection_of : Place (StreamLine MemoryStream) Conversation → Connection
connection_of p = record {
  number = p.number;
  came = received_of p.line;
  held = conversation.held_of p.talk;
  went = sent_of p.line;
  unsent = conversation.unsent_of p.talk;
  stage = p.stage;
}
