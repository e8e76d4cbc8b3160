-- What terminals' connections show, where they come from, and what their server had of them.
use Rattle.std.specs.Prelude.{ℕ, Bool, List}
use Rattle.mio.specs.declared.net.stream.TcpStream.{TcpStream}
use Rattle.acq_front.specs.Ends as conversation
use Rattle.acq_front.specs.Lines.{received_of, sent_of}
use Rattle.acq_front.specs.declared.stream_line.StreamLine.{StreamLine}
use Rattle.acq_rounds.specs.Acts.{Connection}
use Rattle.acq_rounds.specs.declared.place.Place.{Place}
use Rattle.acq_tcp.specs.declared.arrivals.Arrivals.{Arrivals}
use Rattle.acq_tcp.specs.Others.{Beside, beside_of}
use Rattle.acq_tcp.specs.declared.tcp_server.TcpServer.{TcpServer}
use Rattle.acq_tcp.specs.declared.terminal_talk.TerminalTalk.{TerminalTalk}

-- what came and belongs to no message that was taken
abbrev pub held_in : TerminalTalk → List ℕ
held_in t = conversation.held_of t.conversation

-- what of a reply is still to be written
abbrev pub unsent_in : TerminalTalk → List ℕ
unsent_in t = conversation.unsent_of t.conversation

-- a connection in its place
abbrev pub connection_of : Place (StreamLine TcpStream) TerminalTalk → Connection
connection_of p = record {
  number = p.number;
  came = received_of p.line;
  held = held_in p.talk;
  went = sent_of p.line;
  unsent = unsent_in p.talk;
  stage = p.stage;
}

module _ {T W F : Type 0} where
  -- those that ended
  abbrev pub ended_at : Arrivals T W F → List Connection
  ended_at a = a.past.list

  -- how many came
  abbrev pub given_at : Arrivals T W F → ℕ
  given_at a = a.given

  abbrev pub stopped_at : Arrivals T W F → Bool
  stopped_at a = a.has_stopped

  -- what control connections and gateways have had
  abbrev pub others_at : Arrivals T W F → Beside
  others_at a = beside_of a.others

module _ {T W : Type 0} where
  abbrev pub had_by : TcpServer T W → List Connection
  had_by s = s.past.list

  abbrev pub many_by : TcpServer T W → ℕ
  many_by s = s.had.count

  abbrev pub others_by : TcpServer T W → Beside
  others_by s = beside_of s.others
