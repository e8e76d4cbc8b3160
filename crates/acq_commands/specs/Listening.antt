-- Connections that are served one after the other.
use Rattle.std.specs.Prelude.{◌≡◌, ◌+◌, ℕ, List, [], ◌∷◌, ◌++◌, length, Result, Ok, Err}
use Rattle.std.specs.List.{All}
use Rattle.acq_core.specs.Tables.{Tables}
use Rattle.acq_front.specs.Faults.{failed_reads, failed_writes}
use Rattle.acq_serving.specs.Serving.{Connection, Serves}
use Rattle.acq_front.specs.Stops.{Left, LeavesAll, open_at}
use Rattle.acq_front.specs.Talk.{Saying}
use Rattle.acq_front.specs.declared.front_fault.FrontFault as front
use Rattle.acq_faults.specs.Ends.{going_on}
use Rattle.acq_faults.specs.declared.fault.Fault.{Fault}

-- a connection that was served, and how it ended
pub record Served : Type 0 where
  pub connection : Connection
  pub ended : Result (Unit {0}) front.FrontFault

-- What passed over connections so far: all that came and all that went out, and how many reads and
-- writes failed.
pub record Traffic : Type 0 where
  pub received : List ℕ
  pub sent : List ℕ
  pub reads : ℕ
  pub writes : ℕ

-- so of connections, by what they received and sent and what failed
abbrev pub traffic : {N : Type 0} → (N → List ℕ) → (N → List ℕ) → (N → ℕ) → (N → ℕ) → N → Traffic
traffic received sent reads writes n = record {
  received = received n;
  sent = sent n;
  reads = reads n;
  writes = writes n;
}

-- with what passed over one more
abbrev pub with_served : Traffic → Served → Traffic
with_served t s = record {
  received = t.received ++ s.connection.input;
  sent = t.sent ++ s.connection.output;
  reads = t.reads + failed_reads s.ended;
  writes = t.writes + failed_writes s.ended;
}

-- with what passed over these, in order
abbrev pub traffic_after : Traffic → List Served → Traffic
traffic_after t [] = t
traffic_after t (s ∷ later) = traffic_after (with_served t s) later

module _ (may_give : ℕ → Type 0) (may_say : Saying) where
  -- one connection was served over the book at the old tables, at moments that may be given
  abbrev pub ServesOne : Tables → Left → Served → Type 0
  ServesOne old left s =
      All may_give s.connection.moments × Serves may_say old left s.connection s.ended

  -- these were served, each over the tables that the one before it left
  abbrev pub ServesEach : Tables → Tables → List Served → Type 0
  ServesEach old new [] = new ≡ old
  ServesEach old new (s ∷ later) =
      (mid : Tables) × ServesOne old (open_at mid) s × ServesEach mid new later

  -- So many were served, and a stop leaves the tables behind them; or the last of them ended the
  -- program. What passed over them is all that passed.
  abbrev pub ServesConnections : Tables → Left → (passed passes : Traffic) → ℕ →
      Result (Unit {0}) Fault → Type 0
  ServesConnections old left passed passes count (Ok u) =
      (all : List Served) × (length all ≡ count) × ServesEach old left.tables all
      × LeavesAll left left.tables [] × (passes ≡ traffic_after passed all)
  ServesConnections old left passed passes count (Err fault) =
      (before : List Served) × (last : Served) × (mid : Tables) × ServesEach old mid before
      × ServesOne mid left last × (going_on last.ended ≡ Err fault)
      × (passes ≡ with_served (traffic_after passed before) last)
