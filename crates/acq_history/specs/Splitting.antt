-- Merchants that are split over several hosts.
use Rattle.std.specs.Prelude.{◌≡◌, ℕ, ◌==◌, ◌||◌, List, filter}
use Rattle.acq_core.specs.declared.event.Event.{Event}
use Rattle.acq_core.specs.Arrivals.{arrival_of, merchant_named, is_shared}
use Rattle.acq_core.specs.Tables.{Opening, new_tables, outputs}
use Rattle.acq_history.specs.PartyHistory.{Party, outputs_at}

-- what one of several hosts is given: the events of the parties that are assigned to it, and the
-- shared ones
abbrev pub given : (Party → ℕ) → ℕ → List Event → List Event
given host_of host es =
    filter (λ e. is_shared (arrival_of e) || (host_of (merchant_named (arrival_of e)) == host)) es

-- However parties are split over hosts, each gets from its host what it gets from one host that is
-- given everything.
abbrev pub SplitsOverHosts : Type 0
SplitsOverHosts =
    (host_of : Party → ℕ) (party : Party) (opening : Opening) (es : List Event) →
    let mine = given host_of (host_of party) es in
    outputs_at party mine (outputs (new_tables opening) mine)
    ≡ outputs_at party es (outputs (new_tables opening) es)
