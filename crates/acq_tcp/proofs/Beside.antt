-- What control connections reach, and gateways beside them.
use Rattle.std.proofs.Common.{List, [], ◌∷◌, Result, Ok, Err}
use Rattle.acq_book.specs.declared.book_fault.BookFault.{BookFault}
use Rattle.acq_core.specs.declared.event.Event.{Event}
use Rattle.acq_core.specs.Tables.{Tables}
use Rattle.acq_front.specs.Stops.{Left}
use Rattle.acq_controls.proofs.Staying.{GoesOn}
use Rattle.acq_gateways.proofs.Staying.{follow_more}
use Rattle.acq_gateways.specs.Following.{LooksOn}
use Rattle.acq_rounds.specs.Reaching.{ReachesBy, ReachesSome}
use Rattle.acq_rounds.specs.Runs.{Between, OthersGoOn}
use Rattle.acq_tcp.specs.Others.{Beside, OthersFollow}

module _ (old : Tables) (left : Left) (a b : Beside) (looks : LooksOn old a.gateways b.gateways) where
  -- gateways were told what there was before these events
  go_beside : (events : List Event) → GoesOn old a.controls b.controls events →
      OthersGoOn OthersFollow old a b events
  go_beside events go = λ t steps is f. record {
    controls = go t steps is f.controls;
    gateways = follow_more t steps (Between events ∷ []) b.gateways
        (looks t steps is f.gateways);
  }

  pub beside_some : ReachesSome old left (GoesOn old a.controls b.controls) →
      ReachesSome old left (OthersGoOn OthersFollow old a b)
  beside_some h = record {
    events = h.events;
    are_such = go_beside h.events h.are_such;
    untold = h.untold;
    in_hand = h.in_hand;
    at_most_one = h.at_most_one;
    tables = h.tables;
    stop = h.stop;
  }

  pub beside_by : (r : Result (Unit {0}) BookFault) →
      ReachesBy old left (GoesOn old a.controls b.controls) r →
      ReachesBy old left (OthersGoOn OthersFollow old a b) r
  beside_by (Ok u) h = record {
    events = h.events;
    are_such = go_beside h.events h.are_such;
    tables = h.tables;
    stop = h.stop;
  }
  beside_by (Err f) h = beside_some h
