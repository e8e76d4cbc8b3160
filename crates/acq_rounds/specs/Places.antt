-- What a connection shows.
use Rattle.std.specs.Prelude.{◌≡◌, ◌++◌, ℕ, List, false, map}
use Rattle.std.specs.List.{AllByRecursion}
use Rattle.std.specs.Global.{Box}
use Rattle.acq_front.specs.declared.line.Line as line
use Rattle.acq_rounds.specs.declared.talk.Talk as talk
use Rattle.acq_rounds.specs.declared.place.Place.{Place}
use Rattle.acq_rounds.specs.declared.rounds.Rounds.{Rounds}
use Rattle.acq_rounds.specs.Acts.{Connection}
use Rattle.acq_rounds.specs.Groups.{is_ready}

module _ {L T : Type 0} (lines : line.Ghosts L) (talks : talk.Ghosts T) where
  -- a connection, by what its line received and sent, what its conversation holds, and what is
  -- waited for
  abbrev pub seen : Place L T → Connection
  seen p = record {
    number = p.number;
    came = lines.received p.line;
    held = talks.held p.talk;
    went = lines.sent p.line;
    unsent = talks.unsent p.talk;
    stage = p.stage;
  }

  abbrev pub boxed : Box (Place L T) → Connection
  boxed b = seen b.value

  -- those whose lines may have something to do, and the others
  abbrev pub awake_in : Rounds L T → List Connection
  awake_in r = map boxed r.awake.items

  abbrev pub asleep_in : Rounds L T → List Connection
  asleep_in r = map boxed r.asleep.items

  abbrev pub seen_in : Rounds L T → List Connection
  seen_in r = awake_in r ++ asleep_in r

  -- how many connections were had
  abbrev pub count_of : Rounds L T → ℕ
  count_of r = r.count

-- none of these has a turn ready
abbrev pub AreQuiet : List Connection → Type 0
AreQuiet cs = AllByRecursion (λ c. is_ready c ≡ false) cs
