-- Requests that wait for their issuer's answer, and get none.
use Rattle.std.specs.Prelude.{◌≡◌, ℕ, ◌==◌, List, [], ◌++◌, map, codes, unwrap_or}
use Rattle.std.specs.Prelude.{Result, Ok, Err, if◌then◌else◌}
use Rattle.std.specs.Fmt.{decimal}
use Rattle.acq_message.specs.declared.verdict.Verdict.TheVariants.{NoAnswer}
use Rattle.acq_core.specs.declared.event.Event.{Event}
use Rattle.acq_core.specs.declared.event.Event.TheVariants.{Answer}
use Rattle.acq_core.specs.declared.request.Request.{Request}
use Rattle.acq_core.specs.Tables.{Tables, tables_after}
use Rattle.acq_book.specs.Lookups.{waiting_at}
use Rattle.acq_front.specs.Stops.{Left, LeavesAll, LeavesSome}
use Rattle.acq_faults.specs.declared.fault.Fault.{Fault}

-- its issuer gave a request no answer
abbrev pub unanswered : ℕ → Request → Event
unanswered moment row = Answer moment row.key.merchant (unwrap_or row.reference 0) NoAnswer

-- so of each that waits, in the order in which they came
abbrev pub all_unanswered : ℕ → Tables → List Event
all_unanswered moment t = map (unanswered moment) (waiting_at t)

-- the line that says how many waited; of none nothing is said
abbrev pub ended_line : ℕ → List ℕ
ended_line n =
    if n == 0 then []
    else if n == 1 then codes "acqd: ended 1 request that waited\n"
    else codes "acqd: ended " ++ decimal n ++ codes " requests that waited\n"

-- All that waited were ended, and a stop leaves that; or none was, and a stop leaves that, or all.
abbrev pub EndsWaiting : ℕ → Tables → Left → Result (Unit {0}) Fault → Type 0
EndsWaiting moment old left (Ok u) =
    (left.tables ≡ tables_after old (all_unanswered moment old))
    × LeavesAll left old (all_unanswered moment old)
EndsWaiting moment old left (Err fault) =
    (left.is_open → left.tables ≡ old) × LeavesSome left old [] (all_unanswered moment old)
