-- Repeats change nothing of what the merchant gets of all else.
use Rattle.std.specs.Prelude.{◌≡◌, ℕ, Bool, false, ◌&&◌, List, [], ◌∷◌, Option, Some, None, is_some}
use Rattle.std.specs.Prelude.{if◌then◌else◌}
use Rattle.acq_core.specs.declared.event.Event.{Event}
use Rattle.acq_core.specs.declared.output.Output.{Output}
use Rattle.acq_message.specs.Elements.{key_of}
use Rattle.acq_core.specs.declared.arrival.Arrival.{Arrival}
use Rattle.acq_message.specs.declared.request_message.RequestMessage.{RequestMessage}
use Rattle.acq_core.specs.Arrivals.{arrival_of}
use Rattle.acq_core.specs.Tables.{Opening}
use Rattle.acq_history.specs.Entries.{Entry, request_of}
use Rattle.acq_history.specs.History.{recorded}
use Rattle.acq_history.specs.PartyHistory.{Party, own, entry_for, history_of, with_output}
use Rattle.acq_history.specs.PartyHistory.{outputs_alone}

-- a request's key is recorded
abbrev pub has_recorded : Option RequestMessage → List Entry → Bool
has_recorded None h = false
has_recorded (Some r) h = is_some (recorded (key_of r.service r.message) h)

-- the key check decides on what came: its key is recorded
abbrev pub is_by_key : List Entry → Arrival → Bool
is_by_key h a = has_recorded (request_of a) h

-- the events, but for those of the chosen places that the key check decides on
abbrev pub without_repeats : Opening → List Entry → List Bool → List Event → List Event
without_repeats opening h [] es = es
without_repeats opening h (out ∷ outs) [] = []
without_repeats opening h (out ∷ outs) (e ∷ es) =
    let rest = without_repeats opening (entry_for opening h (arrival_of e) ∷ h) outs es in
    if out && is_by_key h (arrival_of e) then rest else e ∷ rest

-- what a party gets of all events, but for those places
abbrev pub outputs_besides : Opening → Party → List Entry → List Bool → List Event → List Output
outputs_besides opening party h [] es = outputs_alone opening party h es
outputs_besides opening party h (out ∷ outs) [] = []
outputs_besides opening party h (out ∷ outs) (e ∷ es) =
    let entry = entry_for opening h (arrival_of e) in
    let rest = outputs_besides opening party (entry ∷ h) outs es in
    if out && is_by_key h (arrival_of e) then rest else with_output party entry rest

-- Taking out any of the requests that the key check decides on changes nothing of what the merchant
-- gets of all others.
abbrev pub RepeatsAreQuiet : List ℕ → Type 0
RepeatsAreQuiet m =
    (opening : Opening) (past further : List Event) (outs : List Bool) →
    let h = history_of opening (Some m) past in
    outputs_alone opening (Some m) h (without_repeats opening h outs (own (Some m) further))
    ≡ outputs_besides opening (Some m) h outs (own (Some m) further)
