-- The fields of one line, as the code has them.
use Rattle.std.specs.Prelude.{ℕ, Bool, List, [], ◌∷◌, Option, Some}
use Rattle.std.specs.List.{list_all}
use Rattle.acq_core.specs.declared.event.Event.{Event}
use Rattle.acq_out.specs.Fields.{is_empty}
use Rattle.acq_out.specs.EventLines.{event_of_line}
use Rattle.acq_out.specs.declared.event_line.EventLine.{EventLine}
use Rattle.acq_out.specs.declared.line_name.LineName.{LineName}

-- the six fields
abbrev pub texts_of : EventLine → List (List ℕ)
texts_of line =
    line.name.now ∷ line.first.now ∷ line.second.now ∷ line.third.now ∷ line.fourth.now
    ∷ line.fifth.now ∷ []

-- the event of the line, were this its name
abbrev pub event_by : LineName → EventLine → Option Event
event_by name line =
    event_of_line (Some name) line.first.now line.second.now line.third.now line.fourth.now
    line.fifth.now

-- nothing stands behind the second field
abbrev pub ends_at_second : EventLine → Bool
ends_at_second line =
    list_all is_empty (line.third.now ∷ line.fourth.now ∷ line.fifth.now ∷ [])
