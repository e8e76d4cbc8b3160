-- Event lines (own profile): CSV as the crate `csv` reads it, with no header line, a record of six
-- fields for each event. Fields that a line doesn't use are empty.
use Rattle.std.specs.Prelude.{ℕ, List, [], ◌∷◌, codes, Option, Some, None, option_map, Result}
use Rattle.std.specs.Prelude.{if◌then◌else◌}
use Rattle.std.specs.List.{list_all}
use Rattle.std.specs.Str.{bytes_eq}
use Rattle.card_no.specs.Prefix.{prefix_of_text}
use Rattle.card_no.specs.RangeFiles.{range_of_fields}
use Rattle.acq_out.specs.Records.{values_of_text}
use Rattle.acq_message.specs.declared.verdict.Verdict.{Verdict}
use Rattle.acq_core.specs.declared.event.Event.{Event}
use Rattle.acq_core.specs.declared.event.Event.TheVariants as event
use Rattle.acq_out.specs.Fields.{is_empty, moment_of_text, message_of_hex, merchant_of_text}
use Rattle.acq_out.specs.Fields.{terminal_of_text, number_of_text, verdict_of_texts}
use Rattle.acq_out.specs.Fields.{currency_of_text, first_reference_of_text}
use Rattle.acq_out.specs.declared.line_name.LineName.{LineName}
use Rattle.acq_out.specs.declared.line_name.LineName.TheVariants as name

-- ---- an event, where each of its parts is there

abbrev pub frame_event : Option ℕ → Option (List ℕ) → Option Event
frame_event (Some moment) (Some message) = Some (event.Frame moment message)
frame_event _ _ = None

abbrev pub answer_event
    : Option ℕ → Option (List ℕ) → Option ℕ → Option Verdict → Option Event
answer_event (Some moment) (Some merchant) (Some reference) (Some verdict) =
    Some (event.Answer moment merchant reference verdict)
answer_event _ _ _ _ = None

abbrev pub drop_range_event : Option ℕ → Option ℕ → Option Event
drop_range_event (Some low) (Some high) = Some (event.DropRange low high)
drop_range_event _ _ = None

abbrev pub enrol_event : Option (List ℕ) → Option (List ℕ) → Option ℕ → Option Event
enrol_event (Some merchant) (Some currency) (Some first) =
    Some (event.Enrol merchant currency first)
enrol_event _ _ _ = None

abbrev pub terminal_event : Option (List ℕ) → Option (List ℕ) → Option Event
terminal_event (Some merchant) (Some terminal) = Some (event.AddTerminal merchant terminal)
terminal_event _ _ = None

-- ---- lines

-- which event a line is of, as its first field names it
abbrev pub name_of_text : List ℕ → Option LineName
name_of_text text =
    if bytes_eq text (codes "frame") then Some name.Frame
    else if bytes_eq text (codes "answer") then Some name.Answer
    else if bytes_eq text (codes "cutover") then Some name.Cutover
    else if bytes_eq text (codes "addrange") then Some name.AddRange
    else if bytes_eq text (codes "droprange") then Some name.DropRange
    else if bytes_eq text (codes "enrol") then Some name.Enrol
    else if bytes_eq text (codes "terminal") then Some name.Terminal
    else None

-- an event, where the fields that its line doesn't use are empty
abbrev pub if_unused : List (List ℕ) → Option Event → Option Event
if_unused unused event = if list_all is_empty unused then event else None

-- the event of a line of this name whose other five fields are these
abbrev pub event_of_line : Option LineName → (a b c d e : List ℕ) → Option Event
event_of_line (Some name.Frame) moment hex c d e =
    if_unused (c ∷ d ∷ e ∷ []) (frame_event (moment_of_text moment) (message_of_hex hex))
event_of_line (Some name.Answer) moment merchant reference verdict text =
    answer_event (moment_of_text moment) (merchant_of_text merchant) (number_of_text reference)
    (verdict_of_texts verdict text)
event_of_line (Some name.Cutover) moment b c d e =
    if_unused (b ∷ c ∷ d ∷ e ∷ []) (option_map event.Cutover (moment_of_text moment))
event_of_line (Some name.AddRange) low high issuer hold e =
    if_unused (e ∷ [])
    (option_map event.AddRange (range_of_fields (low ∷ high ∷ issuer ∷ hold ∷ [])))
event_of_line (Some name.DropRange) low high c d e =
    if_unused (c ∷ d ∷ e ∷ []) (drop_range_event (prefix_of_text low) (prefix_of_text high))
event_of_line (Some name.Enrol) merchant currency first d e =
    if_unused (d ∷ e ∷ []) (enrol_event (merchant_of_text merchant) (currency_of_text currency)
    (first_reference_of_text first))
event_of_line (Some name.Terminal) merchant terminal c d e =
    if_unused (c ∷ d ∷ e ∷ [])
    (terminal_event (merchant_of_text merchant) (terminal_of_text terminal))
event_of_line None a b c d e = None

-- the event that a record spells, if it is of six fields in their form
abbrev pub event_of_fields : List (List ℕ) → Option Event
event_of_fields (name ∷ a ∷ b ∷ c ∷ d ∷ e ∷ []) = event_of_line (name_of_text name) a b c d e
event_of_fields _ = None

-- ---- texts

-- The events of a text's records, or the number of the first record that spells none.
abbrev pub events_of_text : List ℕ → Result (List Event) ℕ
events_of_text text = values_of_text event_of_fields text
