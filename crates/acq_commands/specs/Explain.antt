-- What the host would say to the events of an input, and why.
use Rattle.std.specs.Prelude.{◌≡◌, ℕ, Bool, true, false, List, ◌++◌, map}
use Rattle.std.specs.Prelude.{Ok}
use Rattle.std.specs.List.{flat_map}
use Rattle.acq_core.specs.declared.event.Event.{Event}
use Rattle.acq_core.specs.declared.event.Event.TheVariants.{Frame}
use Rattle.acq_core.specs.Tables.{Tables}
use Rattle.acq_explain.specs.Explained.{explained_in}
use Rattle.acq_link.specs.Frames.{Frames}
use Rattle.acq_link.specs.HexLines.{messages_of_text}
use Rattle.acq_out.specs.EventLines.{events_of_text}
use Rattle.acq_commands.specs.Show.{is_text}
use Rattle.acq_commands.specs.Streams.{Stream}
use Rattle.acq_commands.specs.declared.input_form.InputForm.{InputForm}
use Rattle.acq_commands.specs.declared.input_form.InputForm.TheVariants as form

-- messages that come at a moment
abbrev pub came_at : ℕ → List (List ℕ) → List Event
came_at moment messages = map (λ message. Frame moment message) messages

-- These are the messages of frames, which come at a moment.
abbrev pub AreFrames : ℕ → List ℕ → List Event → Type 0
AreFrames moment bytes events =
    (messages : List (List ℕ)) × Frames bytes messages × (events ≡ came_at moment messages)

-- Those of lines in hexadecimal.
abbrev pub AreHexLines : ℕ → List ℕ → List Event → Type 0
AreHexLines moment lines events =
    (messages : List (List ℕ)) × (messages_of_text lines ≡ Ok messages)
    × (events ≡ came_at moment messages)

-- event lines, or frames
abbrev pub ArePlain : Bool → ℕ → List ℕ → List Event → Type 0
ArePlain true moment text events = events_of_text text ≡ Ok events
ArePlain false moment bytes events = AreFrames moment bytes events

-- These events stand in an input: messages come at a moment, event lines have their own.
abbrev pub AreEventsOf : InputForm → ℕ → List ℕ → List Event → Type 0
AreEventsOf form.Plain moment input events = ArePlain (is_text input) moment input events
AreEventsOf form.HexLines moment input events = AreHexLines moment input events

-- what is said of events, each looked at by itself over these tables
abbrev pub explanations : Tables → List Event → List ℕ
explanations t events = flat_map (explained_in t) events

-- All events of the input that was read were explained.
pub record ExplainsAll (t : Tables) (form : InputForm) (moment : ℕ) (received sent : Stream)
    : Type 0 where
  pub input : List ℕ
  pub events : List Event
  pub read : received.after ≡ received.before ++ input
  pub are : AreEventsOf form moment input events
  pub written : sent.after ≡ sent.before ++ explanations t events
