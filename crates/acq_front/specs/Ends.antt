-- One end of a connection: what it holds, and what is to be written.
use Rattle.std.specs.Prelude.{◌≡◌, ◌++◌, ℕ, true, List, Option}
use Rattle.acq_link.specs.Frames.{fits_frame, frame}
use Rattle.acq_front.specs.Outgoing.{bytes_of, frame_of, gone_from}
use Rattle.acq_front.specs.declared.conversation.Conversation.{Conversation}
use Rattle.acq_front.specs.declared.unanswered.Unanswered.{Unanswered}

-- what came and belongs to no message yet
abbrev pub held_of : Conversation → List ℕ
held_of c = c.input

-- what of a reply is still to be written
abbrev pub unsent_of : Conversation → List ℕ
unsent_of c = bytes_of c.output

-- the frame of the reply in hand, and how many bytes of it were written
abbrev pub hand_of : Conversation → List ℕ
hand_of c = frame_of c.output

abbrev pub gone_of : Conversation → ℕ
gone_of c = gone_from c.output

-- the message that was taken last, if it gets no reply
abbrev pub unanswered_of : Conversation → Option Unanswered
unanswered_of c = c.unanswered

-- some message's whole frame stands in these bytes
abbrev pub HoldsFrame : List ℕ → Type 0
HoldsFrame bytes =
    (before message after : List ℕ) × (fits_frame message ≡ true)
    × (bytes ≡ before ++ (frame message ++ after))
