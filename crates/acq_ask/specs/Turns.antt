-- What went to a host and came from it, turn by turn: a message, and its reply or why it has none.
use Rattle.std.specs.Prelude.{◌≡◌, ℕ, Bool, true, false, List, [], ◌++◌, codes}
use Rattle.std.specs.Prelude.{take, Result, Ok, Err, Vec}
use Rattle.std.specs.Fmt.{decimal}
use Rattle.std.specs.declared.alloc.Global.{Global}
use Rattle.acq_link.specs.declared.deframe_fault.DeframeFault as deframe
use Rattle.acq_link.specs.Frames.{frame, has_bad_length}
use Rattle.acq_link.specs.FramesAt.{BeginsWithFrame, MayBecomeFrame}
use Rattle.acq_show.specs.Lines.{message_lines}
use Rattle.acq_ask.specs.declared.no_reply.NoReply.{NoReply}
use Rattle.acq_ask.specs.declared.no_reply.NoReply.TheVariants.{Memory, Unsent, Silent, Ended}
use Rattle.acq_ask.specs.declared.no_reply.NoReply.TheVariants.{BadLength, Read}

abbrev pub is_silent : NoReply → Bool
is_silent Silent = true
is_silent other = false

abbrev pub of_deframer : deframe.DeframeFault → NoReply
of_deframer deframe.TheVariants.Memory = Memory
of_deframer deframe.TheVariants.BadLength = BadLength

-- ---- what came of a message

-- a reply, or why there is none
abbrev pub Outcome : Type 0
Outcome = Result (List ℕ) NoReply

-- as a call gives it
abbrev pub outcome_of : Result (Vec ℕ Global) NoReply → Outcome
outcome_of (Ok reply) = Ok reply.items
outcome_of (Err cause) = Err cause

-- the next message may be sent
abbrev pub goes_on : Outcome → Bool
goes_on (Ok reply) = true
goes_on (Err cause) = is_silent cause

abbrev pub lacks_reply : Outcome → Bool
lacks_reply (Ok reply) = false
lacks_reply (Err cause) = true

-- ---- what is shown of it

-- why there is no reply, in words; a reply was waited for so many seconds
abbrev pub words_of : ℕ → NoReply → List ℕ
words_of within Memory = codes "no reply: out of memory\n\n"
words_of within (Unsent n) = codes "no reply: the host doesn't take the message\n\n"
words_of within Silent = codes "no reply within " ++ decimal within ++ codes " s\n\n"
words_of within Ended = codes "no reply: the host ended the connection\n\n"
words_of within BadLength = codes "no reply: what came is no frame\n\n"
words_of within Read = codes "no reply: the connection broke\n\n"

abbrev pub outcome_lines : ℕ → Outcome → List ℕ
outcome_lines within (Ok reply) = message_lines reply
outcome_lines within (Err cause) = words_of within cause

-- a message and what came of it, as a person is shown it
abbrev pub shown_by : ℕ → List ℕ → Outcome → List ℕ
shown_by within message outcome = message_lines message ++ outcome_lines within outcome

-- ---- what of it went over the line

-- the frame of the message, or as much of it as the host took
abbrev pub sent_by : List ℕ → Outcome → List ℕ
sent_by message (Err (Unsent n)) = take n (frame message)
sent_by message outcome = frame message

-- the frame of the reply
abbrev pub came_by : Outcome → List ℕ
came_by (Ok reply) = frame reply
came_by (Err cause) = []

-- why no reply can be had of the bytes that came
abbrev pub Lacks : List ℕ → NoReply → Type 0
Lacks bytes Ended = MayBecomeFrame bytes
Lacks bytes BadLength = has_bad_length bytes ≡ true
Lacks bytes other = Unit {0}

-- the same of what came of a message
abbrev pub LacksBy : List ℕ → Outcome → Type 0
LacksBy bytes (Ok reply) = Unit {0}
LacksBy bytes (Err cause) = Lacks bytes cause

-- what waiting for a reply gives, and what of the bytes is left
abbrev pub Comes : List ℕ → (after : List ℕ) → Outcome → Type 0
Comes bytes after (Ok reply) = BeginsWithFrame bytes reply after
Comes bytes after (Err cause) = (bytes ≡ after) × Lacks bytes cause
