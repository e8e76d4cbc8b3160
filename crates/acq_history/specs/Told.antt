-- What a terminal is told of a request: the code in its reply.
use Rattle.std.specs.Prelude.{◌≡◌, ℕ, Bool, List, Option, Some, None, option_and_then, codes}
use Rattle.iso_codec.specs.Message.{IsoMessage, content_of}
use Rattle.acq_core.specs.Outcome.{Outcome, Replied}
use Rattle.acq_history.specs.Entries.{reply_in}
use Rattle.acq_history.specs.History.{is_text}

-- element 39 of a reply
abbrev pub code_in : Option IsoMessage → Option (List ℕ)
code_in reply = option_and_then (λ m. content_of m.elements 39) reply

-- the code of the reply, made now or kept
abbrev pub told : Outcome → Option (List ℕ)
told o = code_in (reply_in o)

-- it is told that it is approved
abbrev pub IsTold00 : Outcome → Type 0
IsTold00 o = told o ≡ Some (codes "00")

-- ---- for the first time

-- a reply that is made now, and isn't the one that a repeat gets again
abbrev pub reply_now : Outcome → Option IsoMessage
reply_now (Replied code reply) = Some reply
reply_now outcome = None

-- its code
abbrev pub told_now : Outcome → Option (List ℕ)
told_now o = code_in (reply_now o)

-- it is told now that it is approved
abbrev pub is_told_00 : Outcome → Bool
is_told_00 o = is_text (codes "00") (told_now o)

-- its authorization id
abbrev pub id_now : Outcome → Option (List ℕ)
id_now o = option_and_then (λ m. content_of m.elements 38) (reply_now o)
