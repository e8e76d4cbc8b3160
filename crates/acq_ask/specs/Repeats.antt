-- One message many times, its trace number counted up.
use Rattle.std.specs.Prelude.{◌≡◌, ◌⊎◌, ◌<◌, ◌≤◌, ◌+◌, ◌==◌, ◌&&◌, nat_lt, ℕ, zero, suc, Bool}
use Rattle.std.specs.Prelude.{true, List, [], ◌∷◌, ◌++◌, length, map, Option, Some, None}
use Rattle.std.specs.Prelude.{Result, Ok, Err, if◌then◌else◌}
use Rattle.std.specs.List.{list_all}
use Rattle.std.specs.Char.{is_ascii_digit}
use Rattle.std.specs.Str.Parse.{digits_value}
use Rattle.day_totals.specs.Digits.{zero_padded}
use Rattle.iso_codec.specs.Message.{IsoMessage, content_of, with_content}
use Rattle.iso_codec.specs.Reading.{reading_of, spelling}
use Rattle.acq_link.specs.Frames.{frame, framed, has_bad_length}
use Rattle.acq_link.specs.FramesAt.{BeginsWithFrame, MayBecomeFrame}
use Rattle.acq_ask.specs.Asking.{IsFront, Talk}
use Rattle.acq_ask.specs.Codes.{code_of, counts_text}
use Rattle.acq_ask.specs.declared.reply_code.ReplyCode.{ReplyCode}
use Rattle.acq_ask.specs.declared.ask_fault.AskFault.{AskFault}
use Rattle.acq_ask.specs.declared.ask_fault.AskFault.TheVariants.{Memory, Read, BadLength, Ended}
use Rattle.acq_ask.specs.declared.ask_fault.AskFault.TheVariants.{Undecodable}

-- ---- trace numbers

-- behind 999999 comes 1
abbrev pub next_number : ℕ → ℕ
next_number trace = if nat_lt trace 999999 then trace + 1 else 1

abbrev pub is_trace : List ℕ → Bool
is_trace text = (length text == 6) && list_all is_ascii_digit text

-- the trace number behind this one, in six digits
abbrev pub next_content : Option (List ℕ) → Option (List ℕ)
next_content None = None
next_content (Some text) =
    if is_trace text then Some (zero_padded 6 (next_number (digits_value 10 text))) else None

abbrev pub with_trace : IsoMessage → Option (List ℕ) → IsoMessage
with_trace message None = message
with_trace message (Some trace) = record {
  kind = message.kind;
  elements = with_content message.elements 11 trace;
}

-- the message with the next trace number; one that has none stays as it is
abbrev pub counted_up : IsoMessage → IsoMessage
counted_up message = with_trace message (next_content (content_of message.elements 11))

-- the message counted up so often
abbrev pub message_at : ℕ → IsoMessage → IsoMessage
message_at zero message = message
message_at (suc k) message = counted_up (message_at k message)

-- so many messages, each spelled, with the trace numbers from that of this one on
abbrev pub repeats : ℕ → IsoMessage → List (List ℕ)
repeats zero message = []
repeats (suc k) message = repeats k message ++ spelling (message_at k message) ∷ []

-- ---- how they go

-- The first messages went out, and these replies came, one to each. Of the next one some bytes may
-- have gone out, and more may have come.
pub record Repeated (message : IsoMessage) (count : ℕ) (sent came : List ℕ)
    (replies : List (List ℕ)) : Type 0 where
  pub next : List ℕ
  pub rest : List ℕ
  pub sent_first : sent ≡ framed (repeats (length replies) message) ++ next
  pub begins : IsFront next (frame (spelling (message_at (length replies) message)))
  pub came_first : came ≡ framed replies ++ rest
  pub bound : length replies ≤ count

-- all of them went out, and each got a reply
abbrev pub RepeatsAll : IsoMessage → ℕ → (sent came : List ℕ) → List (List ℕ) → Type 0
RepeatsAll message count sent came replies =
    (length replies ≡ count) × (sent ≡ framed (repeats count message))
    × ((rest : List ℕ) × (came ≡ framed replies ++ rest))

abbrev pub SendsRepeats : IsoMessage → ℕ → (sent came : List ℕ) → List (List ℕ)
    → Result (Unit {0}) AskFault → Type 0
SendsRepeats message count sent came replies (Ok u) = RepeatsAll message count sent came replies
SendsRepeats message count sent came replies (Err cause) =
    Repeated message count sent came replies

-- How one of them goes, by the message before and behind it, what is held, and the codes that are
-- counted: it went out, its reply came and was counted, and the message was counted up; or some of
-- it went out.
abbrev pub SendsOnce : (before after : IsoMessage) → (held held_after sent came : List ℕ)
    → (counted counted_after : List ReplyCode) → Result (Unit {0}) AskFault → Type 0
SendsOnce before after held held_after sent came counted counted_after (Ok u) =
    (reply : List ℕ) × (sent ≡ frame (spelling before)) × (after ≡ counted_up before)
    × (held ++ came ≡ frame reply ++ held_after)
    × (counted_after ≡ counted ++ code_of reply ∷ [])
SendsOnce before after held held_after sent came counted counted_after (Err cause) =
    IsFront sent (frame (spelling before)) × (counted_after ≡ counted)

-- ---- the input, and what is shown

-- the input is one frame, and its message is this one
abbrev pub SpellsOne : List ℕ → IsoMessage → Type 0
SpellsOne input message =
    (text : List ℕ) × BeginsWithFrame input text [] × (reading_of text ≡ Ok message)

-- no frame stands in front, or bytes stand behind the first one
abbrev pub IsNoFrame : List ℕ → Type 0
IsNoFrame input =
    (has_bad_length input ≡ true)
    ⊎ ((text : List ℕ) × (later : List ℕ) × BeginsWithFrame input text later × (0 < length later))

-- why it gives no message
abbrev pub SpellsNone : List ℕ → AskFault → Type 0
SpellsNone input Memory = Unit {0}
SpellsNone input Read = Unit {0}
SpellsNone input BadLength = IsNoFrame input
SpellsNone input Ended = MayBecomeFrame input
SpellsNone input (Undecodable f) =
    (text : List ℕ) × BeginsWithFrame input text [] × (reading_of text ≡ Err f)
SpellsNone input other = ⊥

-- Its message was sent again and again, and what is shown begins with how many replies came, and
-- how many of them have each code; behind that stands how long they took.
pub record RepeatsSome (count : ℕ) (input : List ℕ) (talk : Talk)
    (result : Result (Unit {0}) AskFault) : Type 0 where
  pub message : IsoMessage
  pub replies : List (List ℕ)
  pub spells : SpellsOne input message
  pub sends : SendsRepeats message count talk.sent talk.came replies result
  pub times : List ℕ
  pub shown : talk.shown ≡ counts_text count (map code_of replies) ++ times

-- The same where the output took only some of it, or memory ran out for it.
pub record ShowsPart (count : ℕ) (input : List ℕ) (talk : Talk) : Type 0 where
  pub message : IsoMessage
  pub replies : List (List ℕ)
  pub sent_all : Result (Unit {0}) AskFault
  pub spells : SpellsOne input message
  pub sends : SendsRepeats message count talk.sent talk.came replies sent_all
  pub times : List ℕ
  pub shown : IsFront talk.shown (counts_text count (map code_of replies) ++ times)

-- how it went
abbrev pub Repeats : ℕ → (input : List ℕ) → Talk → Result (Unit {0}) AskFault → Type 0
Repeats count input talk (Ok u) = RepeatsSome count input talk (Ok u)
Repeats count input talk (Err cause) =
    ((talk ≡ record { sent = []; came = []; shown = [] }) × SpellsNone input cause)
    ⊎ RepeatsSome count input talk (Err cause) ⊎ ShowsPart count input talk
