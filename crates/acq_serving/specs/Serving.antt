-- One connection, from its first byte on.
use Rattle.std.specs.Prelude.{◌≡◌, ◌<◌, ℕ, true, false, List, [], ◌∷◌, ◌++◌, ◌⊎◌, length, take}
use Rattle.std.specs.Prelude.{Result, Ok, Err}
use Rattle.std.specs.List.{list_all}
use Rattle.acq_link.specs.Frames.{frame, framed, Frames, FramesThen, has_frame}
use Rattle.acq_link.specs.Frames.{has_bad_length}
use Rattle.acq_link.specs.Frames.{is_partial}
use Rattle.acq_link.specs.FramesAt.{BeginsWithFrame}
use Rattle.iso_codec.specs.Reading.{reading_of}
use Rattle.iso_codec.specs.declared.decode_fault.DecodeFault.{DecodeFault}
use Rattle.acq_message.specs.declared.verdict.Verdict.{Verdict}
use Rattle.acq_core.specs.declared.event.Event.{Event}
use Rattle.acq_core.specs.declared.event.Event.TheVariants.{Frame}
use Rattle.acq_core.specs.Tables.{Tables, tables_after}
use Rattle.acq_front.specs.declared.front_fault.FrontFault as fault
use Rattle.acq_front.specs.Ends.{HoldsFrame}
use Rattle.acq_front.specs.Stops.{Left, LeavesAll, LeavesSome}
use Rattle.acq_front.specs.Talk.{talk, replies, queries, Saying, AreSaid}
use Rattle.acq_front.specs.Turns.{is_read, IsAnswer}

-- What came and what went out over a connection, what its clock and its issuer gave, which messages
-- were taken, and the bytes that came behind them.
pub record Connection : Type 0 where
  pub input : List ℕ
  pub output : List ℕ
  pub moments : List ℕ
  pub verdicts : List Verdict
  pub messages : List (List ℕ)
  pub rest : List ℕ

-- the events of the messages
abbrev pub events_of : Tables → Connection → List Event
events_of t c = talk t c.messages c.moments c.verdicts

-- some message's whole frame came since
abbrev pub FrameCame : (old new : List ℕ) → Type 0
FrameCame old new = (came : List ℕ) × (new ≡ old ++ came) × HoldsFrame came

-- all of these messages read
abbrev pub AllRead : List (List ℕ) → Type 0
AllRead messages = list_all is_read messages ≡ true

-- What came are the frames of the messages and then the rest. The host took the messages' events,
-- asking the issuer for each answer, and what went out are the frames of the replies to them. A
-- stop leaves all these events.
pub record AllAnswered (may_say : Saying) (old : Tables) (left : Left) (c : Connection) : Type 0
  where
    pub came : FramesThen c.input c.messages c.rest
    pub tables : left.tables ≡ tables_after old (events_of old c)
    pub said : AreSaid may_say (queries old (events_of old c)) c.verdicts
    pub written : Frames c.output (replies old (events_of old c))
    pub stop : LeavesAll left old (events_of old c)

-- So it is, but of the last reply's frame only the first n bytes went out.
pub record CutsLast (may_say : Saying) (old : Tables) (left : Left) (c : Connection) (n : ℕ)
    : Type 0 where
  pub came : FramesThen c.input c.messages c.rest
  pub read : AllRead c.messages
  pub tables : left.tables ≡ tables_after old (events_of old c)
  pub said : AreSaid may_say (queries old (events_of old c)) c.verdicts
  pub earlier : List (List ℕ)
  pub last : List ℕ
  pub replied : replies old (events_of old c) ≡ earlier ++ last ∷ []
  pub short : n < length (frame last)
  pub written : c.output ≡ framed earlier ++ take n (frame last)
  pub stop : LeavesAll left old (events_of old c)

-- behind the messages stands another one's frame: it came at the last of the moments, as this event
pub record IsNext (c : Connection) (e : Event) : Type 0 where
  pub message : List ℕ
  pub behind : List ℕ
  pub begins : BeginsWithFrame c.rest message behind
  pub earlier : List ℕ
  pub moment : ℕ
  pub given : c.moments ≡ earlier ++ moment ∷ []
  pub is : e ≡ Frame moment message

-- So it is, but the last issuer's answer may not have been taken, or the next message. The tables
-- are those of the events that were, where the book is still open; a stop leaves these events, or
-- these and the one that was not taken.
pub record LeavesOff (may_say : Saying) (old : Tables) (left : Left) (c : Connection) : Type 0
  where
    pub came : FramesThen c.input c.messages c.rest
    pub read : AllRead c.messages
    pub events : List Event
    pub missing : List Event
    pub at_most_one : (missing ≡ []) ⊎ ((e : Event) × IsAnswer e × (missing ≡ e ∷ []))
    pub all : events_of old c ≡ events ++ missing
    pub tables : left.is_open → left.tables ≡ tables_after old events
    pub said : AreSaid may_say (queries old events) c.verdicts
    pub written : Frames c.output (replies old events)
    pub in_hand : List Event
    pub which :
        (in_hand ≡ missing)
        ⊎ ((missing ≡ []) × ((e : Event) × IsNext c e × (in_hand ≡ e ∷ [])))
    pub stop : LeavesSome left old events in_hand

-- the last of these messages doesn't read, for this reason, and it alone
pub record LastUnread (messages : List (List ℕ)) (f : DecodeFault) : Type 0 where
  pub before : List (List ℕ)
  pub last : List ℕ
  pub are : messages ≡ before ++ last ∷ []
  pub read : AllRead before
  pub unread : reading_of last ≡ Err f

-- how a connection was served
abbrev pub Serves : Saying → Tables → Left → Connection →
    Result (Unit {0}) fault.FrontFault → Type 0
Serves may_say old left c (Ok u) =
    AllAnswered may_say old left c × AllRead c.messages × (c.rest ≡ [])
Serves may_say old left c (Err fault.TheVariants.Memory) =
    LeavesOff may_say old left c
Serves may_say old left c (Err fault.TheVariants.Store) =
    LeavesOff may_say old left c
Serves may_say old left c (Err fault.TheVariants.BadLength) =
    AllAnswered may_say old left c × AllRead c.messages × (has_bad_length c.rest ≡ true)
Serves may_say old left c (Err fault.TheVariants.Ended) =
    AllAnswered may_say old left c × AllRead c.messages × (is_partial c.rest ≡ true)
Serves may_say old left c (Err (fault.TheVariants.Undecodable f)) =
    AllAnswered may_say old left c × LastUnread c.messages f
Serves may_say old left c (Err fault.TheVariants.Read) =
    AllAnswered may_say old left c × AllRead c.messages × (has_frame c.rest ≡ false)
Serves may_say old left c (Err (fault.TheVariants.Write n)) =
    CutsLast may_say old left c n
