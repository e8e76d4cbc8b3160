-- What one message makes of a host, and what goes out for it.
use Rattle.std.specs.Prelude.{◌≡◌, ◌<◌, ℕ, List, [], ◌∷◌, ◌++◌, ◌⊎◌, length, take, true}
use Rattle.std.specs.Prelude.{Bool, Result, Ok, Err, is_ok}
use Rattle.acq_link.specs.Frames.{frame, Frames, fits_frame}
use Rattle.iso_codec.specs.Reading.{reading_of}
use Rattle.acq_message.specs.declared.verdict.Verdict.{Verdict}
use Rattle.acq_core.specs.declared.event.Event.{Event}
use Rattle.acq_core.specs.declared.event.Event.TheVariants.{Frame, Answer}
use Rattle.acq_core.specs.declared.output.Output.{Output}
use Rattle.acq_core.specs.declared.output.Output.TheVariants.{Reply}
use Rattle.acq_core.specs.Tables.{Tables, tables_after}
use Rattle.acq_front.specs.declared.front_fault.FrontFault as fault
use Rattle.acq_front.specs.Stops.{Left, LeavesAll, LeavesSome}
use Rattle.acq_front.specs.Talk.{Taking, taking, replies, reply_in, queries, Saying, AreSaid}

-- whether a message reads
abbrev pub is_read : List ℕ → Bool
is_read message = is_ok (reading_of message)

-- whether an event is an issuer's answer
abbrev pub IsAnswer : Event → Type 0
IsAnswer (Answer moment merchant reference verdict) = Unit {0}
IsAnswer other = ⊥

-- by these moments and verdicts a message makes these events, whatever comes later
abbrev pub Makes : Tables → List ℕ → List ℕ → List Verdict → List Event → Type 0
Makes t message moments verdicts events =
    (later : List ℕ) (others : List Verdict) →
    let made : Taking = record {
      events = events;
      tables = tables_after t events;
      moments = later;
      verdicts = others;
    } in
    taking t message (moments ++ later) (verdicts ++ others) ≡ made

-- a message that came, and what the clock and the issuer gave for it
pub record Incoming : Type 0 where
  pub message : List ℕ
  pub moments : List ℕ
  pub verdicts : List Verdict

-- the host took the events that a message makes, and a stop leaves them all
pub record TookMessage (may_say : Saying) (old : Tables) (left : Left) (m : Incoming)
    (events : List Event) : Type 0 where
  pub makes : Makes old m.message m.moments m.verdicts events
  pub tables : left.tables ≡ tables_after old events
  pub said : AreSaid may_say (queries old events) m.verdicts
  pub stop : LeavesAll left old events

-- and what went out are the frames of their replies
pub record Answered (may_say : Saying) (old : Tables) (left : Left) (m : Incoming)
    (out : List ℕ) : Type 0 where
  pub events : List Event
  pub took : TookMessage may_say old left m events
  pub written : Frames out (replies old events)

-- The message was not taken: where the book is still open, its tables are the same, and a stop
-- leaves these, or those with the message.
pub record TookNone (old : Tables) (left : Left) (m : Incoming) : Type 0 where
  pub moment : ℕ
  pub given : m.moments ≡ moment ∷ []
  pub unasked : m.verdicts ≡ []
  pub tables : left.is_open → left.tables ≡ old
  pub stop : LeavesSome left old [] (Frame moment m.message ∷ [])

-- The message was taken, and the answer behind it was not: a stop leaves the message, or both.
pub record TookAllButAnswer (may_say : Saying) (old : Tables) (left : Left) (m : Incoming) : Type 0
  where
    pub came : Event
    pub answer : Event
    pub is_answer : IsAnswer answer
    pub reads : is_read m.message ≡ true
    pub makes : Makes old m.message m.moments m.verdicts (came ∷ answer ∷ [])
    pub tables : left.is_open → left.tables ≡ tables_after old (came ∷ [])
    pub said : AreSaid may_say (queries old (came ∷ [])) m.verdicts
    pub silent : replies old (came ∷ []) ≡ []
    pub stop : LeavesSome left old (came ∷ []) (answer ∷ [])

-- the message was not taken, or the answer behind it was not; and nothing went out
abbrev pub Refused : Saying → Tables → Left → Incoming → List ℕ → Type 0
Refused may_say old left m out =
    (out ≡ []) × (TookNone old left m ⊎ TookAllButAnswer may_say old left m)

-- the message was taken, and of its reply's frame the first n bytes went out
pub record CutShort (may_say : Saying) (old : Tables) (left : Left) (m : Incoming) (out : List ℕ)
    (n : ℕ) : Type 0 where
  pub events : List Event
  pub reply : List ℕ
  pub took : TookMessage may_say old left m events
  pub reads : is_read m.message ≡ true
  pub replied : replies old events ≡ reply ∷ []
  pub short : n < length (frame reply)
  pub written : out ≡ take n (frame reply)

-- a reply, if there is one, fits a frame
abbrev pub ReplyFits : Output → Type 0
ReplyFits output = (party : _) (text : List ℕ) → output ≡ Reply party text → fits_frame text ≡ true

-- the host took the events that a message makes, and said this last
pub record Said (may_say : Saying) (old : Tables) (left : Left) (m : Incoming) (said : Output)
    : Type 0 where
  pub events : List Event
  pub took : TookMessage may_say old left m events
  pub reads : is_read m.message ≡ true
  pub replied : replies old events ≡ reply_in said
  pub fits : ReplyFits said

-- how one message was taken, with nothing written yet
abbrev pub Takes : Saying → Tables → Left → Incoming → Result Output fault.FrontFault → Type 0
Takes may_say old left m (Ok said) = Said may_say old left m said
Takes may_say old left m (Err fault.TheVariants.Memory) =
    Refused may_say old left m []
Takes may_say old left m (Err fault.TheVariants.Store) =
    Refused may_say old left m []
Takes may_say old left m (Err (fault.TheVariants.Undecodable f)) =
    Answered may_say old left m [] × (reading_of m.message ≡ Err f)
Takes may_say old left m (Err other) = ⊥

-- how one message was taken and answered
abbrev pub Turns : Saying → Tables → Left → Incoming → List ℕ →
    Result (Unit {0}) fault.FrontFault → Type 0
Turns may_say old left m out (Ok u) =
    Answered may_say old left m out × (is_read m.message ≡ true)
Turns may_say old left m out (Err fault.TheVariants.Memory) =
    Refused may_say old left m out
Turns may_say old left m out (Err fault.TheVariants.Store) =
    Refused may_say old left m out
Turns may_say old left m out (Err (fault.TheVariants.Undecodable f)) =
    Answered may_say old left m out × (reading_of m.message ≡ Err f)
Turns may_say old left m out (Err (fault.TheVariants.Write n)) =
    CutShort may_say old left m out n
Turns may_say old left m out (Err other) = ⊥

-- it is no fault of the input, nor of a write
abbrev pub OfTaking : {X : Type 0} → Result X fault.FrontFault → Type 0
OfTaking (Ok x) = Unit {0}
OfTaking (Err fault.TheVariants.Memory) = Unit {0}
OfTaking (Err fault.TheVariants.Store) = Unit {0}
OfTaking (Err (fault.TheVariants.Undecodable f)) = Unit {0}
OfTaking (Err other) = ⊥
