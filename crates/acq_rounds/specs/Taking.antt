-- What a host made of turns that it was to take in one group.
use Rattle.std.specs.Prelude.{◌≡◌, ◌⊎◌, ℕ, List, [], Result, Ok, Err}
use Rattle.acq_core.specs.Tables.{Tables}
use Rattle.acq_book.specs.Promise.{HasRisen}
use Rattle.acq_book.specs.declared.book_fault.BookFault.{BookFault}
use Rattle.acq_book.specs.declared.book_fault.BookFault.TheVariants.{Memory, Store}
use Rattle.acq_front.specs.Stops.{Left, LeavesAll, LeavesSome}
use Rattle.acq_front.specs.Talk.{Saying}
use Rattle.acq_rounds.specs.Acts.{Connection, Taken, Told, Took, Turn, events_of, told_of, turns_of}
use Rattle.acq_rounds.specs.Groups.{asked, handed}

-- The store's fault is told where a call of it failed, or where this is so; and unless it is told,
-- no call of it failed.
abbrev pub TellsFault : {X : Type 0} → Result X BookFault → ℕ → ℕ → Type 0 → Type 0
TellsFault (Ok x) old new other = new ≡ old
TellsFault (Err Memory) old new other = new ≡ old
TellsFault (Err Store) old new other = HasRisen old new ⊎ other

-- if it failed, memory did
abbrev pub OfMemory : {X : Type 0} → Result X BookFault → Type 0
OfMemory (Err Store) = ⊥
OfMemory other = Unit {0}

module _ (may_give : ℕ → Type 0) (may_say : Saying) where
  -- All were taken, one after the other, this was said to them, and a stop leaves them.
  pub record TookAll (old : Tables) (left : Left) (turns : List Turn) (told : List Told) : Type 0
    where
      pub taken : List Taken
      pub brought : turns_of taken ≡ turns
      pub replied : told_of taken ≡ told
      pub took : Took may_give may_say old left.tables taken
      pub stop : LeavesAll left old (events_of taken)

  -- a stop leaves these tables, or those with all of these turns taken
  abbrev pub LeavesGroup : Left → Tables → List Turn → Type 0
  LeavesGroup left old turns =
      LeavesAll left old []
      ⊎ ((taken : List Taken) × (new : Tables) × (turns_of taken ≡ turns)
      × Took may_give may_say old new taken × LeavesSome left old [] (events_of taken))

  -- None was taken: wherever the book is open its tables are the same.
  pub record TookNone (old : Tables) (left : Left) (turns : List Turn) : Type 0 where
    pub tables : left.is_open → left.tables ≡ old
    pub stop : LeavesGroup left old turns

  -- The turns of these connections that are ready were taken, and what was told is held.
  pub record TookGroup (old : Tables) (left : Left) (before after : List Connection) : Type 0 where
    pub taken : List Taken
    pub brought : turns_of taken ≡ asked before
    pub held : after ≡ handed before (told_of taken)
    pub took : Took may_give may_say old left.tables taken
    pub stop : LeavesAll left old (events_of taken)
