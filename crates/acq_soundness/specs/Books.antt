-- All that a run of events keeps, under one name.
use Rattle.acq_core.specs.declared.event.Event.{Event}
use Rattle.acq_core.specs.Arrivals.{arrival_of}
use Rattle.acq_core.specs.Tables.{Opening, Tables, new_tables, step_tables}
use Rattle.acq_core.specs.Pasts.{IsBook}
use Rattle.acq_core.specs.Events.{IsEvent, IsOpening}
use Rattle.acq_soundness.specs.Ranges.{HasRangesApart}
use Rattle.acq_soundness.specs.Keys.{HasUniqueKeys}
use Rattle.acq_soundness.specs.References.{HasConsecutiveReferences, HasUniqueReferences}
use Rattle.acq_soundness.specs.Replies.{HasReplies, GivesReplies}
use Rattle.acq_soundness.specs.CardData.{HasNoSensitiveData}
use Rattle.acq_soundness.specs.Bounds.{IsBounded}
use Rattle.acq_soundness.specs.Rows.{HasFittingRows}

-- all that holds of its tables
pub record IsSound (opening : Opening) (t : Tables) : Type 0 where
  pub ranges : HasRangesApart t
  pub keys : HasUniqueKeys t
  pub references : HasConsecutiveReferences t
  pub unique_references : HasUniqueReferences t
  pub replies : HasReplies t
  pub next_reply : GivesReplies t
  pub card_data : HasNoSensitiveData t
  pub numbers : IsBounded opening t
  pub rows : HasFittingRows t

-- A new book is one.
abbrev pub BooksBegin : Type 0
BooksBegin = (opening : Opening) → IsOpening opening → IsBook opening (new_tables opening)

-- A book stays one at each event.
abbrev pub BooksGoOn : Type 0
BooksGoOn =
    (opening : Opening) (t : Tables) (e : Event) → IsBook opening t → IsEvent e →
    IsBook opening (step_tables t (arrival_of e))

-- Every book is sound.
abbrev pub BooksAreSound : Type 0
BooksAreSound = (opening : Opening) (t : Tables) → IsBook opening t → IsSound opening t
