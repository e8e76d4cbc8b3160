-- When the postings of a day are final.
use Rattle.std.specs.Prelude.{◌≡◌, ℕ, ◌<◌, ◌==◌, Bool, false, ◌&&◌, List, ◌++◌}
use Rattle.std.specs.List.{list_any}
use Rattle.acq_core.specs.declared.event.Event.{Event}
use Rattle.acq_core.specs.declared.request.Request.{Request}
use Rattle.acq_core.specs.Tables.{Opening, is_pending}
use Rattle.acq_history.specs.PartyHistory.{book_after}
use Rattle.acq_history.specs.DaySums.{postings_on}

-- a request of a day is pending
abbrev pub has_pending : ℕ → List Request → Bool
has_pending day rows = list_any (λ row. is_pending row.status && (row.day == day)) rows

-- Once a day is past and none of its requests is pending, its postings stay as they are.
abbrev pub IsFinal : Type 0
IsFinal =
    (opening : Opening) (day : ℕ) (es more : List Event) →
    day < (book_after opening es).day →
    has_pending day (book_after opening es).requests ≡ false →
    postings_on day (book_after opening (es ++ more)).postings
    ≡ postings_on day (book_after opening es).postings
