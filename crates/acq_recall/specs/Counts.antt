-- What is recalled of how many requests a merchant has.
use Rattle.std.specs.Prelude.{◌≡◌, ℕ, List}
use Rattle.indexmap.specs.IndexMap.{get}
use Rattle.acq_core.specs.declared.request.Request.{Request}
use Rattle.acq_core.specs.Tables.{admitted_in, requests_of, used_in}
use Rattle.acq_book.specs.Keys.{merchant_eq}
use Rattle.acq_lists.specs.declared.merchant_day.MerchantDay.{MerchantDay}
use Rattle.acq_lists.specs.Keys.{day_eq}
use Rattle.acq_recall.specs.Kept.{SaysOf}
use Rattle.acq_recall.specs.declared.counts.Counts.{Counts}

-- so many of a merchant's requests were admitted
abbrev pub IsAdmitted : List Request → List ℕ → ℕ → Type 0
IsAdmitted rows m n = n ≡ admitted_in (requests_of m rows)

-- so many of a merchant's messages count against the limit of a day
abbrev pub IsUsed : List Request → MerchantDay → ℕ → Type 0
IsUsed rows k n = n ≡ used_in (requests_of k.merchant rows) k.day

-- each count that is kept is that of these requests
pub record RecallsCounts (counts : Counts) (rows : List Request) : Type 0 where
  pub admitted : SaysOf (IsAdmitted rows) (get merchant_eq counts.admitted.entries)
  pub used : SaysOf (IsUsed rows) (get day_eq counts.used.entries)
