-- What a run promises a bookkeeper.
use Rattle.std.specs.Prelude.{◌≡◌, ℕ, List, None}
use Rattle.acq_core.specs.Tables.{Tables}
use Rattle.acq_book.specs.Lookups.{totals_at}
use Rattle.acq_reports.specs.Refusals.{day_refusal}
use Rattle.acq_clearing.specs.ClearedSums.{Clears}
use Rattle.acq_clearing.specs.ClearingFile.{clearing_text}

-- a day's clearing file is given again, byte for byte, and each merchant's totals of the day are as
-- they were
pub record GivesAgain (t now : Tables) (day : ℕ) : Type 0 where
  pub given : day_refusal now day ≡ None
  pub same_text : clearing_text now day ≡ clearing_text t day
  pub same_totals : (m : List ℕ) → totals_at now m day ≡ totals_at t m day

-- What clearing once gave, it gives again; and of each day and merchant the sums over the clearing
-- file's records are the totals.
pub record KeptItsClearing (t now : Tables) : Type 0 where
  pub final : (day : ℕ) → day_refusal t day ≡ None → GivesAgain t now day
  pub sums : (day : ℕ) (m : List ℕ) → Clears now day m
