-- What a merchant's day comes to, and the running totals that keep it.
use Rattle.std.specs.Prelude.{◌≡◌, ℕ, ◌+◌, ◌==◌, ◌<◌, ◌^◌, Bool, false, ◌&&◌, List, [], ◌∷◌}
use Rattle.std.specs.Prelude.{◌++◌, map, find, Option, Some, None, if◌then◌else◌}
use Rattle.std.specs.Str.{bytes_eq}
use Rattle.sqlite_trees.specs.Tree.{IsAscending}
use Rattle.day_totals.specs.declared.leg_total.LegTotal.{LegTotal}
use Rattle.day_totals.specs.Totals.{DayTotals, zero_totals, with_leg_amount}
use Rattle.acq_core.specs.declared.request.Request.{Request}
use Rattle.acq_core.specs.declared.posting.Posting.{Posting}
use Rattle.acq_core.specs.Tables.{Tables, requests_of, postings_of, used_in, totals_on}

-- how many messages count against the limit of a day, and its totals
pub record Tally : Type 0 where
  pub used : ℕ
  pub totals : DayTotals

abbrev pub no_tally : Tally
no_tally = record { used = 0; totals = zero_totals }

-- what the lists come to
abbrev pub tally_of : Tables → List ℕ → ℕ → Tally
tally_of t merchant day =
    record {
      used = used_in (requests_of merchant t.requests) day;
      totals = totals_on (postings_of merchant t.postings) day;
    }

-- ---- sums

abbrev pub leg_plus : LegTotal → LegTotal → LegTotal
leg_plus a b = record { count = a.count + b.count; amount = a.amount + b.amount }

abbrev pub plus : Tally → Tally → Tally
plus a b =
    record {
      used = a.used + b.used;
      totals =
          record {
            credits = leg_plus a.totals.credits b.totals.credits;
            credit_reversals = leg_plus a.totals.credit_reversals b.totals.credit_reversals;
            debits = leg_plus a.totals.debits b.totals.debits;
            debit_reversals = leg_plus a.totals.debit_reversals b.totals.debit_reversals;
          };
    }

-- what one more request adds, and what one more posting
abbrev pub request_tally : Request → Tally
request_tally row = record no_tally { used = if row.admitted then 1 else 0 }

abbrev pub posting_tally : Posting → Tally
posting_tally p = record no_tally { totals = with_leg_amount zero_totals p.leg p.amount }

-- a column can keep it
abbrev pub IsShort : ℕ → Type 0
IsShort n = n < 2 ^ 63

abbrev pub IsShortLeg : LegTotal → Type 0
IsShortLeg total = IsShort total.count × IsShort total.amount

-- the columns can keep it
pub record FitsTally (tally : Tally) : Type 0 where
  pub used : IsShort tally.used
  pub credits : IsShortLeg tally.totals.credits
  pub credit_reversals : IsShortLeg tally.totals.credit_reversals
  pub debits : IsShortLeg tally.totals.debits
  pub debit_reversals : IsShortLeg tally.totals.debit_reversals

-- ---- running totals

-- what a merchant's day has come to so far
pub record Running : Type 0 where
  pub merchant : List ℕ
  pub day : ℕ
  pub tally : Tally

abbrev pub is_for : List ℕ → ℕ → Running → Bool
is_for merchant day row = bytes_eq row.merchant merchant && (row.day == day)

abbrev pub or_no_tally : Option Running → Tally
or_no_tally None = no_tally
or_no_tally (Some row) = row.tally

-- no row stands for none
abbrev pub tally_in : List Running → List ℕ → ℕ → Tally
tally_in runs merchant day = or_no_tally (find (is_for merchant day) runs)

-- each merchant and day has one row at most
abbrev pub AreApart : List Running → Type 0
AreApart = IsAscending (λ a b. is_for b.merchant b.day a ≡ false)

-- they are what the lists come to
abbrev pub Tallies : List Running → Tables → Type 0
Tallies runs t =
    (merchant : List ℕ) (day : ℕ) → tally_in runs merchant day ≡ tally_of t merchant day

-- what came, added to the row that is there
abbrev pub raised_in : List ℕ → ℕ → Tally → List Running → List Running
raised_in merchant day more =
    map (λ row. if is_for merchant day row then record row { tally = plus row.tally more } else row)

abbrev pub raised_at : List Running → List ℕ → ℕ → Tally → Option Running → List Running
raised_at runs merchant day more None =
    runs ++ record { merchant = merchant; day = day; tally = more } ∷ []
raised_at runs merchant day more (Some row) = raised_in merchant day more runs

-- what came, added to the totals of its merchant and day
abbrev pub raised : List ℕ → ℕ → Tally → List Running → List Running
raised merchant day more runs =
    raised_at runs merchant day more (find (is_for merchant day) runs)
