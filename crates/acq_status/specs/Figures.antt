-- What a status tells of a book.
use Rattle.std.specs.Prelude.{ℕ, ◌+◌, ◌-◌, List, [], ◌∷◌, ◌++◌, length, map, Option, Some, None}
use Rattle.std.specs.Option.{option_map_or}
use Rattle.std.specs.List.{range_with_len}
use Rattle.acq_message.specs.declared.request_key.RequestKey.{RequestKey}
use Rattle.acq_core.specs.declared.request.Request.{Request}
use Rattle.acq_core.specs.Tables.{Tables}
use Rattle.acq_book.specs.Lookups.{merchants_at, pending_at, range_count_at, terminal_count_at}
use Rattle.acq_book.specs.Lookups.{used_on_at, waiting_at}
use Rattle.acq_status.specs.declared.book_figures.BookFigures.{BookFigures}
use Rattle.acq_status.specs.declared.first_waiting.Waiting.{Waiting}
use Rattle.acq_status.specs.declared.pending_day.PendingDay.{PendingDay}

-- the first of some rows, if there is one
abbrev pub first_of : {X : Type 0} → List X → Option X
first_of [] = None
first_of (x ∷ xs) = Some x

-- what is kept of a request that waits
abbrev pub waiting_of : Request → Waiting
waiting_of row = record { day = row.day; key = row.key }

-- the request that has waited the longest for its issuer's answer
abbrev pub first_waiting : Tables → Option Request
first_waiting t = first_of (waiting_at t)

-- the days from one to another, both among them
abbrev pub days_between : ℕ → ℕ → List ℕ
days_between from to = range_with_len from (to + 1 - from)

-- a day, and how many of its requests are pending
abbrev pub pending_on : Tables → ℕ → PendingDay
pending_on t day = record { day = day; requests = pending_at t day }

abbrev pub pending_between : Tables → ℕ → ℕ → List PendingDay
pending_between t from to = map (pending_on t) (days_between from to)

-- so it is from the day of the first that waits to a day, or of that day where none waits
abbrev pub pending_to : Tables → ℕ → List PendingDay
pending_to t today =
    pending_between t (option_map_or (λ row. row.day) (first_waiting t) today) today

-- what tells a request from all others that wait: its merchant and its terminal, its trace number,
-- and when it was sent
abbrev pub waiting_name : RequestKey → List ℕ
waiting_name key = key.merchant ++ key.terminal ++ key.trace ++ key.transmission

-- the name of the request that has waited the longest; none, where none waits
abbrev pub first_waiting_name : Tables → List ℕ
first_waiting_name t = option_map_or (λ row. waiting_name row.key) (first_waiting t) []

pub record Figures : Type 0 where
  pub day : ℕ
  pub limit : ℕ
  pub merchants : ℕ
  pub terminals : ℕ
  pub ranges : ℕ
  pub requests_today : ℕ
  pub pending : List PendingDay

abbrev pub figures_at : Tables → Figures
figures_at t =
    record {
      day = t.day;
      limit = t.limit;
      merchants = length (merchants_at t);
      terminals = terminal_count_at t;
      ranges = range_count_at t;
      requests_today = used_on_at t t.day;
      pending = pending_to t t.day;
    }

-- figures that were looked up, without where they lie in memory
abbrev pub figures_of : BookFigures → Figures
figures_of f =
    record {
      day = f.day;
      limit = f.limit;
      merchants = f.merchants;
      terminals = f.terminals;
      ranges = f.ranges;
      requests_today = f.requests_today;
      pending = f.pending.items;
    }
