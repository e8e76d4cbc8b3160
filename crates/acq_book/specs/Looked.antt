-- What was looked up, part by part.
use Rattle.std.specs.Prelude.{◌≡◌, option_and_then}
use Rattle.acq_message.specs.Elements.{or_empty}
use Rattle.acq_core.specs.declared.wanted.Wanted.{Wanted}
use Rattle.acq_core.specs.declared.looked.Looked.{Looked}
use Rattle.acq_core.specs.Known.{holds_if, number_if, used_if, totals_if}
use Rattle.acq_core.specs.Tables.{Tables}
use Rattle.acq_book.specs.Lookups.{merchant_at, has_terminal_at, range_at, overlapping_at}
use Rattle.acq_book.specs.Lookups.{request_at, referred_at, admitted_at, used_at, totals_at}

-- each part is what the book gave for what was wanted
pub record IsLooked (t : Tables) (w : Wanted) (l : Looked) : Type 0 where
  pub today : l.today ≡ t.day
  pub limit : l.limit ≡ t.limit
  pub merchant : l.merchant ≡ option_and_then (merchant_at t) w.merchant
  pub has_terminal :
      l.has_terminal
      ≡ holds_if (has_terminal_at t (or_empty w.merchant))
      (option_and_then (λ id. w.terminal) w.merchant)
  pub recorded : l.recorded ≡ option_and_then (request_at t) w.key
  pub original : l.original ≡ option_and_then (request_at t) w.original
  pub referred :
      l.referred
      ≡ option_and_then (referred_at t (or_empty w.merchant))
      (option_and_then (λ id. w.reference) w.merchant)
  pub range : l.range ≡ option_and_then (range_at t) w.prefix
  pub overlapped : l.overlapped ≡ option_and_then (λ ends. overlapping_at t ends.0 ends.1) w.bounds
  pub admitted :
      l.admitted ≡ number_if w.admitted (admitted_at t (or_empty w.merchant)) w.merchant
  pub used :
      l.used ≡ used_if (used_at t (or_empty w.merchant))
      (option_and_then (λ id. w.used_day) w.merchant)
  pub totals :
      l.totals ≡ totals_if (totals_at t (or_empty w.merchant))
      (option_and_then (λ id. w.totals_day) w.merchant)
