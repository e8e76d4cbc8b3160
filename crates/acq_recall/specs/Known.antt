-- What is recalled of what is wanted, and what is left to look up.
use Rattle.std.specs.Prelude.{◌≡◌, Bool, true, ◌&&◌, ◌||◌, not, is_some, is_none}
use Rattle.std.specs.Prelude.{Option, Some, None, IfSome, option_and_then, if◌then◌else◌, unwrap_or}
use Rattle.std.specs.Option.{option_or}
use Rattle.acq_message.specs.Elements.{or_empty}
use Rattle.acq_core.specs.declared.looked.Looked.{Looked}
use Rattle.acq_core.specs.declared.wanted.Wanted.{Wanted}
use Rattle.acq_core.specs.Known.{holds_if, number_if, used_if}
use Rattle.acq_core.specs.Tables.{Tables}
use Rattle.acq_book.specs.Lookups.{admitted_at, has_terminal_at, merchant_at, range_at}
use Rattle.acq_book.specs.Lookups.{referred_at, used_at}
use Rattle.acq_recall.specs.declared.known.Known.{Known}

-- each part that is known is what the tables have
pub record IsKnown (t : Tables) (w : Wanted) (known : Known) : Type 0 where
  pub merchant :
      IfSome known.merchant (λ row. Some row ≡ option_and_then (merchant_at t) w.merchant)
  pub has_terminal : known.has_terminal ≡ true →
      true
      ≡ holds_if (has_terminal_at t (or_empty w.merchant))
      (option_and_then (λ id. w.terminal) w.merchant)
  pub referred :
      IfSome known.referred (λ row. Some row
      ≡ option_and_then (referred_at t (or_empty w.merchant))
      (option_and_then (λ id. w.reference) w.merchant))
  pub range : IfSome known.range (λ range. Some range ≡ option_and_then (range_at t) w.prefix)
  pub admitted :
      IfSome known.admitted (λ n. n
      ≡ number_if w.admitted (admitted_at t (or_empty w.merchant)) w.merchant)
  pub used :
      IfSome known.used (λ n. n
      ≡ used_if (used_at t (or_empty w.merchant))
      (option_and_then (λ id. w.used_day) w.merchant))

-- what is wanted, if it isn't known
abbrev pub unless_known : {A B : Type 0} → Option A → Option B → Option B
unless_known (Some known) wanted = None
unless_known None wanted = wanted

-- nothing is wanted of the merchant but its own row
abbrev pub asks_no_more : Wanted → Bool
asks_no_more w =
    is_none w.terminal
    && (is_none w.reference && (not w.admitted && (is_none w.used_day && is_none w.totals_day)))

-- without the merchant, if its row is known and nothing else is wanted of it
abbrev pub without_merchant : Bool → Wanted → Wanted
without_merchant known w = if known && asks_no_more w then record w { merchant = None } else w

-- what is left to look up
abbrev pub rest_of : Known → Wanted → Wanted
rest_of known w =
    without_merchant (is_some known.merchant)
    (record w {
      terminal = if known.has_terminal then None else w.terminal;
      reference = unless_known known.referred w.reference;
      prefix = unless_known known.range w.prefix;
      admitted = not (is_some known.admitted) && w.admitted;
      used_day = unless_known known.used w.used_day;
    })

-- what is known, in place of what wasn't looked up
abbrev pub filled : Known → Looked → Looked
filled known l =
    record l {
      merchant = option_or known.merchant l.merchant;
      has_terminal = known.has_terminal || l.has_terminal;
      referred = option_or known.referred l.referred;
      range = option_or known.range l.range;
      admitted = unwrap_or known.admitted l.admitted;
      used = unwrap_or known.used l.used;
    }
