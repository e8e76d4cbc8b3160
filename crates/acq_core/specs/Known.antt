-- What has to be known to decide on an event, wherever it is read from.
use Rattle.std.specs.Prelude.{ℕ, Bool, true, false, List, Option, Some, None, option_and_then}
use Rattle.std.specs.Prelude.{if◌then◌else◌}
use Rattle.card_no.specs.declared.range.Range.{Range}
use Rattle.card_no.specs.Prefix.{PrefixProfile, in_force}
use Rattle.card_no.specs.CardNumbers.{is_valid_card, prefix_of_under}
use Rattle.day_totals.specs.Day.{resolved}
use Rattle.day_totals.specs.Totals.{DayTotals, zero_totals}
use Rattle.day_totals.specs.declared.leg.Leg.{Leg}
use Rattle.iso_codec.specs.Message.{IsoMessage, content_of}
use Rattle.acq_message.specs.declared.service.Service.{Service}
use Rattle.acq_message.specs.declared.service.Service.TheVariants.{Authorization, Financial}
use Rattle.acq_message.specs.declared.service.Service.TheVariants.{Completion, Reversal}
use Rattle.acq_message.specs.declared.service.Service.TheVariants.{ReversalAdvice, Reconciliation}
use Rattle.acq_message.specs.declared.service.Service.TheVariants.{NetworkManagement}
use Rattle.acq_message.specs.declared.request_key.RequestKey.{RequestKey}
use Rattle.acq_message.specs.Elements.{text_at, key_of, original_key, reference_in, or_empty}
use Rattle.acq_message.specs.Cards.{card_of}
use Rattle.acq_core.specs.declared.merchant.Merchant.{Merchant}
use Rattle.acq_core.specs.declared.wanted.Wanted.{Wanted}
use Rattle.acq_core.specs.declared.reply_state.ReplyState.{ReplyState}
use Rattle.acq_core.specs.declared.arrival.Arrival.{Arrival}
use Rattle.acq_core.specs.declared.arrival.Arrival.TheVariants as arrival

-- what is known of a recorded request
pub record Prior : Type 0 where
  pub key : RequestKey
  pub essence : List ℕ
  pub day : ℕ
  pub amount : ℕ
  -- what an admitted sale or return, or an accepted completion, posts under
  pub leg : Option Leg
  pub card : Option (List ℕ)
  pub acquirer : Option (List ℕ)
  -- that of an admitted request, or of the hold that an accepted completion completes
  pub reference : Option ℕ
  pub hold_days : Option ℕ
  pub reply_state : ReplyState
  -- a reversal of it can be accepted
  pub is_reversible : Bool
  -- the last second of a hold that was approved and neither completed nor reversed
  pub hold_end : Option ℕ

-- what is known of one merchant and of what all share
pub record Facts : Type 0 where
  pub today : ℕ
  pub limit : ℕ
  pub merchant : Option Merchant
  pub has_terminal : List ℕ → Bool
  -- the recorded request with a key, and the admitted one with a reference
  pub recorded : RequestKey → Option Prior
  pub referred : ℕ → Option Prior
  -- how many requests were admitted, and how many messages count against a day's limit
  pub admitted : ℕ
  pub used : ℕ → ℕ
  pub totals : ℕ → DayTotals
  -- the range of a prefix, and the first that overlaps two ends
  pub range : ℕ → Option Range
  pub overlapped : ℕ → ℕ → Option Range

-- what one event asks for
pub record Known : Type 0 where
  pub today : ℕ
  pub limit : ℕ
  pub merchant : Option Merchant
  pub has_terminal : Bool
  pub recorded : Option Prior
  pub original : Option Prior
  pub referred : Option Prior
  pub range : Option Range
  pub overlapped : Option Range
  pub admitted : ℕ
  pub used : ℕ
  pub totals : DayTotals

-- ---- what to look up

-- nothing is looked up
abbrev pub nothing : Wanted
nothing =
    record {
      merchant = None;
      terminal = None;
      key = None;
      original = None;
      reference = None;
      prefix = None;
      bounds = None;
      admitted = false;
      used_day = None;
      totals_day = None;
    }

-- the day that a reconciliation is of: today, or the latest day with the month and day of element
-- 15
abbrev pub reconciled_day : ℕ → Option (List ℕ) → Option ℕ
reconciled_day today None = Some today
reconciled_day today (Some mmdd) = resolved mmdd today

-- what every recorded request needs
abbrev pub wanted_by_key : Service → IsoMessage → Wanted
wanted_by_key service m =
    record nothing {
      merchant = Some (text_at m 42);
      terminal = Some (text_at m 41);
      key = Some (key_of service m);
    }

-- what a request needs that is accepted only where its day has room
abbrev pub wanted_with_room : ℕ → Service → IsoMessage → Wanted
wanted_with_room today service m = record (wanted_by_key service m) { used_day = Some today }

-- ---- under a profile of prefixes

module _ (profile : PrefixProfile) where
  -- the prefix of a valid card
  abbrev pub prefix_in_under : IsoMessage → Option ℕ
  prefix_in_under m =
      if is_valid_card (or_empty (card_of m))
      then Some (prefix_of_under profile (or_empty (card_of m)))
      else None

  -- what a sale, a return or an authorization needs: its card's range, and a reference
  abbrev pub wanted_to_admit_under : ℕ → Service → IsoMessage → Wanted
  wanted_to_admit_under today service m =
      record (wanted_with_room today service m) {
        prefix = prefix_in_under m;
        admitted = true;
      }

  -- what a request of each service needs
  abbrev pub wanted_for_under : ℕ → Service → IsoMessage → Wanted
  wanted_for_under today Authorization m = wanted_to_admit_under today Authorization m
  wanted_for_under today Financial m = wanted_to_admit_under today Financial m
  wanted_for_under today Completion m =
      record (wanted_with_room today Completion m) { reference = reference_in m }
  wanted_for_under today Reversal m =
      record (wanted_with_room today Reversal m) { original = original_key m }
  wanted_for_under today ReversalAdvice m =
      record (wanted_with_room today ReversalAdvice m) { original = original_key m }
  wanted_for_under today Reconciliation m =
      record (wanted_by_key Reconciliation m) {
        totals_day = reconciled_day today (content_of m.elements 15);
      }
  wanted_for_under today NetworkManagement m = nothing

  -- what to look up on a day for what came
  abbrev pub wanted_by_under : ℕ → Arrival → Wanted
  wanted_by_under today (arrival.Undecoded fault) = nothing
  wanted_by_under today (arrival.Unserved m) = nothing
  wanted_by_under today (arrival.Malformed r) = nothing
  wanted_by_under today (arrival.Requested r) = wanted_for_under today r.service r.message
  wanted_by_under today (arrival.Answered moment merchant reference verdict) =
      record nothing { merchant = Some merchant; reference = Some reference }
  wanted_by_under today arrival.CutOver = nothing
  wanted_by_under today (arrival.RangeAdded range) =
      record nothing { bounds = Some (range.low, range.high) }
  wanted_by_under today (arrival.RangeDropped low high) =
      record nothing { bounds = Some (low, high) }
  wanted_by_under today (arrival.Enrolled merchant) =
      record nothing { merchant = Some merchant.id }
  wanted_by_under today (arrival.TerminalAdded terminal) =
      record nothing { merchant = Some terminal.merchant; terminal = Some terminal.id }

-- ---- under the one in force

abbrev pub prefix_in : IsoMessage → Option ℕ
prefix_in = prefix_in_under in_force

abbrev pub wanted_for : ℕ → Service → IsoMessage → Wanted
wanted_for = wanted_for_under in_force

abbrev pub wanted_by : ℕ → Arrival → Wanted
wanted_by = wanted_by_under in_force

-- ---- what the look-ups give

-- whether a terminal that is wanted is there
abbrev pub holds_if : (List ℕ → Bool) → Option (List ℕ) → Bool
holds_if has None = false
holds_if has (Some terminal) = has terminal

-- a number of a merchant, if it is wanted, else 0
abbrev pub number_if : Bool → ℕ → Option (List ℕ) → ℕ
number_if false n merchant = 0
number_if true n None = 0
number_if true n (Some merchant) = n

-- how many there are on a day that is wanted, else 0
abbrev pub used_if : (ℕ → ℕ) → Option ℕ → ℕ
used_if used None = 0
used_if used (Some day) = used day

-- the totals of a day that is wanted
abbrev pub totals_if : (ℕ → DayTotals) → Option ℕ → DayTotals
totals_if totals None = zero_totals
totals_if totals (Some day) = totals day

-- what the look-ups give
abbrev pub known_for : Wanted → Facts → Known
known_for wanted facts =
    record {
      today = facts.today;
      limit = facts.limit;
      merchant = option_and_then (λ id. facts.merchant) wanted.merchant;
      has_terminal = holds_if facts.has_terminal wanted.terminal;
      recorded = option_and_then facts.recorded wanted.key;
      original = option_and_then facts.recorded wanted.original;
      referred = option_and_then facts.referred wanted.reference;
      range = option_and_then facts.range wanted.prefix;
      overlapped = option_and_then (λ ends. facts.overlapped ends.0 ends.1) wanted.bounds;
      admitted = number_if wanted.admitted facts.admitted wanted.merchant;
      used = used_if facts.used wanted.used_day;
      totals = totals_if facts.totals wanted.totals_day;
    }
