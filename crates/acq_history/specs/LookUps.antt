-- What is looked up for an event is all that matters of what may be known.
use Rattle.std.specs.Prelude.{◌≡◌, ℕ, true, List, Option, Some, None}
use Rattle.iso_codec.specs.Message.{IsoMessage, content_of}
use Rattle.card_no.specs.CardNumbers.{prefix_of}
use Rattle.acq_message.specs.declared.request_key.RequestKey.{RequestKey}
use Rattle.acq_message.specs.Elements.{text_at, or_empty, key_of, original_key, reference_in}
use Rattle.acq_message.specs.Cards.{card_of}
use Rattle.acq_core.specs.declared.wanted.Wanted.{Wanted}
use Rattle.acq_core.specs.declared.arrival.Arrival.{Arrival}
use Rattle.acq_core.specs.declared.arrival.Arrival.TheVariants as arrival
use Rattle.acq_core.specs.Known.{Facts, Known, nothing, known_for, wanted_by, reconciled_day}
use Rattle.acq_core.specs.Decision.{decision}
use Rattle.acq_core.specs.Outcome.{outcome}
use Rattle.acq_core.specs.Changes.{change_for}

-- a merchant, and what is counted of it
abbrev pub named_of : ℕ → List ℕ → Wanted
named_of today merchant =
    record nothing { merchant = Some merchant; admitted = true; used_day = Some today }

-- all that a message names, whatever its service, and whether its card is valid or not
abbrev pub named_in : ℕ → Option RequestKey → IsoMessage → Wanted
named_in today key m =
    record {
      merchant = Some (text_at m 42);
      terminal = Some (text_at m 41);
      key = key;
      original = original_key m;
      reference = reference_in m;
      prefix = Some (prefix_of (or_empty (card_of m)));
      bounds = None;
      admitted = true;
      used_day = Some today;
      totals_day = reconciled_day today (content_of m.elements 15);
    }

-- all that what came names
abbrev pub all_named : ℕ → Arrival → Wanted
all_named today (arrival.Undecoded fault) = nothing
all_named today (arrival.Unserved m) = named_in today None m
all_named today (arrival.Malformed r) =
    named_in today (Some (key_of r.service r.message)) r.message
all_named today (arrival.Requested r) =
    named_in today (Some (key_of r.service r.message)) r.message
all_named today (arrival.Answered moment merchant reference verdict) =
    record (named_of today merchant) { reference = Some reference }
all_named today arrival.CutOver = nothing
all_named today (arrival.RangeAdded range) =
    record nothing { bounds = Some (range.low, range.high) }
all_named today (arrival.RangeDropped low high) = record nothing { bounds = Some (low, high) }
all_named today (arrival.Enrolled merchant) = named_of today merchant.id
all_named today (arrival.TerminalAdded terminal) =
    record (named_of today terminal.merchant) { terminal = Some terminal.id }

-- two are decided on alike, with the same outcome and the same change
pub record AreDecidedAlike (j k : Known) (a : Arrival) : Type 0 where
  pub decided : decision j a ≡ decision k a
  pub results : outcome j a ≡ outcome k a
  pub changes : change_for j a ≡ change_for k a

-- What is looked up suffices: to look up all that an event names changes nothing.
abbrev pub LookUpsSuffice : Type 0
LookUpsSuffice =
    (facts : Facts) (a : Arrival) →
    AreDecidedAlike (known_for (wanted_by facts.today a) facts)
    (known_for (all_named facts.today a) facts) a
