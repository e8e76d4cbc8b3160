-- What reconciliations claimed, and what the host had then.
use Rattle.std.specs.Prelude.{ℕ, ◌&&◌, List, [], ◌∷◌, filter, ◌==◌, codes}
use Rattle.std.specs.Prelude.{Option, Some, None, Result, Ok, Err, pos, if◌then◌else◌}
use Rattle.std.specs.List.{filter_map}
use Rattle.std.specs.Str.{bytes_eq}
use Rattle.iso_codec.specs.declared.decode_fault.DecodeFault.{DecodeFault}
use Rattle.iso_codec.specs.Message.{IsoMessage, content_of}
use Rattle.iso_codec.specs.Reading.{reading_of}
use Rattle.day_totals.specs.declared.claimed.Claimed.{Claimed}
use Rattle.acq_message.specs.Claims.{claimed_in}
use Rattle.acq_message.specs.Elements.{text_at}
use Rattle.acq_core.specs.declared.request.Request.{Request}
use Rattle.acq_core.specs.declared.status.Status.{Status}
use Rattle.acq_core.specs.declared.status.Status.TheVariants.{Reconciled}
use Rattle.acq_core.specs.Known.{reconciled_day}
use Rattle.acq_core.specs.Tables.{Tables}
use Rattle.acq_book.specs.Lookups.{requests_behind_at}
use Rattle.acq_statement.specs.declared.claim.Claim.{Claim}
use Rattle.acq_statement.specs.declared.days.Days.{Days}
use Rattle.acq_statement.specs.Span.{is_asked, is_within}

-- what a request claims by its essence; nothing, where that is no message, which no host records
abbrev pub claimed_by : Result IsoMessage DecodeFault → Claimed
claimed_by (Ok m) = claimed_in m
claimed_by (Err fault) =
    record { counts = 0 ∷ 0 ∷ 0 ∷ 0 ∷ []; amounts = 0 ∷ 0 ∷ 0 ∷ 0 ∷ []; net = pos 0 }

-- a reconciliation of a day: what the terminal claimed, and what the host replied that it had
abbrev pub claim_on : Request → ℕ → Claim
claim_on row day =
    record {
      merchant = row.key.merchant;
      day = day;
      terminal = row.key.terminal;
      trace = row.key.trace;
      claimed = claimed_by (reading_of row.essence);
      found = claimed_in row.reply;
      in_balance = bytes_eq (text_at row.reply 66) (codes "1");
    }

-- the day that a request reconciled, by its reply and the day on which it came
abbrev pub day_reconciled : Request → Option ℕ
day_reconciled row = reconciled_day row.day (content_of row.reply.elements 15)

-- the claim, where the day and the merchant are asked for
abbrev pub claim_if_asked : List (List ℕ) → Days → Request → Option ℕ → Option Claim
claim_if_asked asked days row None = None
claim_if_asked asked days row (Some day) =
    if is_within days day && is_asked asked row.key.merchant then Some (claim_on row day) else None

abbrev pub claim_by_status : Status → Option Claim → Option Claim
claim_by_status Reconciled claim = claim
claim_by_status status claim = None

-- the claim of a request, if it is one that is asked for
abbrev pub claim_in : List (List ℕ) → Days → Request → Option Claim
claim_in asked days row =
    claim_by_status row.status (claim_if_asked asked days row (day_reconciled row))

-- in the order in which they came
abbrev pub claims_at : Tables → List (List ℕ) → Days → List Claim
claims_at t asked days = filter_map (claim_in asked days) (requests_behind_at t 0)

-- those of a merchant
abbrev pub claims_of : List ℕ → List Claim → List Claim
claims_of merchant claims = filter (λ claim. bytes_eq claim.merchant merchant) claims

-- those of a day
abbrev pub claims_on : ℕ → List Claim → List Claim
claims_on day claims = filter (λ claim. claim.day == day) claims
