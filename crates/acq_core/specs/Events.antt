-- What the host's types hold of an event, and of an opening. Each value of the Rust type `Event` is
-- such, and so is an opening of a `Limit` and a `Day`.
use Rattle.std.specs.Prelude.{◌≡◌, ◌≤◌, true, List, All}
use Rattle.day_totals.specs.Day.{last_day}
use Rattle.acq_message.specs.declared.verdict.Verdict.{Verdict}
use Rattle.acq_message.specs.declared.verdict.Verdict.TheVariants as verdict
use Rattle.acq_message.specs.Moments.{is_moment}
use Rattle.acq_message.specs.Names.{is_merchant, is_terminal, is_currency}
use Rattle.acq_message.specs.Numbers.{is_reference}
use Rattle.acq_message.specs.IssuerTexts.{is_authorization_id, is_decline_code}
use Rattle.acq_core.specs.declared.event.Event.{Event}
use Rattle.acq_core.specs.declared.event.Event.TheVariants as event
use Rattle.acq_core.specs.Numbers.{is_limit, is_first_reference}
use Rattle.acq_core.specs.Tables.{Opening}

-- an id or a code that an issuer may give
abbrev pub IsVerdict : Verdict → Type 0
IsVerdict (verdict.Approved id) = is_authorization_id id ≡ true
IsVerdict (verdict.Declined text) = is_decline_code text ≡ true
IsVerdict verdict.NoAnswer = Unit {0}

-- an event; the bytes of a frame, and the values of a range, may be any
abbrev pub IsEvent : Event → Type 0
IsEvent (event.Frame moment text) = is_moment moment ≡ true
IsEvent (event.Answer moment merchant reference v) =
    (is_moment moment ≡ true) × (is_merchant merchant ≡ true) × (is_reference reference ≡ true)
    × IsVerdict v
IsEvent (event.Cutover moment) = is_moment moment ≡ true
IsEvent (event.AddRange range) = Unit {0}
IsEvent (event.DropRange low high) = Unit {0}
IsEvent (event.Enrol merchant currency first) =
    (is_merchant merchant ≡ true) × (is_currency currency ≡ true)
    × (is_first_reference first ≡ true)
IsEvent (event.AddTerminal merchant terminal) =
    (is_merchant merchant ≡ true) × (is_terminal terminal ≡ true)

-- a list of events
abbrev pub AreEvents : List Event → Type 0
AreEvents es = All IsEvent es

-- what a book begins with
pub record IsOpening (opening : Opening) : Type 0 where
  pub limit : is_limit opening.limit ≡ true
  pub first_day : opening.first_day ≤ last_day
