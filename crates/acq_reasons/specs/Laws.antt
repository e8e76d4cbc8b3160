-- The laws of reasons: each gives the code that is decided, and is true of what is known.
use Rattle.std.specs.Prelude.{◌≡◌, ◌⊎◌, Option, Some, None, IfSome}
use Rattle.acq_message.specs.declared.response_code.ResponseCode.{ResponseCode}
use Rattle.acq_message.specs.declared.response_code.ResponseCode.TheVariants as code
use Rattle.acq_message.specs.Reply.{verdict_code}
use Rattle.acq_core.specs.declared.arrival.Arrival.{Arrival}
use Rattle.acq_core.specs.declared.event.Event.{Event}
use Rattle.acq_core.specs.Arrivals.{arrival_of}
use Rattle.acq_core.specs.Known.{Known}
use Rattle.acq_core.specs.Decision.{Decision, decision}
use Rattle.acq_core.specs.Decision as decided
use Rattle.acq_core.specs.Outcome.{is_in_balance, balance_code}
use Rattle.acq_reasons.specs.declared.reason.Reason.{Reason}
use Rattle.acq_reasons.specs.Codes.{code_of}
use Rattle.acq_reasons.specs.Reasons.{reason_for}
use Rattle.acq_reasons.specs.Truths.{IsTrueOf}

-- the code of the reply that a decision makes, if it makes one
abbrev pub code_made : Known → Decision → Option ResponseCode
code_made k (decided.Replies r given) = Some given
code_made k (decided.Refuses r given) = Some given
code_made k (decided.Completes r hold) = Some code.Approved
code_made k (decided.Reverses r p) = Some code.Approved
code_made k (decided.Reconciles r day) = Some (balance_code (is_in_balance k r))
code_made k (decided.Answers moment said p draft) = Some (verdict_code said)
code_made k other = None

-- a reason gives this code; without one it is 00, or none is given
abbrev pub Gives : Option Reason → Option ResponseCode → Type 0
Gives (Some why) given = given ≡ Some (code_of why)
Gives None given = (given ≡ None) ⊎ (given ≡ Some code.Approved)

-- the reason's code is the one that is decided: there is one exactly if that isn't 00
abbrev pub ReasonsGiveCodes : Type 0
ReasonsGiveCodes = (k : Known) (a : Arrival) → Gives (reason_for k a) (code_made k (decision k a))

-- what the reason says is true
abbrev pub ReasonsAreTrue : Type 0
ReasonsAreTrue =
    (k : Known) (e : Event) → IfSome (reason_for k (arrival_of e)) (IsTrueOf k (arrival_of e))
