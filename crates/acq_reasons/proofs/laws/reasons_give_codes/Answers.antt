-- A request by its reason; of what else comes, no reply is made now but an answer's.
use Rattle.std.proofs.Common.{◌≡◌, ℕ, Option, Some, None, Bool, true, false, inl, inr, refl, ap, sym}
use Rattle.std.specs.Prelude.{nat_lt, if◌then◌else◌}
use Rattle.card_no.specs.declared.range.Range.{Range}
use Rattle.card_no.specs.Ranges.{is_valid_range, has_ends}
use Rattle.day_totals.specs.Day.{last_day}
use Rattle.acq_message.specs.declared.verdict.Verdict.{Verdict}
use Rattle.acq_message.specs.declared.verdict.Verdict.TheVariants as verdict
use Rattle.acq_core.specs.declared.merchant.Merchant.{Merchant}
use Rattle.acq_core.specs.declared.terminal.Terminal.{Terminal}
use Rattle.acq_core.specs.declared.output.Output.TheVariants as output
use Rattle.acq_core.specs.declared.arrival.Arrival.TheVariants as arrival
use Rattle.acq_core.specs.declared.reply_state.ReplyState.{ReplyState}
use Rattle.acq_core.specs.declared.reply_state.ReplyState.TheVariants.{Kept, Awaited, Late}
use Rattle.acq_core.specs.Known.{Known, Prior}
use Rattle.acq_core.specs.Decision.{Decision, Reports, CutsOver, DropsRange, AddsTerminal}
use Rattle.acq_core.specs.Decision.{decision_of_reply_state, decision_of_prior, decision_of_answer}
use Rattle.acq_core.specs.Decision.{decision_of_new_range, decision_of_old_range}
use Rattle.acq_core.specs.Decision.{decision_of_enrolment, decision_of_terminal}
use Rattle.acq_reasons.specs.Reasons.{answer_reason_of, referred_reason, answer_reason}
use Rattle.acq_reasons.specs.Reasons.{verdict_reason}
use Rattle.acq_reasons.specs.Laws.{Gives, code_made}
use Rattle.acq_message.specs.Reply.{verdict_code}
use Rattle.acq_reasons.proofs.FirstChecks.{malformation_code}
use Rattle.acq_reasons.proofs.Explained.{explained}
use Rattle.acq_reasons.proofs.laws.reasons_give_codes.Goals as goal

-- ---- answers

of_verdict : (said : Verdict) → Gives (verdict_reason said) (Some (verdict_code said))
of_verdict (verdict.Approved id) = inr refl
of_verdict (verdict.Declined text) = refl
of_verdict verdict.NoAnswer = refl

of_reply_state : (k : Known) (moment : ℕ) (said : Verdict) (p : Prior) (s : ReplyState) →
    Gives (answer_reason_of said s) (code_made k (decision_of_reply_state moment said p s))
of_reply_state k moment said p (Kept reply) = inl refl
of_reply_state k moment said p (Awaited draft) = of_verdict said
of_reply_state k moment said p Late = inl refl

of_referred : (k : Known) (moment : ℕ) (said : Verdict) (o : Option Prior) →
    Gives (referred_reason said o) (code_made k (decision_of_prior moment said o))
of_referred k moment said None = inl refl
of_referred k moment said (Some p) = of_reply_state k moment said p p.reply_state

of_answer : (k : Known) (moment : ℕ) (said : Verdict) (o : Option Merchant) →
    Gives (answer_reason k said o) (code_made k (decision_of_answer k moment said o))
of_answer k moment said None = inl refl
of_answer k moment said (Some merchant) = of_referred k moment said k.referred

-- ---- the rest: nothing is replied

no_code : (k : Known) (b : Bool) (d e : Decision) → code_made k d ≡ None → code_made k e ≡ None →
    Gives None (code_made k (if b then d else e))
no_code k true d e first second = inl first
no_code k false d e first second = inl second

of_new_range : (k : Known) (range : Range) (o : Option Range) →
    code_made k (decision_of_new_range range o) ≡ None
of_new_range k range None = refl
of_new_range k range (Some other) = refl

of_old_range : (k : Known) (low high : ℕ) (o : Option Range) →
    Gives None (code_made k (decision_of_old_range low high o))
of_old_range k low high None = inl refl
of_old_range k low high (Some range) =
    no_code k (has_ends low high range) (DropsRange low high) (Reports output.NoSuchRange) refl refl

of_enrolment : (k : Known) (merchant : Merchant) (o : Option Merchant) →
    Gives None (code_made k (decision_of_enrolment merchant o))
of_enrolment k merchant None = inl refl
of_enrolment k merchant (Some enrolled) = inl refl

of_terminal : (k : Known) (terminal : Terminal) (there : Bool) (o : Option Merchant) →
    Gives None (code_made k (decision_of_terminal terminal there o))
of_terminal k terminal there None = inl refl
of_terminal k terminal there (Some merchant) =
    no_code k there (Reports output.Done) (AddsTerminal terminal) refl refl

pub returns : goal.returns
returns c k (arrival.Undecoded fault) = inl refl
returns c k (arrival.Unserved m) = inl refl
returns c k (arrival.Malformed r) = ap Some (sym (malformation_code r.service r.message))
returns c k (arrival.Requested r) = (explained k r r.service).gives
returns c k (arrival.Answered moment merchant reference said) = of_answer k moment said k.merchant
returns c k arrival.CutOver =
    no_code k (nat_lt k.today last_day) CutsOver (Reports output.LastDay) refl refl
returns c k (arrival.RangeAdded range) =
    no_code k (is_valid_range range) (decision_of_new_range range k.overlapped)
    (Reports output.BadRange) (of_new_range k range k.overlapped) refl
returns c k (arrival.RangeDropped low high) = of_old_range k low high k.overlapped
returns c k (arrival.Enrolled merchant) = of_enrolment k merchant k.merchant
returns c k (arrival.TerminalAdded terminal) = of_terminal k terminal k.has_terminal k.merchant
