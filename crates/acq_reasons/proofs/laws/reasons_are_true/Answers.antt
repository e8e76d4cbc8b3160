-- A request by its reason, and what the first check refuses by what it was refused for.
use Rattle.std.proofs.Common.{ℕ, Option, Some, None, Result, Ok, Err}
use Rattle.std.proofs.Common.{inl, inr, refl}
use Rattle.std.specs.Prelude.{IfSome}
use Rattle.std.proofs.lemmas.Bool.{cases_Bool}
use Rattle.iso_codec.specs.declared.decode_fault.DecodeFault.{DecodeFault}
use Rattle.iso_codec.specs.Message.{IsoMessage}
use Rattle.iso_codec.specs.Reading.{reading_of}
use Rattle.acq_message.specs.declared.service.Service.{Service}
use Rattle.acq_message.specs.declared.request_message.RequestMessage.{RequestMessage}
use Rattle.acq_message.specs.declared.verdict.Verdict.{Verdict}
use Rattle.acq_message.specs.declared.verdict.Verdict.TheVariants as verdict
use Rattle.acq_message.specs.FirstCheck.{is_malformed}
use Rattle.acq_message.specs.Services.{service_of}
use Rattle.acq_core.specs.declared.merchant.Merchant.{Merchant}
use Rattle.acq_core.specs.declared.event.Event.TheVariants as event
use Rattle.acq_core.specs.declared.arrival.Arrival.{Arrival}
use Rattle.acq_core.specs.declared.reply_state.ReplyState.{ReplyState}
use Rattle.acq_core.specs.declared.reply_state.ReplyState.TheVariants.{Kept, Awaited, Late}
use Rattle.acq_core.specs.Arrivals.{checked, arrival_of_message, arrival_of_reading}
use Rattle.acq_core.specs.Known.{Known, Prior}
use Rattle.acq_reasons.specs.Reasons.{reason_for, answer_reason, referred_reason, answer_reason_of}
use Rattle.acq_reasons.specs.Reasons.{verdict_reason}
use Rattle.acq_reasons.specs.Truths.{IsTrueOf, SaysOfAnswer}
use Rattle.acq_reasons.proofs.FirstChecks.{malformation_says_true}
use Rattle.acq_reasons.proofs.Explained.{explained}
use Rattle.acq_reasons.proofs.laws.reasons_are_true.Goals as goal

says : (k : Known) (a : Arrival) → Type 0
says k a = IfSome (reason_for k a) (IsTrueOf k a)

of_request : (k : Known) (r : RequestMessage) → says k (checked r)
unfolding says
of_request k r =
    elim (cases_Bool (is_malformed r.service r.message)) [
      | inl refused ↦ rw refused (malformation_says_true k r refused)
      | inr passed ↦ rw passed (explained k r r.service).says
    ]

of_service : (k : Known) (moment : ℕ) (m : IsoMessage) (o : Option Service) →
    says k (arrival_of_message moment m o)
unfolding says
of_service k moment m None = tt
of_service k moment m (Some service) =
    of_request k (record { moment = moment; service = service; message = m })

of_reading : (k : Known) (moment : ℕ) (read : Result IsoMessage DecodeFault) →
    says k (arrival_of_reading moment read)
unfolding says
of_reading k moment (Ok m) = of_service k moment m (service_of m.kind)
of_reading k moment (Err fault) = tt

-- ---- answers

of_verdict : (said : Verdict) → IfSome (verdict_reason said) (SaysOfAnswer said)
of_verdict (verdict.Approved id) = tt
of_verdict (verdict.Declined text) = refl
of_verdict verdict.NoAnswer = refl

of_reply_state : (said : Verdict) (s : ReplyState) →
    IfSome (answer_reason_of said s) (SaysOfAnswer said)
of_reply_state said (Kept reply) = tt
of_reply_state said (Awaited draft) = of_verdict said
of_reply_state said Late = tt

of_referred : (said : Verdict) (o : Option Prior) →
    IfSome (referred_reason said o) (SaysOfAnswer said)
of_referred said None = tt
of_referred said (Some p) = of_reply_state said p.reply_state

of_answer : (k : Known) (said : Verdict) (o : Option Merchant) →
    IfSome (answer_reason k said o) (SaysOfAnswer said)
of_answer k said None = tt
of_answer k said (Some merchant) = of_referred said k.referred

pub returns : goal.returns
unfolding says
returns c k (event.Frame moment text) = of_reading k moment (reading_of text)
returns c k (event.Answer moment merchant reference said) = of_answer k said k.merchant
returns c k (event.Cutover moment) = tt
returns c k (event.AddRange range) = tt
returns c k (event.DropRange low high) = tt
returns c k (event.Enrol merchant currency first) = tt
returns c k (event.AddTerminal merchant terminal) = tt
