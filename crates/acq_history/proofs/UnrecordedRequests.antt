-- What a request results in that isn't recorded, or is refused.
use Rattle.std.proofs.Common.{◌≡◌, Option, Some, None, true, false, refl, sym, ap, ◌∙◌}
use Rattle.std.specs.Prelude.{◌&&◌, ◌||◌, not, is_some}
use Rattle.std.proofs.Math.Bool.{and-false}
use Rattle.acq_message.specs.declared.service.Service.{Service}
use Rattle.acq_message.specs.declared.service.Service.TheVariants.{NetworkManagement}
use Rattle.acq_message.specs.declared.response_code.ResponseCode.{ResponseCode}
use Rattle.acq_message.specs.declared.response_code.ResponseCode.TheVariants as code
use Rattle.acq_message.specs.declared.request_message.RequestMessage.{RequestMessage}
use Rattle.acq_core.specs.declared.arrival.Arrival.TheVariants.{Requested}
use Rattle.acq_core.specs.Known.{Known, Prior}
use Rattle.acq_core.specs.declared.reply_state.ReplyState.{ReplyState}
use Rattle.acq_core.specs.declared.reply_state.ReplyState.TheVariants.{Kept}
use Rattle.acq_core.specs.Decision.{Replies, network_response, repeat_of}
use Rattle.acq_core.specs.Outcome.{Outcome, outcome_of}
use Rattle.acq_core.specs.Changes.{change_of}
use Rattle.acq_core.proofs.DecisionCases.{is_refusal}
use Rattle.acq_history.specs.Entries.{is_code, is_asked, is_performed, is_approved}
use Rattle.acq_soundness.specs.Requests.{recordable}
use Rattle.acq_history.specs.Entries.{is_past_merchant, request_of, accepts}
use Rattle.acq_history.specs.Entries.{is_acceptable}

-- a code that refuses what is recorded
abbrev pub IsRefusal : ResponseCode → Type 0
IsRefusal given =
    (is_code code.Approved given ≡ false)
    × (not (is_code code.FormatError given || is_code code.InvalidMerchant given) ≡ true)

pub refusal_is : (given : ResponseCode) → is_refusal given ≡ true → IsRefusal given
refusal_is code.Approved e = absurd (cc)
refusal_is code.FormatError e = absurd (cc)
refusal_is code.InvalidMerchant e = absurd (cc)
refusal_is other e = (refl, refl)

-- what isn't approved isn't accepted
pub accepts_not : (rq : Option RequestMessage) (o : Outcome) → is_approved o ≡ false →
    accepts is_acceptable rq o ≡ false
accepts_not None o e = refl
accepts_not (Some r) o e = ap (λ b. is_acceptable r.service && b) e
    ∙ and-false (is_acceptable r.service)

-- ---- what changes nothing

-- it leaves what a history says as it was: where it passed the merchant check, its key was recorded
-- before
pub record IsQuiet (k : Known) (r : RequestMessage) (o : Outcome) : Type 0 where
  pub asked : is_asked o ≡ false
  pub performed : is_performed o ≡ false
  pub accepted : accepts is_acceptable (request_of (Requested r)) o ≡ false
  pub recorded : (q : RequestMessage) → request_of (Requested r) ≡ Some q →
      is_past_merchant o ≡ true → is_some k.recorded ≡ true

-- network management is neither accepted nor recorded
managed_accepts : (s : Service) (r : RequestMessage) (o : Outcome) → s ≡ NetworkManagement →
    accepts is_acceptable (recordable r s) o ≡ false
managed_accepts s r o is = ap (λ x. accepts is_acceptable (recordable r x) o) is

managed_unrecorded : {P : Type 0} (s : Service) (r q : RequestMessage) → s ≡ NetworkManagement →
    recordable r s ≡ Some q → P
managed_unrecorded s r q is came =
    absurd (let no : ◌≡◌ {A = Option RequestMessage} None (Some q) = ap (recordable r) (sym is)
    ∙ came in cc)

module _ (k : Known) (r : RequestMessage) where
  -- network management
  pub quiet_managed : r.service ≡ NetworkManagement →
      IsQuiet k r (outcome_of k (Replies r (network_response r.message)))
  quiet_managed is =
      record {
        asked = refl;
        performed = refl;
        accepted = managed_accepts r.service r
            (outcome_of k (Replies r (network_response r.message))) is;
        recorded = λ q came past. managed_unrecorded r.service r q is came;
      }

  -- what is not approved, and known if it is past the merchant check
  quiet_with : (o : Outcome) → is_asked o ≡ false → is_performed o ≡ false →
      is_approved o ≡ false → (is_past_merchant o ≡ true → is_some k.recorded ≡ true) →
      IsQuiet k r o
  quiet_with o asked performed approved known =
      record {
        asked = asked;
        performed = performed;
        accepted = accepts_not (request_of (Requested r)) o approved;
        recorded = λ q came past. known past;
      }

  -- an unknown merchant or terminal
  pub quiet_unknown : IsQuiet k r (outcome_of k (Replies r code.InvalidMerchant))
  quiet_unknown = quiet_with (outcome_of k (Replies r code.InvalidMerchant)) refl refl refl
      (λ past. absurd (cc))

  -- another request under a recorded key
  pub quiet_duplicate : (p : Prior) → k.recorded ≡ Some p →
      IsQuiet k r (outcome_of k (Replies r code.DuplicateTransmission))
  quiet_duplicate p is =
      quiet_with (outcome_of k (Replies r code.DuplicateTransmission)) refl refl refl
      (λ past. ap is_some is)

  -- a repeat
  pub quiet_repeated : (p : Prior) → k.recorded ≡ Some p → (s : ReplyState) →
      IsQuiet k r (outcome_of k (repeat_of s))
  quiet_repeated p is (Kept reply) =
      quiet_with (outcome_of k (repeat_of (Kept reply))) refl refl refl (λ past. ap is_some is)
  quiet_repeated p is s =
      quiet_with (outcome_of k (repeat_of s)) refl refl refl (λ past. ap is_some is)

-- a repeat changes no table
pub change_of_repeat : (k : Known) (s : ReplyState) → change_of k (repeat_of s) ≡ None
change_of_repeat k (Kept reply) = refl
change_of_repeat k other = refl
