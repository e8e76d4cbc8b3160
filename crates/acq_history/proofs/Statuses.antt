-- The status of a row, by what the row says.
use Rattle.std.proofs.Common.{◌≡◌, ℕ, Option, Some, None, Bool, true, false, cond, refl}
use Rattle.std.specs.Prelude.{is_some}
use Rattle.iso_codec.specs.Message.{IsoMessage}
use Rattle.acq_core.specs.declared.status.Status.{Status}
use Rattle.acq_core.specs.declared.status.Status.TheVariants.{Approved, Lowered}
use Rattle.acq_core.specs.declared.reply_state.ReplyState.TheVariants.{Kept}
use Rattle.acq_core.specs.declared.request.Request.{Request}
use Rattle.acq_core.specs.Decision.{is_open_at}
use Rattle.acq_core.specs.Tables.{reply_state_of, is_approved, hold_end_by}
use Rattle.acq_message.specs.declared.service.Service.{Service}
use Rattle.acq_message.specs.declared.service.Service.TheVariants.{Authorization}

-- what is approved keeps its reply
pub record IsApproved (s : Status) : Type 0 where
  pub is : is_approved s ≡ true
  pub kept : (reply : IsoMessage) → reply_state_of s reply ≡ Kept reply

pub approved : (s : Status) → is_approved s ≡ true → IsApproved s
approved Approved e = record { is = refl; kept = λ reply. refl }
approved Lowered e = record { is = refl; kept = λ reply. refl }
approved s e = absurd (cc)

-- a row that has an end is an approved hold
pub open_row : (s : Service) (row : Request) → is_some (hold_end_by s row) ≡ true →
    (s ≡ Authorization) × IsApproved row.status
open_row Authorization row e = step (is_approved row.status) refl e
  where
    step : (b : Bool) → is_approved row.status ≡ b → is_some (cond b row.hold_end None) ≡ true →
        (Authorization ≡ Authorization) × IsApproved row.status
    step true h f = (refl, approved row.status h)
    step false h f = absurd (cc)
open_row s row e = absurd (cc)

-- what is open has an end
pub is_some_open : (moment : ℕ) (o : Option ℕ) → is_open_at moment o ≡ true → is_some o ≡ true
is_some_open moment None e = absurd (cc)
is_some_open moment (Some until) e = refl
