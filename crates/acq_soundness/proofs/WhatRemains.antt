-- Where a request stands that was completed or reversed, and what remains of its amount.
use Rattle.std.proofs.Common.{◌≡◌, ℕ, ◌-◌, ◌<◌, ◌≤◌, Bool, true, false, Some, cond, refl, ap, arith}
use Rattle.std.proofs.lemmas.Bool.{and_parts, and_from, leb-true, le-leb, ltb-true}
use Rattle.std.specs.Prelude.{◌&&◌, nat_le, nat_lt}
use Rattle.day_totals.specs.declared.leg.Leg.{Leg}
use Rattle.acq_message.specs.Numbers.{is_amount, is_accepted_amount}
use Rattle.acq_message.specs.declared.service.Service.{Service}
use Rattle.acq_message.specs.declared.service.Service.TheVariants.{Authorization}
use Rattle.acq_core.specs.declared.request.Request.{Request}
use Rattle.acq_core.specs.declared.status.Status.{Status}
use Rattle.acq_core.specs.declared.status.Status.TheVariants.{Pending, Approved, Lowered}
use Rattle.acq_core.specs.declared.remains.Remains.{Remains}
use Rattle.acq_core.specs.declared.reply_state.ReplyState.{ReplyState}
use Rattle.acq_core.specs.declared.reply_state.ReplyState.TheVariants.{Kept}
use Rattle.acq_core.specs.Known.{Prior}
use Rattle.acq_core.specs.Changes.{remains_of, remains_of_hold, reversed_status, is_lowered}
use Rattle.acq_core.specs.Tables.{is_pending, is_reversible, is_approved, leg_by, reply_state_of}
use Rattle.acq_core.specs.Decision.{is_awaited}
use Rattle.iso_codec.specs.Message.{IsoMessage}
use Rattle.acq_soundness.proofs.Lookups.{clash}

-- ---- where it stands

-- it waits for no answer, and can't be reversed
pub record IsEnded (s : Status) : Type 0 where
  pub pending : is_pending s ≡ false
  pub reversible : is_reversible s ≡ false

pub not_pending : (s : Status) → IsEnded s → s ≡ Pending → ⊥
not_pending s ended is =
    let no = ended.pending in
    let yes : is_pending s ≡ true = ap is_pending is in
    cc

-- a completed hold
pub hold_ended : (hold : Prior) → IsEnded (remains_of_hold hold).status
hold_ended hold = record { pending = refl; reversible = refl }

reversed_ended : (s : ReplyState) → IsEnded (reversed_status s)
reversed_ended (Kept reply) = record { pending = refl; reversible = refl }
reversed_ended other = record { pending = refl; reversible = refl }

-- a reversal leaves nothing of its original, or lowers it
abbrev pub left_by : Bool → Prior → ℕ → Remains
left_by lowered p remaining =
    cond lowered (record { status = Lowered; amount = remaining })
    (record { status = reversed_status p.reply_state; amount = p.amount })

-- an original that was reversed, or lowered
pub original_ended : (p : Prior) (remaining : ℕ) → IsEnded (remains_of p remaining).status
original_ended p remaining =
    elim (is_lowered p.key.service remaining) as (λ b. IsEnded (left_by b p remaining).status) [
      | true ↦ record { pending = refl; reversible = refl }
      | false ↦ reversed_ended p.reply_state
    ]

-- it is no longer approved
pub reversed_unapproved : (s : ReplyState) → is_approved (reversed_status s) ≡ false
reversed_unapproved (Kept reply) = refl
reversed_unapproved other = refl

-- what is lowered was approved: of what is pending no part may remain
pub lowered_was_approved : (s : Status) (reply : IsoMessage) (service : Service) (remaining : ℕ) →
    is_reversible s ≡ true →
    (is_awaited (reply_state_of s reply) && nat_lt 0 remaining) ≡ false →
    is_lowered service remaining ≡ true → s ≡ Approved
lowered_was_approved Pending reply Authorization remaining reversible answered lowered =
    clash (nat_lt 0 remaining) lowered answered
lowered_was_approved Pending reply service remaining reversible answered lowered = absurd (cc)
lowered_was_approved Approved reply service remaining reversible answered lowered = refl
lowered_was_approved s reply service remaining reversible answered lowered = absurd (cc)

-- what was reversed stays approved exactly where it is lowered
pub original_approved : (p : Prior) (remaining : ℕ) →
    is_approved (remains_of p remaining).status ≡ is_lowered p.key.service remaining
original_approved p remaining = step (is_lowered p.key.service remaining)
  where
    step : (b : Bool) → is_approved (left_by b p remaining).status ≡ b
    step true = refl
    step false = reversed_unapproved p.reply_state

-- ---- what remains of its amount

-- what is lowered is a hold of which something remains
pub lowered_above : (s : Service) (remaining : ℕ) → is_lowered s remaining ≡ true → 0 < remaining
lowered_above Authorization remaining e = ltb-true 0 remaining e
lowered_above service remaining e = absurd (cc)

-- what has a leg is no hold
pub legged_not_lowered : (s : Service) (row : Request) (leg : Leg) (remaining : ℕ) →
    leg_by s row ≡ Some leg → is_lowered s remaining ≡ false
legged_not_lowered Authorization row leg remaining e = absurd (cc)
legged_not_lowered service row leg remaining e = refl

-- never more than there was
pub remains_within : (p : Prior) (remaining : ℕ) → remaining < p.amount →
    (remains_of p remaining).amount ≤ p.amount
remains_within p remaining less =
    elim (is_lowered p.key.service remaining) as (λ b. (left_by b p remaining).amount ≤ p.amount) [
      | true ↦ omega arith
      | false ↦ omega arith
    ]

-- so it is an amount
pub remains_amount : (p : Prior) (remaining : ℕ) → remaining < p.amount →
    is_amount p.amount ≡ true → is_amount (remains_of p remaining).amount ≡ true
remains_amount p remaining less fits =
    let most = leb-true p.amount 999999999999 fits in
    let within = remains_within p remaining less in
    le-leb (remains_of p remaining).amount 999999999999 (omega arith)

-- a part of an accepted amount that isn't nothing is accepted
accepted_part : (n part : ℕ) → is_accepted_amount n ≡ true → 0 < part → part ≤ n →
    is_accepted_amount part ≡ true
accepted_part n part accepted above within =
    let most = leb-true n 9999999999 (and_parts (nat_le 1 n) (nat_le n 9999999999) accepted).1 in
    and_from (nat_le 1 part) (nat_le part 9999999999) (le-leb 1 part (omega arith))
    (le-leb part 9999999999 (omega arith))

-- what a reversal leaves of an accepted amount
pub remains_accepted : (p : Prior) (remaining : ℕ) → remaining < p.amount →
    is_accepted_amount p.amount ≡ true → is_accepted_amount (remains_of p remaining).amount ≡ true
remains_accepted p remaining less accepted = step (is_lowered p.key.service remaining) refl
  where
    step : (b : Bool) → is_lowered p.key.service remaining ≡ b →
        is_accepted_amount (left_by b p remaining).amount ≡ true
    step true e =
        let above = lowered_above p.key.service remaining e in
        accepted_part p.amount remaining accepted above (omega arith)
    step false e = accepted

-- what it takes
pub taken_accepted : (amount remaining : ℕ) → remaining < amount →
    is_accepted_amount amount ≡ true → is_accepted_amount (amount - remaining) ≡ true
taken_accepted amount remaining less accepted =
    accepted_part amount (amount - remaining) accepted (omega arith) (omega arith)
