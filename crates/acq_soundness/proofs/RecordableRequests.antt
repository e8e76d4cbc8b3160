-- Requests that are recorded: which they are, and what they want to be looked up.
use Rattle.std.proofs.Common.{◌≡◌, ℕ, Some, Bool, true, false, ◌⊎◌, inl, inr, refl, ap}
use Rattle.iso_codec.specs.Message.{IsoMessage}
use Rattle.acq_message.specs.declared.service.Service.{Service}
use Rattle.acq_message.specs.declared.service.Service.TheVariants.{Authorization, Financial}
use Rattle.acq_message.specs.declared.service.Service.TheVariants.{Reversal, ReversalAdvice}
use Rattle.acq_message.specs.declared.service.Service.TheVariants.{NetworkManagement}
use Rattle.acq_message.specs.declared.service.Service.TheVariants.{Reconciliation}
use Rattle.acq_core.specs.declared.wanted.Wanted.{Wanted}
use Rattle.acq_message.specs.Elements.{text_at, key_of}
use Rattle.acq_message.specs.declared.request_message.RequestMessage.{RequestMessage}
use Rattle.acq_core.specs.Known.{wanted_for}
use Rattle.acq_soundness.specs.Requests.{recordable, is_admissible, is_reversal}

-- ---- services

-- network management alone isn't recorded
pub recordable_some : (s : Service) (r : RequestMessage) → (s ≡ NetworkManagement → ⊥) →
    recordable r s ≡ Some r
recordable_some NetworkManagement r other = absurd (other refl)
recordable_some service r other = refl

pub recordable_is : (s : Service) (q r : RequestMessage) → recordable q s ≡ Some r → q ≡ r
recordable_is NetworkManagement q r e = absurd (cc)
recordable_is service q r e = cc

pub is_admissible_true : (s : Service) → (s ≡ Authorization) ⊎ (s ≡ Financial) →
    is_admissible s ≡ true
is_admissible_true s (inl is) = ap is_admissible is
is_admissible_true s (inr is) = ap is_admissible is

pub is_reversal_true : (s : Service) → (s ≡ Reversal) ⊎ (s ≡ ReversalAdvice) → is_reversal s ≡ true
is_reversal_true s (inl is) = ap is_reversal is
is_reversal_true s (inr is) = ap is_reversal is

-- ---- look-ups

-- each request that is recorded wants its merchant, its terminal and its key
pub record WantsByKey (w : Wanted) (s : Service) (m : IsoMessage) : Type 0 where
  pub merchant : w.merchant ≡ Some (text_at m 42)
  pub terminal : w.terminal ≡ Some (text_at m 41)
  pub key : w.key ≡ Some (key_of s m)

pub wants_by_key : (day : ℕ) (s : Service) (q r : RequestMessage) (m : IsoMessage) →
    recordable q s ≡ Some r → WantsByKey (wanted_for day s m) s m
wants_by_key day NetworkManagement q r m e = absurd (cc)
wants_by_key day service q r m e = record { merchant = refl; terminal = refl; key = refl }

-- what is accepted only where its day has room
abbrev pub takes_room : Service → Bool
takes_room Reconciliation = false
takes_room NetworkManagement = false
takes_room service = true

pub admissible_takes_room : (s : Service) → is_admissible s ≡ true → takes_room s ≡ true
admissible_takes_room Authorization is = refl
admissible_takes_room Financial is = refl
admissible_takes_room service is = absurd (cc)

pub reversal_takes_room : (s : Service) → is_reversal s ≡ true → takes_room s ≡ true
reversal_takes_room Reversal is = refl
reversal_takes_room ReversalAdvice is = refl
reversal_takes_room service is = absurd (cc)

-- it wants to know how many messages count
pub wants_room : (day : ℕ) (s : Service) (m : IsoMessage) → takes_room s ≡ true →
    (wanted_for day s m).used_day ≡ Some day
wants_room day Reconciliation m is = absurd (cc)
wants_room day NetworkManagement m is = absurd (cc)
wants_room day service m is = refl

-- what gets a reference wants to know how many were given
pub wants_reference : (day : ℕ) (s : Service) (m : IsoMessage) → is_admissible s ≡ true →
    (wanted_for day s m).admitted ≡ true
wants_reference day Authorization m is = refl
wants_reference day Financial m is = refl
wants_reference day service m is = absurd (cc)
