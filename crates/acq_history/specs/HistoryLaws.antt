-- What holds of every history.
use Rattle.std.specs.Prelude.{◌≡◌, ◌+◌, List, ◌∷◌, Some, if◌then◌else◌}
use Rattle.acq_core.specs.declared.merchant.Merchant.{Merchant}
use Rattle.acq_core.specs.declared.posting.Posting.{Posting}
use Rattle.acq_message.specs.declared.request_message.RequestMessage.{RequestMessage}
use Rattle.acq_core.specs.declared.arrival.Arrival.TheVariants.{Requested}
use Rattle.acq_history.specs.Entries.{Entry}
use Rattle.acq_history.specs.History.{enrolled, is_admission, admitted, next_reference, posting_of}

-- the next reference is the merchant's first until one is admitted, and then one more after each
-- admitted request, and the same after all else
pub record CountsReferences (h : List Entry) (merchant : Merchant) : Type 0 where
  pub first : admitted h ≡ 0 → next_reference h ≡ merchant.first_reference
  pub later : (e : Entry) →
      next_reference (e ∷ h) ≡ (if is_admission e h then next_reference h + 1 else next_reference h)

-- The references of an enrolled merchant count up from its first.
abbrev pub ReferencesCountUp : Type 0
ReferencesCountUp =
    (h : List Entry) (merchant : Merchant) → enrolled h ≡ Some merchant →
    CountsReferences h merchant

-- What a request posts is of the day on which it came.
abbrev pub RequestsPostToday : Type 0
RequestsPostToday =
    (e : Entry) (h : List Entry) (r : RequestMessage) (p : Posting) →
    e.arrival ≡ Requested r → posting_of e h ≡ Some p → p.day ≡ e.day
