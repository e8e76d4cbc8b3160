-- What is so of each status in the list is so of every status, and a status is known by its number.
use Rattle.std.proofs.Common.{◌≡◌, ◌==◌, Bool, true, List, [], ◌∷◌, map, Some, refl, sym}
use Rattle.std.proofs.Common.{ap, ◌∙◌}
use Rattle.std.proofs.lemmas.Bool.{eqb-true}
use Rattle.std.specs.List.{AllByRecursion}
use Rattle.iso_codec.specs.Message.{IsoMessage}
use Rattle.acq_core.specs.declared.status.Status.{Status}
use Rattle.acq_core.specs.declared.status.Status.TheVariants.{Refused, Pending, Declined, Approved}
use Rattle.acq_core.specs.declared.status.Status.TheVariants.{Completed, Reversed}
use Rattle.acq_core.specs.declared.status.Status.TheVariants.{ReversedPending, Reconciled}
use Rattle.acq_core.specs.declared.status.Status.TheVariants.{Lowered}
use Rattle.acq_core.specs.declared.reply_state.ReplyState.TheVariants.{Awaited}
use Rattle.acq_core.specs.Statuses.{all_statuses, status_number, status_numbered}
use Rattle.acq_core.specs.Decision.{is_awaited}
use Rattle.acq_core.specs.Tables.{reply_state_of, is_pending}

-- what holds of each in the list holds of every status
pub by_status : (P : Status → Type 0) → AllByRecursion P all_statuses → (s : Status) → P s
by_status P all Refused = all.0
by_status P all Pending = all.1.0
by_status P all Declined = all.1.1.0
by_status P all Approved = all.1.1.1.0
by_status P all Completed = all.1.1.1.1.0
by_status P all Reversed = all.1.1.1.1.1.0
by_status P all ReversedPending = all.1.1.1.1.1.1.0
by_status P all Reconciled = all.1.1.1.1.1.1.1.0
by_status P all Lowered = all.1.1.1.1.1.1.1.1.0

each_alike : {X : Type 0} (f g : Status → X) (all : List Status) → map f all ≡ map g all
    → AllByRecursion (λ s. f s ≡ g s) all
each_alike f g [] h = tt
each_alike f g (s ∷ later) h = (cc, each_alike f g later (cc))

-- two functions that give the list's statuses the same give every status the same
pub alike : {X : Type 0} (f g : Status → X) → map f all_statuses ≡ map g all_statuses
    → (s : Status) → f s ≡ g s
alike f g h = by_status (λ s. f s ≡ g s) (each_alike f g all_statuses h)

-- ---- by number

-- a number gives its status back
pub status_back : (s : Status) → status_numbered (status_number s) ≡ Some s
status_back = alike (λ s. status_numbered (status_number s)) Some refl

-- no two statuses have one number
pub same_number : (s t : Status) → status_number s ≡ status_number t → s ≡ t
same_number s t e =
    let both : Some s ≡ Some t = sym (status_back s) ∙ ap status_numbered e ∙ status_back t in cc

-- ---- what one status alone says

-- a test that only one of the list passes is passed by no other
pub only_one : (test : Status → Bool) (one : Status)
    → map test all_statuses ≡ map (λ s. status_number s == status_number one) all_statuses
    → (s : Status) → test s ≡ true → s ≡ one
only_one test one h s passes =
    same_number s one
    (eqb-true _ _ (sym (alike test (λ t. status_number t == status_number one) h s) ∙ passes))

pub only_pending : (s : Status) → is_pending s ≡ true → s ≡ Pending
only_pending = only_one is_pending Pending refl

-- an answer is awaited of pending requests alone
pub only_awaited : (s : Status) (reply draft : IsoMessage) → reply_state_of s reply ≡ Awaited draft
    → s ≡ Pending
only_awaited s reply draft e =
    only_one (λ t. is_awaited (reply_state_of t reply)) Pending refl s (ap is_awaited e)
