-- What the checks let pass, in numbers and in the entries of a history.
use Rattle.std.specs.Prelude.{◌≡◌, ◌⊎◌, ◌↔◌, ◌≤◌, ◌+◌, ◌-◌, ◌*◌, ℕ, ◌||◌, true, false, List}
use Rattle.std.specs.Prelude.{◌++◌, take, drop, length, replicate, Option, Some, is_some}
use Rattle.std.specs.List.{list_any}
use Rattle.std.specs.Str.Parse.{digits_value}
use Rattle.day_totals.specs.Day.{date_of}
use Rattle.acq_message.specs.Elements.{key_of}
use Rattle.acq_message.specs.Numbers.{is_accepted_amount}
use Rattle.acq_core.specs.Decision.{is_expired, is_open_at, fits_acquirer}
use Rattle.acq_history.specs.Entries.{Entry, is_completing, is_reversing, approval_in}
use Rattle.acq_history.specs.History.{Found, is_admitted, is_accepted, is_reversible, reference_of}
use Rattle.acq_history.specs.History.{answer_to}

-- The accepted amounts are 1 to 9,999,999,999.
abbrev pub AmountsAreWithin : Type 0
AmountsAreWithin =
    (n : ℕ) → (is_accepted_amount n ≡ true) ↔ ((1 ≤ n) × (n ≤ 9999999999))

-- an expiry, YYMM, of a month of 20YY that isn't before the month of a day
pub record IsInForce (today : ℕ) (expiry : List ℕ) : Type 0 where
  pub year : ℕ
  pub month : ℕ
  pub years : year ≡ 2000 + digits_value 10 (take 2 expiry)
  pub months : month ≡ digits_value 10 (drop 2 expiry)
  pub first : 1 ≤ month
  pub last : month ≤ 12
  pub not_before : (date_of today).year * 12 + (date_of today).month ≤ year * 12 + month

-- A card hasn't expired exactly if its expiry, where one is known, is in force.
abbrev pub CardsAreInForce : Type 0
CardsAreInForce =
    (today : ℕ) (expiry : Option (List ℕ)) →
    (is_expired today expiry ≡ false)
    ↔ ((known : List ℕ) → expiry ≡ Some known → IsInForce today known)

-- A hold is open exactly if it has an end, up to its last second.
abbrev pub HoldsAreOpenToTheirEnd : Type 0
HoldsAreOpenToTheirEnd =
    (moment : ℕ) (hold_end : Option ℕ) →
    (is_open_at moment hold_end ≡ true) ↔ ((last : ℕ) × (hold_end ≡ Some last) × (moment ≤ last))

-- An original's acquirer, where it has one, is named by zeros, or by itself behind zeros, and by
-- nothing else.
abbrev pub AcquirersAreNamed : Type 0
AcquirersAreNamed =
    (text : List ℕ) (acquirer : Option (List ℕ)) →
    (fits_acquirer text acquirer ≡ true)
    ↔ ((own : List ℕ) → acquirer ≡ Some own →
    (text ≡ replicate 11 48) ⊎ (text ≡ replicate (11 - length own) 48 ++ own))

-- an original that stands: admitted or accepted, and since then neither completed nor reversed, nor
-- declined by its issuer
pub record IsStanding (f : Found) : Type 0 where
  pub accepted : (is_admitted f || is_accepted f) ≡ true
  pub uncompleted : (n : ℕ) → reference_of f ≡ Some n → list_any (is_completing n) f.later ≡ false
  pub unreversed :
      list_any (is_reversing (key_of f.request.service f.request.message)) f.later ≡ false
  pub undeclined : (e : Entry) → answer_to f ≡ Some e → is_some (approval_in e.arrival) ≡ true

-- What stands can be reversed, and nothing else.
abbrev pub OriginalsStand : Type 0
OriginalsStand = (f : Found) → (is_reversible f ≡ true) ↔ IsStanding f
