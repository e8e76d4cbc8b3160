-- What is recalled of the requests that wait for their issuer's answer.
use Rattle.std.specs.Prelude.{◌≡◌, ℕ, true, false, List, [], ◌++◌, filter, find, Option, Some}
use Rattle.std.specs.Prelude.{None, IfSome}
use Rattle.std.specs.List.{AllByRecursion}
use Rattle.acq_message.specs.Numbers.{is_number}
use Rattle.acq_core.specs.declared.request.Request.{Request}
use Rattle.acq_core.specs.declared.status.Status.{Status}
use Rattle.acq_core.specs.Tables.{is_pending, requests_of}
use Rattle.acq_recall.specs.declared.waiting.Waiting.{Waiting}

-- the merchant's request with this reference, among these
abbrev pub referred_among : List Request → List ℕ → ℕ → Option Request
referred_among rows m reference =
    find (λ row. is_number reference row.reference) (requests_of m rows)

-- its reference finds it
abbrev pub IsFoundAmong : List Request → Request → Type 0
IsFoundAmong rows row =
    IfSome row.reference (λ n. referred_among rows row.key.merchant n ≡ Some row)

-- its reference is new
abbrev pub HasNewReference : List Request → Request → Type 0
HasNewReference rows row =
    IfSome row.reference (λ n. referred_among rows row.key.merchant n ≡ None)

-- Each that came since is found by its reference. These and the earlier ones are all that wait, if
-- it is said so.
pub record RecallsWaiting (waiting : Waiting) (rows : List Request) : Type 0 where
  pub found : AllByRecursion (IsFoundAmong rows) waiting.rows.items
  pub all : waiting.is_all ≡ true →
      waiting.earlier.items ++ waiting.rows.items ≡ filter (λ row. is_pending row.status) rows

-- none is recalled, and others may wait
pub record IsBlank (waiting : Waiting) : Type 0 where
  pub earlier : waiting.earlier.items ≡ []
  pub rows : waiting.rows.items ≡ []
  pub not_all : waiting.is_all ≡ false

-- A change of a request gives it this status, and leaves what finds it and whether it counts.
pub record Restates (becomes : Status) (change : Request → Request) : Type 0 where
  pub status : (row : Request) → (change row).status ≡ becomes
  pub key : (row : Request) → (change row).key ≡ row.key
  pub reference : (row : Request) → (change row).reference ≡ row.reference
  pub admitted : (row : Request) → (change row).admitted ≡ row.admitted
  pub day : (row : Request) → (change row).day ≡ row.day
