-- Rows that look-ups find.
use Rattle.std.proofs.Common.{◌≡◌, ℕ, List, Option, Some, None, true, ap, ◌∙◌, arith}
use Rattle.std.proofs.lemmas.Bool.Decides.{nat_tests}
use Rattle.std.specs.Prelude.{option_and_then, find}
use Rattle.std.specs.Str.{bytes_eq}
use Rattle.acq_message.specs.declared.request_key.RequestKey.{RequestKey}
use Rattle.acq_message.specs.Elements.{same_key}
use Rattle.acq_message.specs.Numbers.{is_number}
use Rattle.acq_core.specs.declared.request.Request.{Request}
use Rattle.acq_core.specs.Known.{Prior}
use Rattle.acq_core.specs.Tables.{Tables, prior_of, requests_of, recorded_in, referred_in}
use Rattle.acq_soundness.proofs.Members.{In, In-find, In-find_none, In-filter, In-filtered}
use Rattle.acq_soundness.proofs.Lookups.{map_some, map_none, then_some}
use Rattle.acq_soundness.proofs.Keys.{bytes_eq_is, bytes_eq_from, same_key_from}
use Rattle.acq_core.specs.declared.merchant.Merchant.{Merchant}

-- the merchant with a name
abbrev pub merchant_among : List Merchant → List ℕ → Option Merchant
merchant_among merchants m = find (λ row. bytes_eq row.id m) merchants

-- no request has this key
abbrev pub IsNew : Tables → RequestKey → Type 0
IsNew t key = (row : Request) → In row t.requests → row.key ≡ key → ⊥

-- the row that says this
pub record IsRow (t : Tables) (p : Prior) : Type 0 where
  pub row : Request
  pub member : In row t.requests
  pub says : prior_of row ≡ p

-- a row that has a reference
pub record IsReferred (t : Tables) (p : Prior) : Type 0 where
  pub found : IsRow t p
  pub number : ℕ
  pub reference : found.row.reference ≡ Some number

-- ---- what finds them

pub is_number_is : (n : ℕ) (o : Option ℕ) → is_number n o ≡ true → o ≡ Some n
is_number_is n None e = absurd (cc)
is_number_is n (Some m) e = let same : m ≡ n = grind (arith, nat_tests) in ap (λ x. Some x) same

-- the row that a key finds among a merchant's
pub row_of_key : (t : Tables) (m : List ℕ) (o : Option RequestKey) (p : Prior) →
    option_and_then (recorded_in (requests_of m t.requests)) o ≡ Some p →
    (found : IsRow t p) × (found.row.key.merchant ≡ m)
row_of_key t m o p e =
    let a = then_some (recorded_in (requests_of m t.requests)) o p e in
    let b = map_some prior_of (find (λ row. same_key row.key a.0) (requests_of m t.requests)) p a.2
    in
    let c = In-find (λ row. same_key row.key a.0) (requests_of m t.requests) b.0 b.1 in
    let d = In-filtered (λ row. bytes_eq row.key.merchant m) b.0 t.requests c.0 in
    (record { row = b.0; member = d.0; says = b.2 }, bytes_eq_is b.0.key.merchant m d.1)

-- the row that a reference finds among a merchant's
pub row_of_reference : (t : Tables) (m : List ℕ) (o : Option ℕ) (p : Prior) →
    option_and_then (referred_in (requests_of m t.requests)) o ≡ Some p →
    (referred : IsReferred t p) × (referred.found.row.key.merchant ≡ m)
row_of_reference t m o p e =
    let a = then_some (referred_in (requests_of m t.requests)) o p e in
    let b = map_some prior_of (find (λ row. is_number a.0 row.reference) (requests_of m t.requests))
    p a.2 in
    let c = In-find (λ row. is_number a.0 row.reference) (requests_of m t.requests) b.0 b.1 in
    let d = In-filtered (λ row. bytes_eq row.key.merchant m) b.0 t.requests c.0 in (
      record {
        found = record { row = b.0; member = d.0; says = b.2 };
        number = a.0;
        reference = is_number_is a.0 b.0.reference c.1;
      },
      bytes_eq_is b.0.key.merchant m d.1,
    )

-- a key that finds nothing among its merchant's rows is new
pub is_new : (t : Tables) (m : List ℕ) (key : RequestKey) → key.merchant ≡ m →
    recorded_in (requests_of m t.requests) key ≡ None → IsNew t key
is_new t m key mine e row member same =
    let none = map_none prior_of (find (λ x. same_key x.key key) (requests_of m t.requests)) e in
    let here : In row (requests_of m t.requests) =
    In-filter (λ x. bytes_eq x.key.merchant m) row t.requests member
    (bytes_eq_from row.key.merchant m (ap (λ k. k.merchant) same ∙ mine)) in
    let no = In-find_none (λ x. same_key x.key key) (requests_of m t.requests) none row here in
    let yes = same_key_from row.key key same in
    absurd (cc)
