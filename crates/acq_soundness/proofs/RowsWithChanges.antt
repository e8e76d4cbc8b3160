-- What a change of a request's row keeps, and rows in which the one with a key was changed.
use Rattle.std.proofs.Common.{◌≡◌, ℕ, List, Option, Bool, true, false, cond, refl, ap, subst}
use Rattle.std.proofs.Common.{◌∙◌, sym}
use Rattle.std.specs.Prelude.{All, Contains, map}
use Rattle.std.proofs.lemmas.List.Elements.{All-map, All-weaker, All-contains}
use Rattle.std.proofs.lemmas.List.Elements.{All-contains_itself}
use Rattle.iso_codec.specs.Message.{IsoMessage}
use Rattle.acq_message.specs.declared.request_key.RequestKey.{RequestKey}
use Rattle.acq_message.specs.Elements.{same_key}
use Rattle.acq_core.specs.declared.request.Request.{Request}
use Rattle.acq_core.specs.declared.status.Status.{Status}
use Rattle.acq_core.specs.declared.remains.Remains.{Remains}
use Rattle.acq_core.specs.Tables.{requests_of, with_changed, answered_row, followed_row}
use Rattle.std.specs.Str.{bytes_eq}
use Rattle.acq_soundness.proofs.Lookups.{filter-map}
use Rattle.acq_soundness.proofs.Members.{In, In-mapped, from_In, to_In}
use Rattle.acq_soundness.proofs.Keys.{same_key_is, same_key_from}

-- ---- what a change keeps

-- a row, and what an answer, a completion or a reversal makes of it
pub record IsChange (p q : Request) : Type 0 where
  pub key : q.key ≡ p.key
  pub essence : q.essence ≡ p.essence
  pub reference : q.reference ≡ p.reference
  pub follows : q.follows ≡ p.follows
  pub leg : q.leg ≡ p.leg
  pub day : q.day ≡ p.day
  pub card : q.card ≡ p.card
  pub acquirer : q.acquirer ≡ p.acquirer
  pub hold_days : q.hold_days ≡ p.hold_days
  pub admitted : q.admitted ≡ p.admitted

-- such a change of any row
abbrev pub Edits : (Request → Request) → Type 0
Edits changed = (row : Request) → IsChange row (changed row)

pub followed_kept : (remains : Remains) → Edits (followed_row remains)
followed_kept remains row = record {
  key = refl;
  essence = refl;
  reference = refl;
  follows = refl;
  leg = refl;
  day = refl;
  card = refl;
  acquirer = refl;
  hold_days = refl;
  admitted = refl;
}

pub answered_kept : (status : Status) (reply : IsoMessage) (until : Option ℕ) →
    Edits (answered_row status reply until)
answered_kept status reply until row = record {
  key = refl;
  essence = refl;
  reference = refl;
  follows = refl;
  leg = refl;
  day = refl;
  card = refl;
  acquirer = refl;
  hold_days = refl;
  admitted = refl;
}

pub unchanged : (row : Request) → IsChange row row
unchanged row = record {
  key = refl;
  essence = refl;
  reference = refl;
  follows = refl;
  leg = refl;
  day = refl;
  card = refl;
  acquirer = refl;
  hold_days = refl;
  admitted = refl;
}

-- ---- the row with a key

-- the change of each row
abbrev pub changing : RequestKey → (Request → Request) → Request → Request
changing key changed row = cond (same_key row.key key) (changed row) row

-- it keeps as much
pub changing_kept : (key : RequestKey) (changed : Request → Request) → Edits changed →
    Edits (changing key changed)
changing_kept key changed edits row = one (same_key row.key key)
  where
    one : (b : Bool) → IsChange row (cond b (changed row) row)
    one true = edits row
    one false = unchanged row

-- a row of the changed rows: one that has another key, or a changed one
pub data IsChanged (key : RequestKey) (changed : Request → Request) (rows : List Request)
    (x : Request) : Type 0 where
  Other : In x rows → (x.key ≡ key → ⊥) → IsChanged key changed rows x
  Made : (y : Request) → In y rows → y.key ≡ key → changed y ≡ x → IsChanged key changed rows x

pub changed_is : (key : RequestKey) (changed : Request → Request) (rows : List Request)
    (x : Request) → In x (with_changed key changed rows) → IsChanged key changed rows x
changed_is key changed rows x h =
    let a = In-mapped (λ row. cond (same_key row.key key) (changed row) row) x rows h in
    let step : (b : Bool) → same_key a.0.key key ≡ b → cond b (changed a.0) a.0 ≡ x →
    IsChanged key changed rows x =
    elim [
      | true ↦ (λ q e. Made a.0 a.1 (same_key_is a.0.key key q) e)
      | false ↦
          (λ q e. Other (subst (λ z. In z rows) e a.1)
          (λ same. absurd (let yes = same_key_from a.0.key key (ap (λ z. z.key) e ∙ same) in cc)))
    ] in
    step (same_key a.0.key key) refl a.2

-- what holds of all rows, and of the changed one, holds of all after it
pub All-with_changed : (P : Request → Type 0) (key : RequestKey) (changed : Request → Request)
    (rows : List Request) → ((x : Request) → x.key ≡ key → P x → P (changed x)) → All P rows →
    All P (with_changed key changed rows)
All-with_changed P key changed rows keeps h =
    All-map P (changing key changed) rows
    (All-weaker P (λ x. P (changing key changed x)) (λ x p. one x p (same_key x.key key) refl) rows
    h)
  where
    one : (x : Request) → P x → (b : Bool) → same_key x.key key ≡ b → P (cond b (changed x) x)
    one x p true e = keeps x (same_key_is x.key key e) p
    one x p false e = p

-- so it is where the changed row is the only one with its key
pub All-with_only_changed : (P : Request → Type 0) (row : Request) (changed : Request → Request)
    (rows : List Request) → ((x : Request) → In x rows → x.key ≡ row.key → x ≡ row) →
    P (changed row) → All P rows → All P (with_changed row.key changed rows)
All-with_only_changed P row changed rows only holds h =
    All-map P (changing row.key changed) rows
    (All-weaker (Contains rows) (λ x. P (changing row.key changed x))
    (λ x there. one x there (same_key x.key row.key) refl) rows (All-contains_itself rows))
  where
    one : (x : Request) → Contains rows x → (b : Bool) → same_key x.key row.key ≡ b →
        P (cond b (changed x) x)
    one x there true e =
        subst (λ y. P (changed y))
        (sym (only x (to_In x rows there) (same_key_is x.key row.key e))) holds
    one x there false e = All-contains P rows x h there

-- what holds of all rows holds of one of them
pub All-member : (P : Request → Type 0) (rows : List Request) (row : Request) → All P rows →
    In row rows → P row
All-member P rows row h member = All-contains P rows row h (from_In row rows member)

-- a merchant's rows after a change
pub requests_of-changed : (m : List ℕ) (key : RequestKey) (changed : Request → Request) →
    Edits changed → (rows : List Request) →
    requests_of m (with_changed key changed rows) ≡ map (changing key changed) (requests_of m rows)
requests_of-changed m key changed edits rows =
    filter-map (λ x. bytes_eq x.key.merchant m) (changing key changed) (changing key changed)
    (λ x. ap (λ k. bytes_eq k.merchant m) (changing_kept key changed edits x).key) (λ x e. refl)
    rows
