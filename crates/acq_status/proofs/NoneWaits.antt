-- Where no request waits, none is pending of any day.
use Rattle.std.proofs.Common.{◌≡◌, ◌==◌, ◌&&◌, ◌+◌, ℕ, Bool, true, false, List, [], ◌∷◌, None}
use Rattle.std.proofs.Common.{refl, cond, filter, length, rules}
use Rattle.acq_core.specs.declared.request.Request.{Request}
use Rattle.acq_core.specs.Tables.{Tables, count, is_pending}
use Rattle.acq_book.specs.Lookups.{pending_at, waiting_at, waiting_count_at}
use Rattle.acq_status.specs.Figures.{first_of, first_waiting, pending_to}

-- none is the first of none
pub none_first : (t : Tables) → waiting_count_at t ≡ 0 → first_waiting t ≡ None
none_first t none = go (waiting_at t) none
  where
    go : (rows : List Request) → length rows ≡ 0 → first_of rows ≡ None
    go [] is = refl
    go (row ∷ rows) is = absurd (let no = is in cc)

none_counted : {X : Type 0} (p q : X → Bool) (xs : List X) → first_of (filter p xs) ≡ None
    → count (λ x. p x && q x) xs ≡ 0
none_counted p q [] none = refl
none_counted p q (x ∷ xs) none =
    (elim (p x)
    as (λ b. first_of (cond b (x ∷ filter p xs) (filter p xs)) ≡ None
    → cond (b && q x) (1 + count (λ x. p x && q x) xs) (count (λ x. p x && q x) xs) ≡ 0)
    [ true ↦ (λ some. search some) | false ↦ none_counted p q xs ]) none

-- the day's count alone is told
pub none_waits : (t : Tables) (today : ℕ) → first_waiting t ≡ None
    → pending_to t today ≡ record { day = today; requests = 0 } ∷ []
none_waits t today none =
    let counted : pending_at t today ≡ 0 =
    none_counted (λ row. is_pending row.status) (λ row. row.day == today) t.requests none in
    search (rules, none, counted)
