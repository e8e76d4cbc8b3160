-- Counts among a merchant's rows, after a row more and after a change.
use Rattle.std.proofs.Common.{◌≡◌, ℕ, ◌+◌, ◌≤◌, List, [], ◌∷◌, ◌++◌, Bool, true, false, cond, inl}
use Rattle.std.proofs.Common.{inr, refl, sym, ap, ◌∙◌, arith, eqb}
use Rattle.std.specs.Prelude.{map, filter, ◌&&◌}
use Rattle.std.proofs.lemmas.Bool.{cases_Bool}
use Rattle.acq_message.specs.declared.request_key.RequestKey.{RequestKey}
use Rattle.acq_message.specs.Elements.{same_key}
use Rattle.acq_core.specs.declared.request.Request.{Request}
use Rattle.acq_core.specs.Tables.{count, is_pending, used_in}
use Rattle.acq_core.proofs.Counts.{count-push}
use Rattle.acq_soundness.proofs.Lookups.{count-view, count-same, filter-push_in, filter-push_out}
use Rattle.acq_soundness.proofs.Members.{In}
use Rattle.acq_soundness.proofs.Keys.{same_key_from, eqb_itself}
use Rattle.acq_soundness.proofs.RowsWithChanges.{Edits, changing, changing_kept}
use Rattle.acq_soundness.proofs.Runs.{kept}

-- one where a test passes
abbrev pub one_if : Bool → ℕ
one_if b = cond b 1 0

-- one more, where it passes both tests
pub count-filter_push : {X : Type 0} (p q : X → Bool) (xs : List X) (y : X) →
    count q (filter p (xs ++ y ∷ [])) ≡ count q (filter p xs) + one_if (p y && q y)
count-filter_push p q xs y =
    elim (cases_Bool (p y)) [
      | inl there ↦
          ap (count q) (filter-push_in p xs y there) ∙ (count-push q (filter p xs) y
          ∙ (last (q y) (count q (filter p xs))
          ∙ ap (λ b. count q (filter p xs) + one_if (b && q y)) (sym there)))
      | inr other ↦
          let same : count q (filter p xs) ≡ count q (filter p xs) + 0 = omega arith in
          ap (count q) (filter-push_out p xs y other)
          ∙ (same ∙ ap (λ b. count q (filter p xs) + one_if (b && q y)) (sym other))
    ]
  where
    last : (b : Bool) (n : ℕ) → cond b (1 + n) n ≡ n + one_if (true && b)
    last true n = omega arith
    last false n = omega arith

-- ---- after a change of the rows with a key

-- a change that keeps what counts
pub used_in-changed : (key : RequestKey) (changed : Request → Request) → Edits changed →
    (rows : List Request) (day : ℕ) →
    used_in (map (changing key changed) rows) day ≡ used_in rows day
used_in-changed key changed edits rows day =
    let kept = changing_kept key changed edits in
    count-view (changing key changed) (λ row. row.admitted && eqb row.day day) rows
    ∙ count-same (λ row. (changing key changed row).admitted
    && eqb (changing key changed row).day day)
    (λ row. row.admitted && eqb row.day day)
    (λ x i. (kept x).admitted i && eqb ((kept x).day i) day) rows

-- how many of a day are
abbrev pub pending_in : List Request → ℕ → ℕ
pending_in rows day = count (λ row. is_pending row.status && eqb row.day day) rows

module _ (key : RequestKey) (changed : Request → Request) (ends : (x : Request) →
    is_pending (changed x).status ≡ false)
    (day : ℕ) where
  -- where a change ends what was pending, no more are
  pub pending_in-changed : (rows : List Request) →
      pending_in (map (changing key changed) rows) day ≤ pending_in rows day
  pending_in-changed [] = omega arith
  pending_in-changed (x ∷ xs) =
      let rest = pending_in-changed xs in
      let later = pending_in (map (changing key changed) xs) day in
      let now = pending_in xs day in
      let one : (b : Bool) →
      cond (is_pending (cond b (changed x) x).status && eqb (cond b (changed x) x).day day)
      (1 + later) later
      ≤ cond (is_pending x.status && eqb x.day day) (1 + now) now =
      elim [
        | true ↦ rw (ends x)
            (elim (is_pending x.status && eqb x.day day) as (λ b. later ≤ cond b (1 + now) now) [
              | true ↦ omega arith
              | false ↦ rest
            ])
        | false ↦ elim (is_pending x.status && eqb x.day day) as
            (λ b. cond b (1 + later) later ≤ cond b (1 + now) now) [
              | true ↦ omega arith
              | false ↦ rest
            ]
      ] in
      one (same_key x.key key)

  -- and one less, where one of them was pending
  pub pending_in-answered : (rows : List Request) (row : Request) → In row rows → row.key ≡ key →
      is_pending row.status ≡ true → row.day ≡ day →
      pending_in (map (changing key changed) rows) day + 1 ≤ pending_in rows day
  pending_in-answered [] row member same pending on = absurd member
  pending_in-answered (x ∷ xs) row (inl is) same pending on =
      let rest = pending_in-changed xs in
      let later = pending_in (map (changing key changed) xs) day in
      let here : same_key x.key key ≡ true = same_key_from x.key key (ap (λ y. y.key) is ∙ same) in
      let waits : is_pending x.status ≡ true = ap (λ y. is_pending y.status) is ∙ pending in
      let today : eqb x.day day ≡ true = ap (λ n. eqb n day) (ap (λ y. y.day) is ∙ on)
      ∙ eqb_itself day in
      let now : cond
      (is_pending (changing key changed x).status && eqb (changing key changed x).day day)
      (1 + later) later
      ≡ later = rw (here, ends x) refl in
      let before : cond (is_pending x.status && eqb x.day day) (1 + pending_in xs day)
      (pending_in xs day)
      ≡ 1 + pending_in xs day = rw (waits, today) refl in
      omega arith
  pending_in-answered (x ∷ xs) row (inr member) same pending on =
      let rest = pending_in-answered xs row member same pending on in
      let later = pending_in (map (changing key changed) xs) day in
      let now = pending_in xs day in
      let one : (b : Bool) →
      cond (is_pending (cond b (changed x) x).status && eqb (cond b (changed x) x).day day)
      (1 + later) later + 1
      ≤ cond (is_pending x.status && eqb x.day day) (1 + now) now =
      elim [
        | true ↦ rw (ends x)
            (elim (is_pending x.status && eqb x.day day) as (λ b. later + 1 ≤ cond b (1 + now) now) [
              | true ↦ omega arith
              | false ↦ rest
            ])
        | false ↦ elim (is_pending x.status && eqb x.day day) as
            (λ b. cond b (1 + later) later + 1 ≤ cond b (1 + now) now) [
              | true ↦ omega arith
              | false ↦ rest
            ]
      ] in
      one (same_key x.key key)
