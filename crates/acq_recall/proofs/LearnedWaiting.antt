-- Which requests wait, as a walk showed them.
use Rattle.std.proofs.Common.{◌≡◌, ◌∙◌, ⊎_elim, ℕ, ◌+◌, ◌==◌, Bool, true, false, cond, List, []}
use Rattle.std.proofs.Common.{◌∷◌, ◌++◌, refl, sym, ap, arith}
use Rattle.std.specs.Prelude.{◌&&◌, filter}
use Rattle.std.proofs.lemmas.List.{append-nil, append_assoc}
use Rattle.acq_core.specs.declared.request.Request.{Request}
use Rattle.acq_core.specs.Tables.{Tables, count, is_pending}
use Rattle.acq_book.specs.Lookups.{pending_at}
use Rattle.acq_book.specs.Visits.{SawAll}
use Rattle.acq_recall.specs.Collected.{Keeps}
use Rattle.acq_recall.specs.Recalled.{Recalls}
use Rattle.acq_recall.specs.Waiting.{RecallsWaiting}
use Rattle.acq_recall.specs.declared.collecting.Collecting.{Collecting}
use Rattle.acq_recall.specs.declared.recollection.Recollection.{Recollection}
use Rattle.acq_recall.specs.declared.waiting.Waiting.{Waiting}

-- all that were shown are kept
pub collected : (rows : List Request) (v w : Collecting) → SawAll Keeps rows v w
    → w.is_whole ≡ true → (v.is_whole ≡ true) × (w.rows.items ≡ v.rows.items ++ rows)
collected [] v w same whole = (
  ap (λ (c : Collecting). c.is_whole) same ∙ whole,
  sym (ap (λ (c : Collecting). c.rows.items) same) ∙ sym (append-nil v.rows.items),
)
collected (row ∷ rows) v w saw whole =
    ⊎_elim
    (λ more.
    let rest = collected rows more.0 w more.2 whole in
    let one = more.1 rest.0 in (
      one.1.0,
      rest.1 ∙ (ap (λ xs. xs ++ rows) one.1.1
          ∙ append_assoc v.rows.items (row ∷ []) rows),
    ))
    (λ last. absurd (let e : false ≡ true = (last whole).0 in cc))
    saw

-- with other requests that wait recalled
pub with_waiting : (r : Recollection) (waiting : Waiting) (t : Tables) → Recalls r t
    → RecallsWaiting waiting t.requests → Recalls (record r { waiting = waiting }) t
with_waiting r waiting t is these = record {
  row = is.row;
  merchants = is.merchants;
  terminals = is.terminals;
  ranges = is.ranges;
  enrolled_counts = is.enrolled_counts;
  counts = is.counts;
  waiting = these;
}

pub without_waiting : (r : Recollection) (waiting : Waiting) (t : Tables)
    → Recalls (record r { waiting = waiting }) t → RecallsWaiting r.waiting t.requests
    → Recalls r t
without_waiting r waiting t is those = record {
  row = is.row;
  merchants = is.merchants;
  terminals = is.terminals;
  ranges = is.ranges;
  enrolled_counts = is.enrolled_counts;
  counts = is.counts;
  waiting = those;
}

-- ---- how many wait on a day

count_both : {X : Type 0} (p : X → Bool) (xs ys : List X)
    → count p (xs ++ ys) ≡ count p xs + count p ys
count_both p [] ys = omega arith
count_both p (x ∷ xs) ys =
    let rest = count_both p xs ys in
    elim (p x) as (λ b. cond b (1 + count p (xs ++ ys)) (count p (xs ++ ys))
    ≡ cond b (1 + count p xs) (count p xs) + count p ys)
    [ true ↦ omega arith | false ↦ rest ]

count_passed : {X : Type 0} (p q : X → Bool) (xs : List X)
    → count p (filter q xs) ≡ count (λ x. q x && p x) xs
count_passed p q [] = refl
count_passed p q (x ∷ xs) =
    let rest = count_passed p q xs in
    elim (q x) as (λ b. count p (cond b (x ∷ filter q xs) (filter q xs))
    ≡ cond (b && p x) (1 + count (λ x. q x && p x) xs) (count (λ x. q x && p x) xs))
    [ true ↦ (λ i. cond (p x) (1 + rest i) (rest i)) | false ↦ rest ]

pub pending_known : (waiting : Waiting) (t : Tables) (day : ℕ)
    → RecallsWaiting waiting t.requests → waiting.is_all ≡ true
    → count (λ (row : Request). row.day == day) waiting.earlier.items
    + count (λ (row : Request). row.day == day) waiting.rows.items ≡ pending_at t day
pending_known waiting t day is all =
    sym (count_both (λ (row : Request). row.day == day) waiting.earlier.items
    waiting.rows.items)
    ∙ (ap (count (λ row. row.day == day)) (is.all all)
    ∙ count_passed (λ row. row.day == day) (λ row. is_pending row.status) t.requests)
