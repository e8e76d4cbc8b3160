-- The numbers of a merchant's reconciliations of a day count up from 1.
use Rattle.std.proofs.Common.{◌≡◌, ◌==◌, ◌&&◌, ◌+◌, ℕ, Bool, true, false, cond, List, [], ◌∷◌, ◌++◌}
use Rattle.std.proofs.Common.{drop, length, Option, None, Some, refl, sym, ap, ap₂, subst, ◌∙◌}
use Rattle.std.proofs.Common.{arith}
use Rattle.std.specs.List.{range_with_len}
use Rattle.std.specs.Str.{bytes_eq}
use Rattle.std.proofs.lemmas.Bool.{and_parts}
use Rattle.std.proofs.lemmas.List.{append-nil, length-append, map-append}
use Rattle.std.proofs.lemmas.List.Elements.{filter-append}
use Rattle.sqlite_exec.proofs.CoverLemmas.{range_more}
use Rattle.acq_core.specs.declared.change.Change.{Change}
use Rattle.acq_core.specs.declared.change.Change.TheVariants as change
use Rattle.acq_core.specs.declared.reconciliation.Reconciliation.{Reconciliation}
use Rattle.acq_core.specs.Changes.{change_for}
use Rattle.acq_core.specs.Pasts.{HasPast}
use Rattle.acq_core.specs.Tables.{Tables, new_tables, known_in, after, after_any}
use Rattle.acq_core.specs.Tables.{reconciliations_before, with_next_reconciliation}
use Rattle.acq_book.specs.Order.{last_of}
use Rattle.acq_soundness.proofs.Runs.{kept}
use Rattle.acq_sql_rows.proofs.SameKeys.{bytes_same, number_same}
use Rattle.acq_sql_reads.specs.Looked.{reconciliations_of, last_numbered_at, number_or_zero}
use Rattle.acq_sql_reads.specs.Looked.{CountsUpFrom}
use Rattle.acq_sql_reads.specs.Looked.{HasNumberedReconciliations}
use Rattle.acq_sql_reads.proofs.CountReads.{counted}

abbrev Numbered : Type 0
Numbered = ℕ × Reconciliation

pub rest_counts : (n : ℕ) (x : Numbered) (xs : List Numbered) → CountsUpFrom n (x ∷ xs) →
    CountsUpFrom (n + 1) xs
rest_counts n x xs up = ap (drop 1) up

-- one more, with the next number
counts_on : (xs : List Numbered) (x : Numbered) → CountsUpFrom 1 xs → x.0 ≡ length xs + 1
    → CountsUpFrom 1 (xs ++ x ∷ [])
counts_on xs x up next =
    let number = λ (r : Numbered). r.0 in
    let same : x.0 ≡ 1 + length xs = omega (arith, next) in
    map-append number xs (x ∷ [])
    ∙ ap₂ (λ l n. l ++ n ∷ []) up same
    ∙ sym (range_more 1 (length xs))
    ∙ ap (range_with_len 1) (sym (length-append xs (x ∷ [])))

-- ---- every change keeps it

module _ (rows : List Numbered) (p : Reconciliation) where
  abbrev new : Numbered
  new = (reconciliations_before rows p + 1, p)

  abbrev of_day : List ℕ → ℕ → Numbered → Bool
  of_day m day row = bytes_eq row.1.merchant m && (row.1.day == day)

  with_next : ((m : List ℕ) (day : ℕ) → CountsUpFrom 1 (reconciliations_of m day rows))
      → (m : List ℕ) (day : ℕ) →
      CountsUpFrom 1 (reconciliations_of m day (with_next_reconciliation rows p))
  with_next up m day = step (of_day m day new) refl
    where
      step : (b : Bool) → of_day m day new ≡ b →
          CountsUpFrom 1 (reconciliations_of m day (rows ++ new ∷ []))
      step true mine =
          let parts = and_parts _ _ mine in
          let before : reconciliations_before rows p ≡ length (reconciliations_of m day rows) =
          sym (counted (of_day p.merchant p.day) rows)
          ∙ ap₂ (λ a d. length (reconciliations_of a d rows)) (bytes_same p.merchant m parts.0)
          (number_same p.day day parts.1) in
          let more : reconciliations_of m day (rows ++ new ∷ []) ≡ reconciliations_of m day rows
          ++ new ∷ [] =
          filter-append (of_day m day) rows (new ∷ [])
          ∙ ap (λ b. reconciliations_of m day rows ++ cond b (new ∷ []) []) mine in
          subst (CountsUpFrom 1) (sym more)
          (counts_on (reconciliations_of m day rows) new (up m day) (ap (λ n. n + 1) before))
      step false other =
          let same : reconciliations_of m day (rows ++ new ∷ []) ≡ reconciliations_of m day rows =
          filter-append (of_day m day) rows (new ∷ [])
          ∙ ap (λ b. reconciliations_of m day rows ++ cond b (new ∷ []) []) other
          ∙ append-nil (reconciliations_of m day rows) in
          subst (CountsUpFrom 1) (sym same) (up m day)

pub numbered_after : (t : Tables) (c : Change) → HasNumberedReconciliations t →
    HasNumberedReconciliations (after t c)
numbered_after t (change.Reconciled row p) up = with_next t.reconciliations p up
numbered_after t c up = up

numbered_after_any : (t : Tables) (o : Option Change) → HasNumberedReconciliations t
    → HasNumberedReconciliations (after_any t o)
numbered_after_any t None up = up
numbered_after_any t (Some c) up = numbered_after t c up

-- so tables with a past have it
pub numbered_by_past : (t : Tables) → HasPast t → HasNumberedReconciliations t
numbered_by_past t (opening, book) =
    subst HasNumberedReconciliations (sym book.after)
    (kept HasNumberedReconciliations (λ s a. numbered_after_any s (change_for (known_in s a) a))
    (new_tables opening)
    book.events (λ m day. refl))

-- ---- the last number is how many there are

last_number : (n : ℕ) (x : Numbered) (xs : List Numbered) → CountsUpFrom n (x ∷ xs)
    → number_or_zero (last_of (x ∷ xs)) ≡ n + length xs
last_number n x [] up =
    let first : x.0 ≡ n = cc in
    omega (arith, first)
last_number n x (y ∷ ys) up =
    let later = last_number (n + 1) y ys (rest_counts n x (y ∷ ys) up) in
    omega (arith, later)

number_counts : (xs : List Numbered) → CountsUpFrom 1 xs → number_or_zero (last_of xs) ≡ length xs
number_counts [] up = refl
number_counts (x ∷ xs) up = let is = last_number 1 x xs up in omega (arith, is)

-- the last number, or 0, is how many reconciliations came before the next
pub last_number_before : (t : Tables) (r : Reconciliation) → HasPast t
    → number_or_zero (last_numbered_at t r.merchant r.day)
    ≡ reconciliations_before t.reconciliations r
last_number_before t r past =
    number_counts (reconciliations_of r.merchant r.day t.reconciliations)
    (numbered_by_past t past r.merchant r.day)
    ∙ counted (λ row. bytes_eq row.1.merchant r.merchant && (row.1.day == r.day)) t.reconciliations
