-- The numbers of a merchant's postings of a day count up from 1, so one at most has a number.
use Rattle.std.proofs.Common.{◌≡◌, ◌==◌, ◌&&◌, ◌+◌, ◌<◌, ◌≤◌, ℕ, Bool, true, false, cond, List, []}
use Rattle.std.proofs.Common.{◌∷◌, ◌++◌, drop, filter, length, map, Option, None, Some, refl, sym}
use Rattle.std.proofs.Common.{ap, ap₂, subst, ◌∙◌, arith}
use Rattle.std.specs.List.{range_with_len}
use Rattle.std.specs.Str.{bytes_eq}
use Rattle.std.proofs.lemmas.Bool.{and_parts}
use Rattle.std.proofs.lemmas.Bool.Decides.{nat_tests}
use Rattle.std.proofs.lemmas.List.{append-nil, length-append, map-append}
use Rattle.std.proofs.lemmas.List.Elements.{filter-append}
use Rattle.sqlite_exec.proofs.CoverLemmas.{range_more}
use Rattle.acq_core.specs.declared.change.Change.{Change}
use Rattle.acq_core.specs.declared.change.Change.TheVariants as change
use Rattle.acq_core.specs.declared.posting.Posting.{Posting}
use Rattle.acq_core.specs.Changes.{change_for}
use Rattle.acq_core.specs.Pasts.{HasPast}
use Rattle.acq_core.specs.Tables.{Tables, new_tables, known_in, after, after_any}
use Rattle.acq_core.specs.Tables.{postings_before, with_next_posting}
use Rattle.acq_soundness.proofs.Runs.{kept}
use Rattle.acq_sql_rows.proofs.SameKeys.{bytes_same, number_same}
use Rattle.acq_sql_reads.proofs.CountReads.{counted}

abbrev Numbered : Type 0
Numbered = ℕ × Posting

-- a merchant's postings of a day, in the order in which they came
abbrev of_day : List ℕ → ℕ → Numbered → Bool
of_day m day row = bytes_eq row.1.merchant m && (row.1.day == day)

abbrev pub postings_on : List ℕ → ℕ → List Numbered → List Numbered
postings_on m day rows = filter (of_day m day) rows

abbrev CountsUpFrom : ℕ → List Numbered → Type 0
CountsUpFrom n rows = map (λ row. row.0) rows ≡ range_with_len n (length rows)

abbrev AreNumbered : List Numbered → Type 0
AreNumbered rows = (m : List ℕ) (day : ℕ) → CountsUpFrom 1 (postings_on m day rows)

-- one more, with the next number
counts_on : (xs : List Numbered) (x : Numbered) → CountsUpFrom 1 xs → x.0 ≡ length xs + 1
    → CountsUpFrom 1 (xs ++ x ∷ [])
counts_on xs x up next =
    let number = λ (r : Numbered). r.0 in
    let same : x.0 ≡ 1 + length xs = omega (arith, next) in
    map-append number xs (x ∷ [])
    ∙ ap₂ (λ l n. l ++ n ∷ []) up same
    ∙ sym (range_more 1 (length xs))
    ∙ ap (range_with_len 1) (sym (length-append xs (x ∷ [])))

-- ---- every change keeps it

module _ (rows : List Numbered) (p : Posting) where
  abbrev new : Numbered
  new = (postings_before rows p + 1, p)

  with_next : AreNumbered rows → (m : List ℕ) (day : ℕ)
      → CountsUpFrom 1 (postings_on m day (rows ++ new ∷ []))
  with_next up m day = step (of_day m day new) refl
    where
      step : (b : Bool) → of_day m day new ≡ b →
          CountsUpFrom 1 (postings_on m day (rows ++ new ∷ []))
      step true mine =
          let parts = and_parts _ _ mine in
          let before : postings_before rows p ≡ length (postings_on m day rows) =
          sym (counted (of_day p.merchant p.day) rows)
          ∙ ap₂ (λ a d. length (postings_on a d rows)) (bytes_same p.merchant m parts.0)
          (number_same p.day day parts.1) in
          let more : postings_on m day (rows ++ new ∷ []) ≡ postings_on m day rows ++ new ∷ [] =
          filter-append (of_day m day) rows (new ∷ [])
          ∙ ap (λ b. postings_on m day rows ++ cond b (new ∷ []) []) mine in
          subst (CountsUpFrom 1) (sym more)
          (counts_on (postings_on m day rows) new (up m day) (ap (λ n. n + 1) before))
      step false other =
          let same : postings_on m day (rows ++ new ∷ []) ≡ postings_on m day rows =
          filter-append (of_day m day) rows (new ∷ [])
          ∙ ap (λ b. postings_on m day rows ++ cond b (new ∷ []) []) other
          ∙ append-nil (postings_on m day rows) in
          subst (CountsUpFrom 1) (sym same) (up m day)

with_any : (rows : List Numbered) (o : Option Posting) → AreNumbered rows
    → AreNumbered (with_next_posting rows o)
with_any rows None up = up
with_any rows (Some p) up = with_next rows p up

numbered_after : (t : Tables) (c : Change) → AreNumbered t.postings
    → AreNumbered (after t c).postings
numbered_after t (change.Answered key status reply hold_end posting) up =
    with_any t.postings posting up
numbered_after t (change.Follow row original remains posting) up = with_any t.postings posting up
numbered_after t c up = up

numbered_after_any : (t : Tables) (o : Option Change) → AreNumbered t.postings
    → AreNumbered (after_any t o).postings
numbered_after_any t None up = up
numbered_after_any t (Some c) up = numbered_after t c up

-- so tables with a past have it
numbered_by_past : (t : Tables) → HasPast t → AreNumbered t.postings
numbered_by_past t (opening, book) =
    subst (λ (s : Tables). AreNumbered s.postings) (sym book.after)
    (kept (λ (s : Tables). AreNumbered s.postings)
    (λ s a. numbered_after_any s (change_for (known_in s a) a)) (new_tables opening)
    book.events (λ m day. refl))

-- ---- one at most has a number

none_below : (k n : ℕ) (xs : List Numbered) → CountsUpFrom n xs → k < n
    → filter (λ row. row.0 == k) xs ≡ []
none_below k n [] up low = refl
none_below k n (x ∷ xs) up low =
    let first : x.0 ≡ n = cc in
    let other : (x.0 == k) ≡ false = grind (arith, nat_tests) in
    rw other (none_below k (n + 1) xs (ap (drop 1) up) (omega (arith, low)))

few_with_number : (k n : ℕ) (xs : List Numbered) → CountsUpFrom n xs
    → length (filter (λ row. row.0 == k) xs) ≤ 1
few_with_number k n [] up = omega arith
few_with_number k n (x ∷ xs) up =
    step (x.0 == k) refl (few_with_number k (n + 1) xs (ap (drop 1) up))
  where
    rest : List Numbered
    rest = filter (λ row. row.0 == k) xs

    step : (b : Bool) → (x.0 == k) ≡ b → length rest ≤ 1
        → length (cond b (x ∷ rest) rest) ≤ 1
    step true is later =
        let first : x.0 ≡ n = cc in
        let none = none_below k (n + 1) xs (ap (drop 1) up)
        (omega (arith, number_same x.0 k is, first)) in
        subst (λ l. length (x ∷ l) ≤ 1) (sym none) (omega arith)
    step false is later = later

pub one_numbered : (t : Tables) → HasPast t → (m : List ℕ) (day number : ℕ)
    → length (filter (λ row. row.0 == number) (postings_on m day t.postings)) ≤ 1
one_numbered t past m day number =
    few_with_number number 1 (postings_on m day t.postings) (numbered_by_past t past m day)
