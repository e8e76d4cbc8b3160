-- Walks that end with a row, or with the last.
use Rattle.std.proofs.Common.{◌≡◌, ◌∙◌, ◌⊎◌, ◌++◌, ◌∷◌, ◌+◌, ◌≤◌, ℕ, suc, Bool, true, false, List}
use Rattle.std.proofs.Common.{[], inl, inr, refl, sym, ap, subst, true≢false, append-nil}
use Rattle.std.proofs.Common.{append_assoc, length, take, arith}
use Rattle.std.specs.Prelude.{Option, None}
use Rattle.acq_core.specs.declared.request.Request.{Request}
use Rattle.acq_book.specs.Visits.{SawAll}
use Rattle.acq_reports.specs.Slices.{goes_on}
use Rattle.acq_inquiry.specs.Searching.{given_from}

-- `items` is what a visitor gathered, `gives` what a row at a place adds, and `one` says what a row
-- makes of it, as long as it keeps what it looks for
module _ {V X : Type 0} (sees : V → Request → Bool → V → Type 0) (items : V → List X)
    (place : V → ℕ) (end : V → Option ℕ) (is_short : V → Bool) (Keeps : V → Type 0)
    (gives : ℕ → Request → List X)
    (one : (v : V) (row : Request) (more : Bool) (w : V) → Keeps v → sees v row more w
    → ((items w ≡ items v ++ gives (place v) row) × (place w ≡ place v + 1) × (end w ≡ end v)
    × (more ≡ goes_on (end w) (place w)) × Keeps w)
    ⊎ ((is_short w ≡ true) × (more ≡ false))) where
  -- it went over the first rows, over all where it has no end
  pub record HasWalked (rows : List Request) (v w : V) : Type 0 where
    pub gone : ℕ
    pub within : gone ≤ length rows
    pub at : place w ≡ place v + gone
    pub gathered : items w ≡ items v ++ given_from gives (place v) (take gone rows)
    pub kept : Keeps w
    pub whole : end v ≡ None → gone ≡ length rows

  pub walked : (rows : List Request) (v w : V) → Keeps v → SawAll sees rows v w →
      is_short w ≡ false → HasWalked rows v w
  walked [] v w kept same enough = record {
    gone = 0;
    within = omega arith;
    at = ap place (sym same) ∙ sym (no_more (place v));
    gathered = ap items (sym same) ∙ sym (append-nil (items v));
    kept = subst Keeps same kept;
    whole = λ none. refl;
  }
    where
      no_more : (n : ℕ) → n + 0 ≡ n
      no_more n = omega arith
  walked (row ∷ rows) v w kept (inl (u, seen, rest)) enough =
      elim (one v row true u kept seen) [
        | inl (adds, next, ends, more, keeps) ↦
            let later = walked rows u w keeps rest enough in record {
              gone = suc later.gone;
              within = omega (arith, later.within);
              at = omega (arith, later.at, next);
              gathered = later.gathered
                  ∙ ap (λ n. items u ++ given_from gives n (take later.gone rows)) next
                  ∙ ap (λ xs. xs ++ given_from gives (place v + 1) (take later.gone rows)) adds
                  ∙ append_assoc (items v) (gives (place v) row)
                  (given_from gives (place v + 1) (take later.gone rows));
              kept = later.kept;
              whole = λ none. ap suc (later.whole (ends ∙ none));
            }
        | inr (short, stops) ↦ absurd (true≢false stops)
      ]
  walked (row ∷ rows) v w kept (inr seen) enough =
      elim (one v row false w kept seen) [
        | inl (adds, next, ends, more, keeps) ↦ record {
          gone = 1;
          within = omega arith;
          at = next;
          gathered = adds
              ∙ ap (λ xs. items v ++ xs) (sym (append-nil (gives (place v) row)));
          kept = keeps;
          whole = λ none. absurd (true≢false (sym (more
              ∙ ap (λ e. goes_on e (place w)) (ends ∙ none))));
        }
        | inr (short, stops) ↦ absurd (true≢false (sym short ∙ enough))
      ]
