-- Walks that end with a row, or with the last.
use Rattle.std.proofs.Common.{◌≡◌, ◌∙◌, ◌⊎◌, ◌++◌, ◌∷◌, ◌+◌, ℕ, Bool, true, false, List, [], Option}
use Rattle.std.proofs.Common.{None, inl, inr, refl, sym, ap, subst, true≢false, append-nil}
use Rattle.std.proofs.Common.{append_assoc, arith, length}
use Rattle.acq_book.specs.Visits.{SawAll}
use Rattle.acq_reports.specs.Slices.{goes_on}

-- `Holds` says what a visitor has of the rows that it saw, and `one` what a row makes of that
module _ {V Row : Type 0} (sees : V → Row → Bool → V → Type 0) (place : V → ℕ)
    (end : V → Option ℕ) (is_short : V → Bool) (Holds : List Row → V → Type 0)
    (one : (done : List Row) (v : V) (row : Row) (more : Bool) (w : V) → Holds done v →
    sees v row more w
    → (Holds (done ++ row ∷ []) w × (place w ≡ place v + 1) × (end w ≡ end v)
    × (more ≡ goes_on (end w) (place w)))
    ⊎ ((is_short w ≡ true) × (more ≡ false))) where
  -- it went over the first rows, over all where it has no end
  pub record HasWalked (done rows : List Row) (v w : V) : Type 0 where
    pub gone : List Row
    pub left : List Row
    pub parts : rows ≡ gone ++ left
    pub at : place w ≡ place v + length gone
    pub holds : Holds (done ++ gone) w
    pub whole : end v ≡ None → left ≡ []

  pub walked : (done rows : List Row) (v w : V) → Holds done v → SawAll sees rows v w →
      is_short w ≡ false → HasWalked done rows v w
  walked done [] v w holds same enough = record {
    gone = [];
    left = [];
    parts = refl;
    at = ap place (sym same) ∙ sym (no_more (place v));
    holds = subst (Holds (done ++ [])) same
        (subst (λ l. Holds l v) (sym (append-nil done)) holds);
    whole = λ none. refl;
  }
    where
      no_more : (n : ℕ) → n + 0 ≡ n
      no_more n = omega arith
  walked done (row ∷ rows) v w holds (inl (u, seen, rest)) enough =
      elim (one done v row true u holds seen) [
        | inl (has, next, ends, more) ↦
            let later = walked (done ++ row ∷ []) rows u w has rest enough in record {
              gone = row ∷ later.gone;
              left = later.left;
              parts = ap (λ l. row ∷ l) later.parts;
              at = omega (arith, later.at, next);
              holds = subst (λ l. Holds l w) (append_assoc done (row ∷ []) later.gone)
                  later.holds;
              whole = λ none. later.whole (ends ∙ none);
            }
        | inr (short, stops) ↦ absurd (true≢false stops)
      ]
  walked done (row ∷ rows) v w holds (inr seen) enough =
      elim (one done v row false w holds seen) [
        | inl (has, next, ends, more) ↦ record {
          gone = row ∷ [];
          left = rows;
          parts = refl;
          at = next;
          holds = has;
          whole = λ none. absurd (true≢false (sym (more
              ∙ ap (λ e. goes_on e (place w)) (ends ∙ none))));
        }
        | inr (short, stops) ↦ absurd (true≢false (sym short ∙ enough))
      ]
