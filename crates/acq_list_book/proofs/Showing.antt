-- What a visitor has seen, as far as a walk has come.
use Rattle.std.proofs.Common.{◌≡◌, ℕ, ◌+◌, ◌<◌, ◌≤◌, List, ◌∷◌, true, false, refl, sym, ap, ◌∙◌}
use Rattle.std.proofs.Common.{subst, drop, map}
use Rattle.std.proofs.Common.{length, slice_index_or, Bool, Bor, inl, inr}
use Rattle.std.proofs.Common.{drop-cons, add-one}
use Rattle.std.proofs.lemmas.List.{drop_all}
use Rattle.std.specs.Map.Iter.{deref}
use Rattle.acq_book.specs.Visits.{SawAll}

module _ {Row V : Type 0} (sees : V → Row → Bool → V → Type 0) (rows : List (Bor Row))
    (start : V) where
  -- what is seen of the rows from here on is seen of all
  abbrev pub Leads : ℕ → V → Type 0
  Leads i v = (w : V) → SawAll sees (map deref (drop i rows)) v w →
      SawAll sees (map deref rows) start w

  split : (i : ℕ) (row : Bor Row) → i < length rows → row ≡ slice_index_or rows i row
      → drop i rows ≡ row ∷ drop (i + 1) rows
  split i row within is =
      let e : slice_index_or rows i row ∷ drop (i + 1) rows ≡ row ∷ drop (i + 1) rows =
      ap (λ x. x ∷ drop (i + 1) rows) (sym is) in
      (rw (add-one, drop-cons rows i row)) ∙ e

  pub lead-more : (i : ℕ) (row : Bor Row) (v u : V) → i < length rows →
      row ≡ slice_index_or rows i row
      → sees v row.now true u → Leads i v → Leads (i + 1) u
  lead-more i row v u within is seen leads w rest =
      leads w (subst (λ xs. SawAll sees (map deref xs) v w) (sym (split i row within is))
      (inl (u, seen, rest)))

  pub lead-last : (i : ℕ) (row : Bor Row) (v u : V) → i < length rows →
      row ≡ slice_index_or rows i row
      → sees v row.now false u → Leads i v → SawAll sees (map deref rows) start u
  lead-last i row v u within is seen leads =
      leads u (subst (λ xs. SawAll sees (map deref xs) v u) (sym (split i row within is))
      (inr seen))

  pub lead-end : (i : ℕ) (v : V) → length rows ≤ i → Leads i v →
      SawAll sees (map deref rows) start v
  lead-end i v past leads =
      leads v (subst (λ xs. SawAll sees (map deref xs) v v) (sym (drop_all i rows past)) refl)
