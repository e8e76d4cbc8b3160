-- What a visitor has seen, as far as a walk over rows in memory has come.
use Rattle.std.proofs.Common.{◌≡◌, ℕ, ◌+◌, ◌<◌, ◌≤◌, List, [], ◌∷◌, ◌++◌, Bool, true, false, refl}
use Rattle.std.proofs.Common.{sym, ap, ◌∙◌, subst, drop, length, slice_index_or, inl, inr}
use Rattle.std.proofs.Common.{drop-cons, add-one}
use Rattle.std.proofs.lemmas.List.{append-nil, drop_all}
use Rattle.acq_book.specs.Visits.{Saw, SawAll}

module _ {Row V : Type 0} (sees : V → Row → Bool → V → Type 0) (rows : List Row) (start : V) where
  -- what is seen of the rows from here on is seen of all, and so it is with more behind them
  pub record Leads (i : ℕ) (v : V) : Type 0 where
    pub all : (w : V) → Saw sees (drop i rows) v w → Saw sees rows start w
    pub part : (behind : List Row) (w : V) → SawAll sees (drop i rows ++ behind) v w
        → SawAll sees (rows ++ behind) start w

  split : (i : ℕ) (row : Row) → i < length rows → row ≡ slice_index_or rows i row
      → drop i rows ≡ row ∷ drop (i + 1) rows
  split i row within is =
      let e : slice_index_or rows i row ∷ drop (i + 1) rows ≡ row ∷ drop (i + 1) rows =
      ap (λ x. x ∷ drop (i + 1) rows) (sym is) in
      (rw (add-one, drop-cons rows i row)) ∙ e

  pub begun : Leads 0 start
  begun = record { all = λ w seen. seen; part = λ behind w seen. seen }

  pub goes_on : (i : ℕ) (row : Row) (v u : V) → i < length rows
      → row ≡ slice_index_or rows i row → sees v row true u → Leads i v → Leads (i + 1) u
  goes_on i row v u within is seen leads = record {
    all = λ w rest. leads.all w (subst (λ xs. Saw sees xs v w) (sym (split i row within is))
        (u, seen, rest));
    part = λ behind w rest. leads.part behind w
        (subst (λ xs. SawAll sees (xs ++ behind) v w) (sym (split i row within is))
        (inl (u, seen, rest)));
  }

  pub stops : (i : ℕ) (row : Row) (v u : V) → i < length rows
      → row ≡ slice_index_or rows i row → sees v row false u → Leads i v
      → (behind : List Row) → SawAll sees (rows ++ behind) start u
  stops i row v u within is seen leads behind =
      leads.part behind u (subst (λ xs. SawAll sees (xs ++ behind) v u)
      (sym (split i row within is)) (inr seen))

  pub ends : (i : ℕ) (v : V) → length rows ≤ i → Leads i v → Saw sees rows start v
  ends i v past leads =
      leads.all v (subst (λ xs. Saw sees xs v v) (sym (drop_all i rows past)) refl)

-- what was seen first, and then
pub seen_both : {Row V : Type 0} (sees : V → Row → Bool → V → Type 0) (xs ys : List Row)
    (u v w : V) → Saw sees xs u v → SawAll sees ys v w → SawAll sees (xs ++ ys) u w
seen_both sees [] ys u v w first then = subst (λ a. SawAll sees ys a w) (sym first) then
seen_both sees (x ∷ xs) ys u v w first then =
    inl (first.0, first.1, seen_both sees xs ys first.0 v w first.2 then)

-- all were seen
pub seen_all : {Row V : Type 0} (sees : V → Row → Bool → V → Type 0) (xs : List Row) (u v : V)
    → Saw sees xs u v → SawAll sees xs u v
seen_all sees [] u v seen = seen
seen_all sees (x ∷ xs) u v seen = inl (seen.0, seen.1, seen_all sees xs seen.0 v seen.2)

-- so they were, whether more was wanted or not
pub shown : {Row V : Type 0} (sees : V → Row → Bool → V → Type 0) (rows : List Row) (v w : V)
    (more : Bool) → (more ≡ true → Saw sees rows v w)
    → (more ≡ false → (behind : List Row) → SawAll sees (rows ++ behind) v w)
    → SawAll sees rows v w
shown sees rows v w true all part = seen_all sees rows v w (all refl)
shown sees rows v w false all part =
    subst (λ xs. SawAll sees xs v w) (append-nil rows) (part refl [])
