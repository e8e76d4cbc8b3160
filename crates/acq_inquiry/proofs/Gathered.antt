-- What visitors gather in walks.
use Rattle.std.proofs.Common.{◌≡◌, ◌∙◌, ◌++◌, ◌∷◌, ℕ, Bool, true, false, cond, List, []}
use Rattle.std.proofs.Common.{inl, inr, refl, sym, ap, subst, true≢false, append-nil, append_assoc}
use Rattle.std.specs.Prelude.{◌&&◌, filter, flat_map}
use Rattle.acq_book.specs.Visits.{SawAll}
use Rattle.acq_core.specs.declared.posting.Posting.{Posting}
use Rattle.acq_core.specs.declared.request.Request.{Request}
use Rattle.acq_inquiry.specs.Gathering.{PutsPosting}
use Rattle.acq_inquiry.specs.PostingLines.{posting_line}
use Rattle.acq_inquiry.specs.declared.posting_lines.PostingLines.{PostingLines}

-- `items` is what a visitor gathered, `gives` what a row adds, and `one` and `short` say what a row
-- makes of it, as long as it keeps what it looks for
module _ {Row V X : Type 0} (sees : V → Row → Bool → V → Type 0) (items : V → List X)
    (is_short : V → Bool) (Keeps : V → Type 0) (gives : Row → List X)
    (one : (v : V) (row : Row) (w : V) → Keeps v → sees v row true w
    → (items w ≡ items v ++ gives row) × Keeps w)
    (short : (v : V) (row : Row) (w : V) → sees v row false w → is_short w ≡ true) where
  -- after a walk in which memory didn't run out it has what every row adds
  all_gathered : (rows : List Row) (v w : V) → Keeps v → SawAll sees rows v w
      → is_short w ≡ false → (items w ≡ items v ++ flat_map gives rows) × Keeps w
  all_gathered [] v w kept same whole = (
    ap items (sym same) ∙ sym (append-nil (items v)),
    subst Keeps same kept,
  )
  all_gathered (row ∷ rows) v w kept (inl (u, seen, rest)) whole =
      let first = one v row u kept seen in
      let more = all_gathered rows u w first.1 rest whole in (
        more.0
            ∙ (ap (λ xs. xs ++ flat_map gives rows) first.0
            ∙ append_assoc (items v) (gives row) (flat_map gives rows)),
        more.1,
      )
  all_gathered (row ∷ rows) v w kept (inr seen) whole =
      absurd (true≢false (sym (short v row w seen) ∙ whole))

-- what the rows that pass two tests add
pub given_twice : {Row X : Type 0} (p q : Row → Bool) (f : Row → List X) (rows : List Row) →
    flat_map (λ row. cond (p row && q row) (f row) []) rows ≡ flat_map f (filter q (filter p rows))
given_twice p q f [] = refl
given_twice p q f (row ∷ rows) =
    elim (p row) as
    (λ a. cond (a && q row) (f row) [] ++ flat_map (λ r. cond (p r && q r) (f r) []) rows
    ≡ flat_map f (filter q (cond a (row ∷ filter p rows) (filter p rows)))) [
      | true ↦
          elim (q row) as
          (λ b. cond b (f row) [] ++ flat_map (λ r. cond (p r && q r) (f r) []) rows
          ≡ flat_map f (cond b (row ∷ filter q (filter p rows)) (filter q (filter p rows)))) [
            | true ↦ ap (λ xs. f row ++ xs) (given_twice p q f rows)
            | false ↦ given_twice p q f rows
          ]
      | false ↦ given_twice p q f rows
    ]

-- the rows themselves
pub each_alone : {Row : Type 0} (rows : List Row) → flat_map (λ row. row ∷ []) rows ≡ rows
each_alone [] = refl
each_alone (row ∷ rows) = ap (λ xs. row ∷ xs) (each_alone rows)

-- the lines of the postings that a request made
pub all_posted : (request : Request) (rows : List (ℕ × Posting)) (v w : PostingLines) →
    v.request.now ≡ request → SawAll PutsPosting rows v w → w.is_short ≡ false →
    w.text.items ≡ v.text.items ++ flat_map (posting_line request) rows
all_posted request rows v w kept saw whole =
    (all_gathered PutsPosting (λ u. u.text.items) (λ u. u.is_short)
    (λ u. u.request.now ≡ request) (posting_line request)
    (λ u posted x same seen. (
      seen.0 ∙ ap (λ r. u.text.items ++ posting_line r posted) same,
      ap (λ r. r.now) seen.1 ∙ same,
    ))
    (λ u posted x seen. seen) rows v w kept saw whole).0
