-- Sums of the terminals that posted, as a walk goes on.
use Rattle.std.proofs.Common.{◌≡◌, ◌∙◌, ◌⊎◌, ◌+◌, ℕ, List, [], ◌∷◌, ◌++◌, Bool, true, false, cond}
use Rattle.std.proofs.Common.{refl, sym, ap, map, inl, inr, append_assoc, append-nil, true≢false}
use Rattle.std.specs.Prelude.{Some, None, find, unwrap_or, ◌||◌}
use Rattle.std.specs.List.{list_any}
use Rattle.std.specs.Str.{bytes_eq}
use Rattle.acq_core.specs.declared.posting.Posting.{Posting}
use Rattle.acq_soundness.proofs.Keys.{bytes_eq_is, bytes_eq_itself}
use Rattle.acq_book.specs.Visits.{SawAll}
use Rattle.acq_statement.specs.declared.posted_sums.PostedSums.{PostedSums}
use Rattle.acq_statement.specs.declared.terminal_sums.TerminalSums.{TerminalSums}
use Rattle.acq_statement.specs.Gathered.{sums_in}
use Rattle.acq_reports.specs.Slices.{goes_on}
use Rattle.acq_statement.specs.Sums.{capped_posting}
use Rattle.acq_statement.specs.TerminalRows.{SumsOne}
use Rattle.acq_statement.specs.TerminalTotals.{sums_at_terminal, with_posting}
use Rattle.acq_statement.proofs.Posting.{one_more}
use Rattle.acq_statement.proofs.Slicing as slices

-- ---- a terminal more, of which nothing was posted

module _ (id one : List ℕ) where
  idle_pushed : (b : Bool) → bytes_eq id one ≡ b →
      unwrap_or (cond b (Some (sums_at_terminal [] id)) None) (sums_at_terminal [] one)
      ≡ sums_at_terminal [] one
  idle_pushed true is = ap (λ i. sums_at_terminal [] i) (bytes_eq_is id one is)
  idle_pushed false is = refl

  pub sums_push : (xs : List TerminalSums) →
      sums_in (xs ++ sums_at_terminal [] id ∷ []) one ≡ sums_in xs one
  sums_push [] = idle_pushed (bytes_eq id one) refl
  sums_push (x ∷ xs) = at (bytes_eq x.id one) (sums_push xs)
    where
      at : (b : Bool) →
          sums_in (xs ++ sums_at_terminal [] id ∷ []) one ≡ sums_in xs one →
          unwrap_or (cond b (Some x) (find (λ at. bytes_eq at.id one)
          (xs ++ sums_at_terminal [] id ∷ []))) (sums_at_terminal [] one)
          ≡ unwrap_or (cond b (Some x) (find (λ at. bytes_eq at.id one) xs))
          (sums_at_terminal [] one)
      at true rest = refl
      at false rest = rest

-- so the terminal is one of them
pub has_push : (id : List ℕ) (xs : List TerminalSums) →
    list_any (λ at. bytes_eq at.id id) (xs ++ sums_at_terminal [] id ∷ []) ≡ true
has_push id [] = ap (λ b. b || false) (bytes_eq_itself id)
has_push id (x ∷ xs) = at (bytes_eq x.id id) (has_push id xs)
  where
    at : (b : Bool) →
        list_any (λ at. bytes_eq at.id id) (xs ++ sums_at_terminal [] id ∷ []) ≡ true →
        (b || list_any (λ at. bytes_eq at.id id) (xs ++ sums_at_terminal [] id ∷ [])) ≡ true
    at true rest = refl
    at false rest = rest

-- ---- a posting more

module _ (posting : Posting) (one : List ℕ) where
  same_id : (at : TerminalSums) → (with_posting posting at).id ≡ at.id
  same_id at =
      elim (bytes_eq posting.terminal at.id)
      as (λ b. (cond b
      (record { id = at.id; sums = capped_posting at.sums posting.leg posting.amount }) at).id
      ≡ at.id) [ true ↦ refl | false ↦ refl ]

  abbrev IsThere : List TerminalSums → Type 0
  IsThere xs =
      (bytes_eq posting.terminal one ≡ false)
      ⊎ (list_any (λ at. bytes_eq at.id one) xs ≡ true)

  mapped : (xs : List TerminalSums) → IsThere xs →
      sums_in (map (with_posting posting) xs) one ≡ with_posting posting (sums_in xs one)
  mapped [] (inl other) =
      let idle = sums_at_terminal [] one in
      sym (ap (λ b. cond b
      (record { id = one; sums = capped_posting idle.sums posting.leg posting.amount }) idle) other)
  mapped [] (inr there) = absurd (true≢false (sym there))
  mapped (x ∷ xs) there =
      ap (λ (i : List ℕ). unwrap_or (cond (bytes_eq i one) (Some (with_posting posting x))
      (find (λ at. bytes_eq at.id one) (map (with_posting posting) xs))) (sums_at_terminal [] one))
      (same_id x)
      ∙ go (λ h. mapped xs h) (bytes_eq x.id one) refl there
    where
      go : (IsThere xs → sums_in (map (with_posting posting) xs) one
          ≡ with_posting posting (sums_in xs one)) →
          (b : Bool) → bytes_eq x.id one ≡ b → IsThere (x ∷ xs) →
          unwrap_or (cond b (Some (with_posting posting x))
          (find (λ at. bytes_eq at.id one) (map (with_posting posting) xs)))
          (sums_at_terminal [] one)
          ≡ with_posting posting (unwrap_or (cond b (Some x)
          (find (λ at. bytes_eq at.id one) xs)) (sums_at_terminal [] one))
      go rest true is there = refl
      go rest false is (inl other) = rest (inl other)
      go rest false is (inr any) =
          rest
          (inr (sym (ap (λ c. c || list_any (λ at. bytes_eq at.id one) xs) is) ∙ any))

  pub sums_posted : (xs : List TerminalSums) →
      list_any (λ at. bytes_eq at.id posting.terminal) xs ≡ true →
      sums_in (map (with_posting posting) xs) one ≡ with_posting posting (sums_in xs one)
  sums_posted xs has = mapped xs (go (bytes_eq posting.terminal one) refl)
    where
      go : (b : Bool) → bytes_eq posting.terminal one ≡ b → IsThere xs
      go false is = inl is
      go true is =
          inr (ap (λ i. list_any (λ at. bytes_eq at.id i) xs)
          (sym (bytes_eq_is posting.terminal one is)) ∙ has)

-- ---- a walk

-- the number of the last of these, or one before them
abbrev pub last_number : ℕ → List (ℕ × Posting) → ℕ
last_number from [] = from
last_number from (row ∷ rows) = last_number row.0 rows

last-push : (from : ℕ) (rows : List (ℕ × Posting)) (row : ℕ × Posting) →
    last_number from (rows ++ row ∷ []) ≡ row.0
last-push from [] row = refl
last-push from (x ∷ rows) row = last-push x.0 rows row

module _ (before : List (ℕ × Posting)) (from : ℕ) where
  abbrev HoldsSums : List (ℕ × Posting) → PostedSums → Type 0
  HoldsSums done v =
      ((terminal : List ℕ) →
      sums_in v.sums.items terminal ≡ sums_at_terminal (before ++ done) terminal)
      × (v.number ≡ last_number from done)

  pub one_posting : (done : List (ℕ × Posting)) (v : PostedSums) (row : ℕ × Posting) (more : Bool)
      (w : PostedSums) → HoldsSums done v → SumsOne v row more w →
      (HoldsSums (done ++ row ∷ []) w × (w.gone ≡ v.gone + 1) × (w.end ≡ v.end)
      × (more ≡ goes_on w.end w.gone))
      ⊎ ((w.is_short ≡ true) × (more ≡ false))
  one_posting done v row more w holds (inr stops) = inr stops
  one_posting done v row more w (has, at) (inl (adds, number, next, ends, goes)) =
      inl (
        (
          λ terminal.
              adds terminal ∙ ap (with_posting row.1) (has terminal)
              ∙ one_more (before ++ done) row terminal
              ∙ ap (λ l. sums_at_terminal l terminal) (append_assoc before done (row ∷ [])),
          number ∙ sym (last-push from done row),
        ),
        next,
        ends,
        goes,
      )

  abbrev pub HasPosted : List (ℕ × Posting) → PostedSums → PostedSums → Type 0
  HasPosted rows v w =
      slices.HasWalked SumsOne (λ u. u.gone) (λ u. u.end) (λ u. u.is_short) HoldsSums
      one_posting [] rows v w

  pub posted : (rows : List (ℕ × Posting)) (v w : PostedSums) →
      ((terminal : List ℕ) → sums_in v.sums.items terminal ≡ sums_at_terminal before terminal) →
      v.number ≡ from → SawAll SumsOne rows v w → w.is_short ≡ false → HasPosted rows v w
  posted rows v w has at saw enough =
      slices.walked SumsOne (λ u. u.gone) (λ u. u.end) (λ u. u.is_short) HoldsSums one_posting
      [] rows v w (
        λ terminal.
            has terminal
            ∙ ap (λ l. sums_at_terminal l terminal) (sym (append-nil before)),
        at,
      )
      saw enough
