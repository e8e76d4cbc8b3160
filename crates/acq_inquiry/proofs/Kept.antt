-- What a search keeps of postings.
use Rattle.std.proofs.Common.{◌≡◌, ◌∙◌, ◌⊎◌, ◌++◌, ◌∷◌, ◌+◌, ◌==◌, ◌≤◌, ℕ, Bool, true, false, List}
use Rattle.std.proofs.Common.{[], Option, Some, None, cond, inl, inr, refl, sym, ap, ap₂, subst}
use Rattle.std.proofs.Common.{arith, append_assoc, append-nil, filter, true≢false}
use Rattle.std.specs.Prelude.{◌&&◌, ◌||◌, IfSome, find, flat_map}
use Rattle.std.specs.List.{All, list_any}
use Rattle.std.specs.Str.{bytes_eq}
use Rattle.std.proofs.lemmas.Bool.Decides.{nat_tests}
use Rattle.std.proofs.lemmas.List.{append_cancel_right}
use Rattle.std.proofs.lemmas.List.Concat.{flat_map-append}
use Rattle.std.proofs.lemmas.List.Elements.{All-head, All-tail, filter-append}
use Rattle.day_totals.specs.Totals.{same_leg}
use Rattle.acq_message.specs.Numbers.{is_number}
use Rattle.acq_core.specs.declared.posting.Posting.{Posting}
use Rattle.acq_core.specs.declared.request.Request.{Request}
use Rattle.acq_core.specs.Pasts.{HasPast}
use Rattle.acq_core.specs.Tables.{Tables, count}
use Rattle.acq_book.specs.Lookups.{postings_above_at}
use Rattle.acq_book.specs.Visits.{SawAll}
use Rattle.acq_statement.specs.Gathered.{is_of_day, postings_up_to}
use Rattle.acq_reports.specs.Slices.{goes_on}
use Rattle.acq_statement.proofs.Numbers as numbers
use Rattle.acq_statement.proofs.Slicing as slices
use Rattle.acq_statement.proofs.SumsOfTerminals.{last_number}
use Rattle.acq_inquiry.specs.declared.keeping.Keeping.{Keeping}
use Rattle.acq_inquiry.specs.declared.posted_day.PostedDay.{PostedDay}
use Rattle.acq_inquiry.specs.Gathering.{KeepsOne, has_one_of, kept_if}
use Rattle.acq_inquiry.specs.KeptPostings.{IsKept, IsSameDay, is_on, kept_by, kept_in}
use Rattle.acq_inquiry.specs.KeptPostings.{lines_with}
use Rattle.acq_inquiry.specs.PostingLines.{posting_line, posting_lines}
use Rattle.acq_inquiry.specs.PostingLines.{posted_words}
use Rattle.acq_inquiry.specs.RequestLines.{line_about}

abbrev Numbered : Type 0
Numbered = ℕ × Posting

-- ---- copies

pub same_day_kept : (t : Tables) (m references : List ℕ) (old new : PostedDay) → IsSameDay old new →
    IsKept t m references old → IsKept t m references new
same_day_kept t m references old new same is = record {
  within = subst (λ n. n ≤ count (is_of_day m new.day) t.postings) (sym same.number)
      (subst (λ d. old.number ≤ count (is_of_day m d) t.postings) (sym same.day) is.within);
  postings = same.postings ∙ is.postings
      ∙ ap₂ (λ d n. filter (has_one_of references) (postings_up_to t m d n)) (sym same.day)
      (sym same.number);
}

-- ---- a walk

last-push : (from : ℕ) (rows : List Numbered) (row : Numbered) →
    last_number from (rows ++ row ∷ []) ≡ row.0
last-push from [] row = refl
last-push from (x ∷ rows) row = last-push x.0 rows row

module _ (references : List ℕ) (before : List Numbered) (from : ℕ) where
  abbrev has : Numbered → Bool
  has = has_one_of references

  abbrev HoldsKept : List Numbered → Keeping → Type 0
  HoldsKept done v =
      (v.postings.items ≡ filter has (before ++ done)) × (v.number ≡ last_number from done)
      × (v.references.now ≡ references)

  one_posting : (done : List Numbered) (v : Keeping) (row : Numbered) (more : Bool) (w : Keeping) →
      HoldsKept done v → KeepsOne v row more w →
      (HoldsKept (done ++ row ∷ []) w × (w.gone ≡ v.gone + 1) × (w.end ≡ v.end)
      × (more ≡ goes_on w.end w.gone))
      ⊎ ((w.is_short ≡ true) × (more ≡ false))
  one_posting done v row more w holds (inr stops) = inr stops
  one_posting done v row more w (kept, at, by) (inl (adds, number, next, ends, goes, same)) =
      inl (
        (
          adds
              ∙ ap₂ (λ xs r. xs ++ kept_if r row) kept by
              ∙ sym (filter-append has (before ++ done) (row ∷ []))
              ∙ ap (filter has) (append_assoc before done (row ∷ [])),
          number ∙ sym (last-push from done row),
          ap (λ r. r.now) same ∙ by,
        ),
        next,
        ends,
        goes,
      )

  abbrev HasKept : List Numbered → Keeping → Keeping → Type 0
  HasKept rows v w =
      slices.HasWalked KeepsOne (λ u. u.gone) (λ u. u.end) (λ u. u.is_short) HoldsKept one_posting
      [] rows v w

  walked : (rows : List Numbered) (v w : Keeping) → v.postings.items ≡ filter has before →
      v.number ≡ from → v.references.now ≡ references → SawAll KeepsOne rows v w →
      w.is_short ≡ false → HasKept rows v w
  walked rows v w kept at by saw enough =
      slices.walked KeepsOne (λ u. u.gone) (λ u. u.end) (λ u. u.is_short) HoldsKept one_posting
      [] rows v w (kept ∙ ap (filter has) (sym (append-nil before)), at, by) saw enough

-- ---- over tables with a past

module _ (t : Tables) (past : HasPast t) (m references : List ℕ) where
  -- what is kept up to a number
  abbrev IsKeptUpTo : (day number : ℕ) → List Numbered → Type 0
  IsKeptUpTo day number kept =
      (number ≤ count (is_of_day m day) t.postings)
      × (kept ≡ filter (has_one_of references) (postings_up_to t m day number))

  none_kept : (day : ℕ) → IsKeptUpTo day 0 []
  none_kept day = (
    omega arith,
    ap (filter (has_one_of references))
        (sym (append_cancel_right (postings_up_to t m day 0) [] (postings_above_at t m day 0)
        (numbers.day_in_two m day t past 0))),
  )

  kept_of : (day : ℕ) (days : List PostedDay) → All (IsKept t m references) days →
      IsKeptUpTo day (kept_in days day).0 (kept_in days day).1
  kept_of day [] all = none_kept day
  kept_of day (x ∷ days) all =
      go (kept_of day days (All-tail (IsKept t m references) x days all)) (is_on day x) refl
    where
      one : IsKept t m references x
      one = All-head (IsKept t m references) x days all

      go : IsKeptUpTo day (kept_in days day).0 (kept_in days day).1 → (b : Bool) →
          is_on day x ≡ b →
          IsKeptUpTo day (kept_by (cond b (Some x) (find (is_on day) days))).0
          (kept_by (cond b (Some x) (find (is_on day) days))).1
      go rest true here =
          let same : x.day ≡ day = grind (arith, nat_tests, here) in
          subst (λ d. IsKeptUpTo d x.number x.postings.items) same (one.within, one.postings)
      go rest false here = rest

  -- what was gone over is kept
  pub kept_on : (day : ℕ) (days : List PostedDay) → All (IsKept t m references) days →
      (number : ℕ) (kept : List Numbered) → number ≡ (kept_in days day).0 →
      kept ≡ (kept_in days day).1 → (v w : Keeping) → v.postings.items ≡ kept →
      v.number ≡ number → v.references.now ≡ references →
      SawAll KeepsOne (postings_above_at t m day number) v w → w.is_short ≡ false →
      (new : PostedDay) → new.day ≡ day → new.number ≡ w.number →
      new.postings.items ≡ w.postings.items → IsKept t m references new
  kept_on day days all number kept at are v w had from by saw enough new on ends items =
      let is = subst (λ n. IsKeptUpTo day n (kept_in days day).1) (sym at) (kept_of day days all) in
      let up = postings_up_to t m day number in
      let gone = walked references up number (postings_above_at t m day number) v w
      (had ∙ are ∙ is.1) from by saw enough in
      let last = numbers.gone_within m day t past number gone.gone gone.left gone.parts is.0 in
      let whole = numbers.gone_on m day t past number gone.gone gone.left gone.parts in
      let reached : new.number ≡ last_number number gone.gone = ends ∙ gone.holds.1 in
      record {
        within = subst (λ n. n ≤ count (is_of_day m new.day) t.postings) (sym reached)
            (subst (λ d. last_number number gone.gone ≤ count (is_of_day m d) t.postings) (sym on)
            last);
        postings = items ∙ gone.holds.0
            ∙ ap (filter (has_one_of references))
            (sym whole ∙ ap₂ (λ d n. postings_up_to t m d n) (sym on) (sym reached));
      }

-- ---- the lines of a request whose references are among these

abbrev pub AreAmong : List ℕ → Request → Type 0
AreAmong references row =
    IfSome row.reference (λ n. list_any (λ other. other == n) references ≡ true)
    × IfSome row.follows (λ n. list_any (λ other. other == n) references ≡ true)

same_number : (n : ℕ) (references : List ℕ) (o : Option ℕ) →
    list_any (λ other. other == n) references ≡ false →
    IfSome o (λ k. list_any (λ other. other == k) references ≡ true) → is_number n o ≡ false
same_number n references None lacks among = refl
same_number n references (Some k) lacks among = go (k == n) refl
  where
    go : (b : Bool) → (k == n) ≡ b → b ≡ false
    go true is =
        let same : k ≡ n = grind (arith, nat_tests, is) in
        absurd (true≢false (sym among
        ∙ ap (λ x. list_any (λ other. other == x) references) same ∙ lacks))
    go false is = refl

not_its : (references : List ℕ) (row : Request) (posted : Numbered) → AreAmong references row →
    has_one_of references posted ≡ false → posting_line row posted ≡ []
not_its references row posted among lacks =
    ap (λ b. cond b (line_about row (posted_words posted)) [])
    (go (bytes_eq posted.1.terminal row.key.terminal) (bytes_eq posted.1.trace row.key.trace)
    (same_leg posted.1.leg row.leg) (is_number posted.1.reference row.reference)
    (is_number posted.1.reference row.follows)
    (same_number posted.1.reference references row.reference lacks among.0)
    (same_number posted.1.reference references row.follows lacks among.1))
  where
    go : (a b c d e : Bool) → d ≡ false → e ≡ false → (a && b && c && (d || e)) ≡ false
    go true true true d e h k = ap₂ (λ x y. x || y) h k
    go true true false d e h k = refl
    go true false c d e h k = refl
    go false b c d e h k = refl

only_with : (references : List ℕ) (row : Request) → AreAmong references row →
    (rows : List Numbered) →
    flat_map (posting_line row) (filter (has_one_of references) rows)
    ≡ flat_map (posting_line row) rows
only_with references row among [] = refl
only_with references row among (x ∷ rows) =
    go (only_with references row among rows) (has_one_of references x) refl
  where
    kept : List Numbered
    kept = filter (has_one_of references) rows

    go : flat_map (posting_line row) kept ≡ flat_map (posting_line row) rows → (b : Bool) →
        has_one_of references x ≡ b →
        flat_map (posting_line row) (cond b (x ∷ kept) kept)
        ≡ posting_line row x ++ flat_map (posting_line row) rows
    go rest true there = ap (λ xs. posting_line row x ++ xs) rest
    go rest false lacks =
        rest ∙ ap (λ xs. xs ++ flat_map (posting_line row) rows)
        (sym (not_its references row x among lacks))

pub lines_are : (t : Tables) → HasPast t → (references : List ℕ) (days : List PostedDay)
    (row : Request) → All (IsKept t row.key.merchant references) days → AreAmong references row →
    lines_with days t row ≡ posting_lines t row
lines_are t past references days row all among =
    let m = row.key.merchant in
    let number = (kept_in days row.day).0 in
    let is = kept_of t past m references row.day days all in
    ap (λ xs. xs ++ flat_map (posting_line row) (postings_above_at t m row.day number))
    (ap (flat_map (posting_line row)) is.1
    ∙ only_with references row among (postings_up_to t m row.day number))
    ∙ sym (flat_map-append (posting_line row) (postings_up_to t m row.day number)
    (postings_above_at t m row.day number))
    ∙ ap (flat_map (posting_line row)) (numbers.day_in_two m row.day t past number)
