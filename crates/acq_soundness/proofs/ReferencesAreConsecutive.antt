-- References are consecutive, whatever comes.
use Rattle.std.proofs.Common.{◌≡◌, ℕ, zero, suc, ◌+◌, ◌<◌, List, [], ◌∷◌, ◌++◌, Option, Some, None}
use Rattle.std.proofs.Common.{Bool, true, false, cond, inl, inr, ◌⊎◌, refl, sym, ap, ◌∙◌, subst}
use Rattle.std.proofs.Common.{arith}
use Rattle.std.specs.Prelude.{map, is_some, nat_eq}
use Rattle.std.specs.Option.{option_or}
use Rattle.std.specs.List.{cons_option, range_with_len, list_any}
use Rattle.std.specs.Str.{bytes_eq}
use Rattle.std.proofs.lemmas.Bool.{ne_eqb}
use Rattle.std.proofs.lemmas.List.{append-nil}
use Rattle.std.proofs.lemmas.List.Elements.{filter_map-append}
use Rattle.std.proofs.lemmas.List.Folds.{find-append}
use Rattle.acq_message.specs.declared.request_key.RequestKey.{RequestKey}
use Rattle.acq_core.specs.declared.arrival.Arrival.{Arrival}
use Rattle.acq_core.specs.declared.merchant.Merchant.{Merchant}
use Rattle.acq_core.specs.declared.request.Request.{Request}
use Rattle.acq_core.specs.Changes.{change_of}
use Rattle.acq_core.specs.Tables.{Tables, new_tables, known_in, requests_of, admitted_in}
use Rattle.acq_core.specs.Tables.{with_changed, after_any, step_tables, tables_after}
use Rattle.acq_core.proofs.Counts.{count-push}
use Rattle.acq_soundness.proofs.Lookups.{count-view, count-same, filter-push_in, filter-push_out}
use Rattle.acq_soundness.proofs.Keys.{bytes_eq_is, bytes_eq_itself}
use Rattle.acq_soundness.specs.References.{references_in, merchant_in, AreRowsOf}
use Rattle.acq_soundness.specs.References.{HasConsecutiveReferences, ReferencesAreConsecutive}
use Rattle.acq_soundness.specs.Keys.{are_distinct}
use Rattle.acq_soundness.proofs.StepCases.{by_step}
use Rattle.acq_soundness.proofs.Runs.{kept}
use Rattle.acq_soundness.proofs.RowsWithChanges.{Edits, changing, changing_kept, followed_kept}
use Rattle.acq_soundness.proofs.RowsWithChanges.{answered_kept, requests_of-changed}
use Rattle.acq_soundness.proofs.FoundRows.{merchant_among}

-- ---- one number more

range_with_len-more : (a n : ℕ) → range_with_len a (suc n) ≡ range_with_len a n ++ (a + n) ∷ []
range_with_len-more a zero = let same : a ≡ a + 0 = omega arith in ap (λ x. x ∷ []) same
range_with_len-more a (suc n) =
    let same : a + 1 + n ≡ a + suc n = omega arith in
    ap (λ xs. a ∷ xs)
    (range_with_len-more (a + 1) n ∙ ap (λ x. range_with_len (a + 1) n ++ x ∷ []) same)

-- a row without a reference, or with the one that comes next
abbrev pub MayFollow : Merchant → List Request → Request → Type 0
MayFollow merchant rows row =
    (row.reference ≡ None) ⊎ (row.reference ≡ Some (merchant.first_reference + admitted_in rows))

references_in-push : (rows : List Request) (row : Request) →
    references_in (rows ++ row ∷ []) ≡ references_in rows ++ cons_option row.reference []
references_in-push rows row = filter_map-append (λ x. x.reference) rows (row ∷ [])

admitted_in-push : (rows : List Request) (row : Request) →
    admitted_in (rows ++ row ∷ []) ≡ cond (is_some row.reference) (1 + admitted_in rows)
    (admitted_in rows)
admitted_in-push rows row = count-push (λ x. is_some x.reference) rows row

rows_with_row : (merchant : Merchant) (rows : List Request) (row : Request) →
    MayFollow merchant rows row →
    AreRowsOf (Some merchant) rows → AreRowsOf (Some merchant) (rows ++ row ∷ [])
rows_with_row merchant rows row (inl none) h =
    let first = merchant.first_reference in
    let n = admitted_in rows in
    let count : admitted_in (rows ++ row ∷ []) ≡ n =
    admitted_in-push rows row ∙ ap (λ (o : Option ℕ). cond (is_some o) (1 + n) n) none in
    references_in-push rows row
    ∙ (ap (λ (o : Option ℕ). references_in rows ++ cons_option o []) none
    ∙ (append-nil (references_in rows) ∙ (h ∙ ap (range_with_len first) (sym count))))
rows_with_row merchant rows row (inr next) h =
    let first = merchant.first_reference in
    let n = admitted_in rows in
    let more : 1 + n ≡ suc n = omega arith in
    let count : admitted_in (rows ++ row ∷ []) ≡ suc n =
    admitted_in-push rows row ∙ (ap (λ (o : Option ℕ). cond (is_some o) (1 + n) n) next ∙ more) in
    references_in-push rows row
    ∙ (ap (λ (o : Option ℕ). references_in rows ++ cons_option o []) next
    ∙ (ap (λ xs. xs ++ (first + n) ∷ []) h
    ∙ (sym (range_with_len-more first n) ∙ ap (range_with_len first) (sym count))))

-- ---- rows that were changed

-- with a change that keeps references
rows_changed : (o : Option Merchant) (u : Request → Request) →
    ((x : Request) → (u x).reference ≡ x.reference) →
    (rows : List Request) → AreRowsOf o rows → AreRowsOf o (map u rows)
rows_changed None u keeps rows h = ap (map u) h
rows_changed (Some merchant) u keeps rows h =
    references rows ∙ (h ∙ ap (range_with_len merchant.first_reference) (sym count))
  where
    references : (xs : List Request) → references_in (map u xs) ≡ references_in xs
    references [] = refl
    references (x ∷ xs) = λ i. cons_option (keeps x i) (references xs i)

    count : admitted_in (map u rows) ≡ admitted_in rows
    count =
        count-view u (λ x. is_some x.reference) rows
        ∙ count-same (λ x. is_some (u x).reference) (λ x. is_some x.reference)
        (λ x. ap is_some (keeps x)) rows

-- ---- the rows of all merchants

abbrev pub Has : List Merchant → List ℕ → List Request → Type 0
Has merchants m rows = AreRowsOf (merchant_among merchants m) rows

abbrev pub AreRows : List Merchant → List Request → Type 0
AreRows merchants rows = (m : List ℕ) → Has merchants m (requests_of m rows)

-- with a row more, of a merchant that is enrolled
with_row : (merchants : List Merchant) (rows : List Request) (row : Request) (merchant : Merchant) →
    merchant_among merchants row.key.merchant ≡ Some merchant →
    MayFollow merchant (requests_of row.key.merchant rows) row → AreRows merchants rows →
    AreRows merchants (rows ++ row ∷ [])
with_row merchants rows row merchant enrolled follows h m = step (bytes_eq row.key.merchant m) refl
  where
    mine : Has merchants row.key.merchant (requests_of row.key.merchant (rows ++ row ∷ []))
    mine =
        subst (Has merchants row.key.merchant)
        (sym (filter-push_in (λ x. bytes_eq x.key.merchant row.key.merchant) rows row
        (bytes_eq_itself row.key.merchant)))
        (subst (λ o. AreRowsOf o (requests_of row.key.merchant rows ++ row ∷ [])) (sym enrolled)
        (rows_with_row merchant (requests_of row.key.merchant rows) row follows
        (subst (λ o. AreRowsOf o (requests_of row.key.merchant rows)) enrolled
        (h row.key.merchant))))

    step : (b : Bool) → bytes_eq row.key.merchant m ≡ b →
        Has merchants m (requests_of m (rows ++ row ∷ []))
    step true e = subst (λ x. Has merchants x (requests_of x (rows ++ row ∷ [])))
        (bytes_eq_is row.key.merchant m e) mine
    step false e =
        subst (Has merchants m) (sym (filter-push_out (λ x. bytes_eq x.key.merchant m) rows row e))
        (h m)

-- with the row of a key changed
with_changes : (merchants : List Merchant) (rows : List Request) (key : RequestKey)
    (changed : Request → Request) → Edits changed →
    AreRows merchants rows → AreRows merchants (with_changed key changed rows)
with_changes merchants rows key changed edits h m =
    subst (AreRowsOf (merchant_among merchants m))
    (sym (requests_of-changed m key changed edits rows))
    (rows_changed (merchant_among merchants m) (changing key changed)
    (λ x. (changing_kept key changed edits x).reference)
    (requests_of m rows) (h m))

-- with a merchant more
with_merchant : (merchants : List Merchant) (rows : List Request) (merchant : Merchant) →
    AreRows merchants rows → AreRows (merchants ++ merchant ∷ []) rows
with_merchant merchants rows merchant h m =
    subst (λ o. AreRowsOf o (requests_of m rows))
    (sym (find-append (λ row. bytes_eq row.id m) merchants (merchant ∷ [])))
    (step (merchant_among merchants m) (h m))
  where
    first : (o : Option Merchant) → AreRowsOf o []
    first None = refl
    first (Some x) = refl

    step : (o : Option Merchant) → AreRowsOf o (requests_of m rows) →
        AreRowsOf (option_or o (merchant_among (merchant ∷ []) m)) (requests_of m rows)
    step None none = subst (AreRowsOf (merchant_among (merchant ∷ []) m)) (sym none)
        (first (merchant_among (merchant ∷ []) m))
    step (Some x) there = there

-- ---- steps

step : (t : Tables) (a : Arrival) → HasConsecutiveReferences t →
    HasConsecutiveReferences (step_tables t a)
step t a h =
    by_step t a (λ d. HasConsecutiveReferences (after_any t (change_of (known_in t a) d)))
    (record {
      reported = λ o is. h;
      malformed = λ r came. h;
      replied = λ r came given is. h;
      repeated = λ row member. h;
      refused = λ r merchant g given is.
          with_row t.merchants t.requests _ merchant g.enrolled (inl refl) h;
      admitted = λ r merchant g range c.
          with_row t.merchants t.requests _ merchant g.enrolled (inr refl) h;
      completed = λ r merchant g hold c.
          with_row t.merchants _ _ merchant g.enrolled (inl refl)
          (with_changes t.merchants t.requests hold.key _ (followed_kept _) h);
      reversed = λ r merchant g row c.
          with_row t.merchants _ _ merchant g.enrolled (inl refl)
          (with_changes t.merchants t.requests row.key _ (followed_kept _) h);
      reconciled = λ r merchant g day c.
          with_row t.merchants t.requests _ merchant g.enrolled (inl refl) h;
      answered = λ moment v row c.
          with_changes t.merchants t.requests row.key _ (answered_kept _ _ _) h;
      cut_over = λ came before. h;
      range_added = λ range came valid free. h;
      range_dropped = λ low high came. h;
      enrolled = λ merchant came new. with_merchant t.merchants t.requests merchant h;
      terminal_added = λ terminal came new. h;
    })

-- ---- none is given twice

-- numbers from one on stand above all before it
range-above : (low a n : ℕ) → low < a → list_any (nat_eq low) (range_with_len a n) ≡ false
range-above low a zero above = refl
range-above low a (suc n) above = rw (ne_eqb low a (omega arith))
    (range-above low (a + 1) n (omega arith))

range-distinct : (a n : ℕ) → are_distinct nat_eq (range_with_len a n) ≡ true
range-distinct a zero = refl
range-distinct a (suc n) = rw (range-above a (a + 1) n (omega arith)) (range-distinct (a + 1) n)

references-distinct : (o : Option Merchant) (rows : List Request) → AreRowsOf o rows →
    are_distinct nat_eq (references_in rows) ≡ true
references-distinct None rows h = ap (λ xs. are_distinct nat_eq (references_in xs)) h
references-distinct (Some merchant) rows h =
    ap (are_distinct nat_eq) h ∙ range-distinct merchant.first_reference (admitted_in rows)

pub references_are_consecutive : ReferencesAreConsecutive
references_are_consecutive opening es =
    let t = tables_after (new_tables opening) es in
    let all : HasConsecutiveReferences (tables_after (new_tables opening) es) =
    kept HasConsecutiveReferences step (new_tables opening) es (λ m. refl) in
    (all, λ m. references-distinct (merchant_in t m) (requests_of m t.requests) (all m))
