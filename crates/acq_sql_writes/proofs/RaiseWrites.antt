-- What the upsert of the running totals does.
use Rattle.std.proofs.Common.{◌≡◌, ◌||◌, ◌==◌, inl, inr, ℕ, suc, ℤ, pos, Bool, true, false, List}
use Rattle.std.proofs.Common.{[], ◌∷◌, ◌++◌, map, drop, find}
use Rattle.std.proofs.Common.{Option, None, Some, Ok, refl, sym, ap, ap₂, subst, ◌∙◌, true≢false}
use Rattle.std.specs.Ordering.{is_eq}
use Rattle.std.proofs.lemmas.Bool.{and_parts, cases_Bool}
use Rattle.std.proofs.lemmas.Cmp.{tied_itself}
use Rattle.sqlite_value.specs.declared.value.Value.TheVariants.{Null, Int}
use Rattle.sqlite_value.specs.Keys.{first_key}
use Rattle.sqlite_value.specs.Order.{Row, value_cmp}
use Rattle.sqlite_value.proofs.OrderLemmas.{value_cmp_total}
use Rattle.sqlite_trees.specs.Tree.{rowid, put_row}
use Rattle.sqlite_schema.specs.declared.command.Command.TheVariants.{InsertOr}
use Rattle.sqlite_schema.specs.declared.command.Conflict.TheVariants.{Abort}
use Rattle.sqlite_schema.specs.declared.command.Source.TheVariants.{Values}
use Rattle.sqlite_rules.specs.Lists.{Has}
use Rattle.sqlite_rules.specs.Calls.{ids_of}
use Rattle.sqlite_rules.specs.Cast.{cast_row}
use Rattle.sqlite_rules.specs.Keys.{AreConflicts, conflicts}
use Rattle.sqlite_rules.specs.declared.error.Rowids.TheVariants.{Chosen, Given}
use Rattle.sqlite_rules.specs.Edit.{with_rowid, next_rowid, edit_of, Applies}
use Rattle.sqlite_rules.proofs.ListLemmas.{all_has}
use Rattle.sqlite.specs.declared.run.Mode.{Mode}
use Rattle.sqlite.specs.Effect.{Database, IsDatabase, Answers}
use Rattle.sqlite.specs.Rows.{shown}
use Rattle.sqlite.specs.Does.{Tally as Noted, Does}
use Rattle.row_lemmas.specs.Numbered.{numbered_from, rows_of}
use Rattle.row_lemmas.specs.Values.{number}
use Rattle.row_lemmas.specs.Queries.{alone}
use Rattle.row_lemmas.proofs.ColumnTests.{text_test, number_test, number_sum, and_true, cast_int}
use Rattle.row_lemmas.proofs.ColumnTests.{cast_null}
use Rattle.row_lemmas.proofs.NumberedRows.{numbered_shaped, element_put, of_element, has_number}
use Rattle.row_lemmas.proofs.QueryRows.{picked, shown_of}
use Rattle.row_lemmas.proofs.TableRows.{same_row}
use Rattle.row_lemmas.proofs.StatementEffects.{bare, upserted, Raises}
use Rattle.row_lemmas.proofs.RowChanges.{numbered_updated}
use Rattle.acq_core.specs.Tables.{Tables}
use Rattle.acq_sql_rows.specs.declared.form.Form.{Form}
use Rattle.acq_sql_rows.specs.declared.form.Form.TheVariants.{Unique, Plain}
use Rattle.acq_sql_rows.specs.Schema.{book_schema}
use Rattle.acq_sql_rows.specs.Schema.{running_tree}
use Rattle.acq_sql_rows.specs.Tallies.{Tally, Running, AreApart, FitsTally, is_for, plus, tally_in}
use Rattle.acq_sql_rows.specs.Tallies.{or_no_tally, raised}
use Rattle.acq_sql_rows.specs.Tallies.{raised_at, raised_in}
use Rattle.acq_sql_rows.specs.Rows.{running_row}
use Rattle.acq_sql_rows.specs.Queries.{new_row, raise_query, raises}
use Rattle.acq_sql_rows.specs.Relation.{HoldsRows}
use Rattle.acq_sql_rows.proofs.SameKeys.{bytes_same, number_same, number_itself}
use Rattle.acq_sql_writes.proofs.RunningTotals.{raised_apart, found_first}
use Rattle.acq_sql_rows.proofs.TableTurns as at

pub laid_running : (r : Running)
    → cast_row at.the_running (Null ∷ running_row r) ≡ Null ∷ running_row r
laid_running r =
    rw (
      cast_null,
      cast_int (pos r.day),
      cast_int (pos r.tally.used),
      cast_int (pos r.tally.totals.credits.count),
      cast_int (pos r.tally.totals.credit_reversals.count),
      cast_int (pos r.tally.totals.debits.count),
      cast_int (pos r.tally.totals.debit_reversals.count),
      cast_int (pos r.tally.totals.credits.amount),
      cast_int (pos r.tally.totals.credit_reversals.amount),
      cast_int (pos r.tally.totals.debits.amount),
      cast_int (pos r.tally.totals.debit_reversals.amount),
    )

pub laid_at : (id : ℤ) (r : Running) →
    cast_row at.the_running (Int id ∷ running_row r) ≡ Int id ∷ running_row r
laid_at id r =
    rw (
      cast_int id,
      cast_int (pos r.day),
      cast_int (pos r.tally.used),
      cast_int (pos r.tally.totals.credits.count),
      cast_int (pos r.tally.totals.credit_reversals.count),
      cast_int (pos r.tally.totals.debits.count),
      cast_int (pos r.tally.totals.debit_reversals.count),
      cast_int (pos r.tally.totals.credits.amount),
      cast_int (pos r.tally.totals.credit_reversals.amount),
      cast_int (pos r.tally.totals.debits.amount),
      cast_int (pos r.tally.totals.debit_reversals.amount),
    )

or_false : (b : Bool) → (b || false) ≡ b
or_false true = refl
or_false false = refl

-- the row that is there has the key of the new one
pub conflict_test : (form : Form) (new id : ℤ) (r x : Running)
    → conflicts (Some (1 ∷ 2 ∷ [])) (book_schema form).indexes (bare at.the_running)
    (Int new ∷ running_row r) (Int id ∷ running_row x)
    ≡ is_for r.merchant r.day x
unfolding book_schema first_key
conflict_test Unique new id r x =
    rw (text_test x.merchant r.merchant, number_test x.day r.day, and_true, or_false) refl
conflict_test Plain new id r x =
    rw (text_test x.merchant r.merchant, number_test x.day r.day, and_true, or_false) refl

pub none_find : {X : Type 0} (p : X → Bool) (xs : List X) → ((x : X) → Has xs x → p x ≡ false) →
    find p xs ≡ None
none_find p [] none = refl
none_find p (x ∷ xs) none = rw (none x (inl refl)) (none_find p xs (λ y h. none y (inr h)))

module _ (merchant : List ℕ) (day : ℕ) (more : Tally) where
  abbrev pub it : Running
  it = record { merchant = merchant; day = day; tally = more }

  abbrev pub raise : Running → Running
  raise y = record y { tally = plus y.tally more }

  abbrev hits : Form → ℤ → Row → Bool
  hits form new =
      conflicts (Some (1 ∷ 2 ∷ [])) (book_schema form).indexes (bare at.the_running)
      (Int new ∷ running_row it)

  hit_of : (form : Form) (new : ℤ) (id : ℕ) (x : Running) (r : Row)
      → r ≡ Int (pos id) ∷ running_row x
      → hits form new r ≡ is_for merchant day x
  hit_of form new id x r is = ap (hits form new) is ∙ conflict_test form new (pos id) it x

  pub never_two : (x y : Running) → is_for y.merchant y.day x ≡ false → is_for merchant day x ≡ true
      → is_for merchant day y ≡ true → ⊥
  never_two x y apart one two =
      let parts = and_parts _ _ two in
      let same = ap₂ (λ a b. is_for a b x) (bytes_same y.merchant merchant parts.0)
      (number_same y.day day parts.1) in
      true≢false (sym one ∙ sym same ∙ apart)

  -- one row has the key at most
  one_hit : (form : Form) (new : ℤ) (n : ℕ) (xs : List Running) (r s : Row) → AreApart xs →
      Has (numbered_from n (map running_row xs)) r
      → Has (numbered_from n (map running_row xs)) s → hits form new r ≡ true
      → hits form new s ≡ true → r ≡ s
  one_hit form new n [] r s apart here there h k = absurd here
  one_hit form new n (x ∷ xs) r s apart (inl is) (inl too) h k = is ∙ sym too
  one_hit form new n (x ∷ xs) r s apart (inl is) (inr later) h k =
      let y = of_element running_row (suc n) xs s later in
      absurd (never_two x y.1 (all_has _ xs y.1 apart.0 y.2) (sym (hit_of form new n x r is) ∙ h)
      (sym (hit_of form new y.0 y.1 s y.3) ∙ k))
  one_hit form new n (x ∷ xs) r s apart (inr later) (inl is) h k =
      let y = of_element running_row (suc n) xs r later in
      absurd (never_two x y.1 (all_has _ xs y.1 apart.0 y.2) (sym (hit_of form new n x s is) ∙ k)
      (sym (hit_of form new y.0 y.1 r y.3) ∙ h))
  one_hit form new n (x ∷ xs) r s apart (inr later) (inr too) h k =
      one_hit form new (suc n) xs r s apart.1 later too h k

  -- the day of the row that is there has room
  pub fits_there : (runs : List Running) → AreApart runs
      → FitsTally (plus (tally_in runs merchant day) more) → (y : Running) → Has runs y
      → is_for merchant day y ≡ true → FitsTally (plus y.tally more)
  fits_there runs apart room y h is =
      subst (λ o. FitsTally (plus (or_no_tally o) more))
      (found_first merchant day more runs y apart h is) room

  -- what the row that is there becomes
  pub shows : (rest : Row) (id : ℕ) (y : Running) → FitsTally (plus y.tally more)
      → shown_of (drop 1 raise_query.project) (running_row it ++ rest)
      (Int (pos id) ∷ running_row y)
      ≡ Int (pos id) ∷ running_row (raise y)
  shows rest id y fit =
      let a = y.tally.totals in
      let b = more.totals in
      rw (
        number_sum y.tally.used more.used fit.used,
        number_sum a.credits.count b.credits.count fit.credits.0,
        number_sum a.credit_reversals.count b.credit_reversals.count fit.credit_reversals.0,
        number_sum a.debits.count b.debits.count fit.debits.0,
        number_sum a.debit_reversals.count b.debit_reversals.count fit.debit_reversals.0,
        number_sum a.credits.amount b.credits.amount fit.credits.1,
        number_sum a.credit_reversals.amount b.credit_reversals.amount fit.credit_reversals.1,
        number_sum a.debits.amount b.debits.amount fit.debits.1,
        number_sum a.debit_reversals.amount b.debit_reversals.amount fit.debit_reversals.1,
      ) refl

  module _ (limit : Option ℕ) (mode : Mode) (old new : Database) (text : List ℕ) (noted : Noted)
      (t : Tables)
      (runs : List Running) (has : HoldsRows old t runs)
      (room : FitsTally (plus (tally_in runs merchant day) more))
      (sound : IsDatabase new) where
    abbrev rows : List Row
    rows = rows_of running_row runs

    abbrev next : ℤ
    next = next_rowid (old.trees running_tree)

    abbrev row : Row
    row = Int next ∷ running_row it

    in_rows : (r : Row) → Has (old.trees running_tree) r → Has rows r
    in_rows r h = subst (λ l. Has l r) has.running h

    in_tree : (r : Row) → Has rows r → Has (old.trees running_tree) r
    in_tree r h = subst (λ l. Has l r) (sym has.running) h

    abbrev Meets : List Row → Type 0
    Meets found =
        AreConflicts (Some (1 ∷ 2 ∷ [])) (book_schema has.schema.0).indexes (bare at.the_running)
        (old.trees running_tree) row found

    absent : Meets [] → find (is_for merchant day) runs ≡ None
    absent none = none_find (is_for merchant day) runs (λ x h.
        elim (cases_Bool (is_for merchant day x)) [
          | inl passes ↦
              let here = has_number running_row 1 runs x h in
              absurd (none.complete _ (in_tree _ here.1)
              (hit_of has.schema.0 next here.0 x _ refl ∙ passes))
          | inr fails ↦ fails
        ])

    appended : Applies (book_schema has.schema.0) mode.keys old.trees
        (edit_of old.trees (bare at.the_running) [] Given 0 (row ∷ [])) new.trees
        → new.trees running_tree ≡ rows_of running_row (runs ++ it ∷ [])
    appended applied =
        applied.rows ∙ ap (λ (r : Row). put_row r (old.trees running_tree)) (laid_at next it)
        ∙ ap (λ l. put_row (Int (next_rowid l) ∷ running_row it) l) has.running
        ∙ element_put running_row runs it

    module _ (k : ℕ) (x : Running) (listed : Has runs x) (passes : is_for merchant day x ≡ true)
        (held : Has rows (Int (pos k) ∷ running_row x)) where
      -- the parameters, the rowid of the row that is there, and the row that is not inserted
      abbrev given : Row
      given = running_row it ++ Int (pos k) ∷ shown (bare at.the_running) row

      abbrev p : Row → Bool
      p = picked raise_query.filter given

      p_of : (id : ℕ) (y : Running) → p (Int (pos id) ∷ running_row y) ≡ (id == k)
      p_of id y = rw (number_test id k, and_true) refl

      first_hits : hits has.schema.0 next (Int (pos k) ∷ running_row x) ≡ true
      first_hits = hit_of has.schema.0 next k x _ refl ∙ passes

      same_test : (id : ℕ) (y : Running) → Has rows (Int (pos id) ∷ running_row y)
          → p (Int (pos id) ∷ running_row y) ≡ is_for merchant day y
      same_test id y h = p_of id y ∙ go (id == k) (is_for merchant day y) refl refl
        where
          go : (b c : Bool) → (id == k) ≡ b → is_for merchant day y ≡ c → b ≡ c
          go true true e d = refl
          go false false e d = refl
          go true false e d =
              let tied = ap (λ n. is_eq (value_cmp (number id) (number n)))
              (sym (number_same id k e))
              ∙ ap is_eq (tied_itself value_cmp_total (number id)) in
              let one = same_row rows (Int (pos id) ∷ running_row y) (Int (pos k) ∷ running_row x)
              (numbered_shaped 1 (map running_row runs)).0 h held tied in
              absurd (true≢false
              (sym first_hits ∙ sym (ap (hits has.schema.0 next) one)
              ∙ hit_of has.schema.0 next id y _ refl ∙ d))
          go false true e d =
              let one = one_hit has.schema.0 next 1 runs (Int (pos id) ∷ running_row y)
              (Int (pos k) ∷ running_row x) has.apart h held
              (hit_of has.schema.0 next id y _ refl ∙ d) first_hits in
              absurd (true≢false
              (sym (number_itself k) ∙ sym (p_of k x) ∙ sym (ap p one) ∙ p_of id y ∙ e))

      changed : (answers : List Row)
          → Answers (record { schema = book_schema has.schema.0; trees = old.trees })
          (alone raise_query) given answers
          → Applies (book_schema has.schema.0) mode.keys old.trees
          (edit_of old.trees (bare at.the_running) (ids_of answers) Given 1 answers) new.trees
          → new.trees running_tree ≡ rows_of running_row (raised_in merchant day more runs)
      changed answers answer applied =
          numbered_updated running_row (book_schema has.schema.0) mode.keys old.trees new.trees
          (bare at.the_running) runs has.running
          raise_query.filter (drop 1 raise_query.project) given answers (answer.answer Null)
          (is_for merchant day) raise
          (λ id y h among. same_test id y h)
          (λ id y h among is. ap (cast_row (bare at.the_running))
          (shows (Int (pos k) ∷ shown (bare at.the_running) row) id y
          (fits_there runs has.apart room y among is))
          ∙ laid_at (pos id) (raise y))
          applied

    abbrev Lands : Row → List Row → Type 0
    Lands r found =
        Raises (book_schema has.schema.0) 7 at.the_running (at.running_placed has.schema.0)
        (at.lone has.schema.0 running_tree) limit mode old
        new has.schema.1 text
        (running_row it) noted (1 ∷ 2 ∷ []) raise_query r new.trees found

    pub running_raised :
        Does limit mode (running_row it) old text None
        (InsertOr 7 Abort (Values (new_row 11) 12) (raises ∷ [])) (Ok (noted, new))
        → HoldsRows new t (raised merchant day more runs)
    running_raised does =
        let w = upserted (book_schema has.schema.0) 7 at.the_running
        (at.running_placed has.schema.0)
        (at.lone has.schema.0 running_tree) limit mode old new has.schema.1 text
        (running_row it) noted (1 ∷ 2 ∷ []) raise_query (new_row 11) 12
        (Null ∷ running_row it) refl does in
        let laid : with_rowid Chosen (old.trees running_tree)
        (cast_row (bare at.the_running) (Null ∷ running_row it)) ≡ row =
        ap (with_rowid Chosen (old.trees running_tree)) (laid_running it) in
        let conflict : Row →
        Type 0 = λ r. AreConflicts (Some (1 ∷ 2 ∷ [])) (book_schema has.schema.0).indexes
        (bare at.the_running)
        (old.trees running_tree) r w.1.0 in
        go w.1.0 (subst conflict laid w.1.1) (subst (λ r. Lands r w.1.0) laid w.1.2) w.0
      where
        whole : new.schema ≡ (book_schema has.schema.0) → at.Others old.trees new.trees running_tree
            → new.trees running_tree ≡ rows_of running_row (raised merchant day more runs)
            → HoldsRows new t (raised merchant day more runs)
        whole schema_is rest all =
            at.turned old new t runs has schema_is sound running_tree _ rest all
            t (raised merchant day more runs) refl has.rising has.recorded
            (raised_apart merchant day more runs has.apart)

        go : (found : List Row) → Meets found → Lands row found
            → new.schema ≡ book_schema has.schema.0
            → HoldsRows new t (raised merchant day more runs)
        go [] none applied schema_is =
            whole schema_is (at.others_of has.schema.0 mode.keys old.trees new.trees _ applied)
            (appended applied
            ∙ ap (λ o. rows_of running_row (raised_at runs merchant day more o))
            (sym (absent none)))
        go (there ∷ others) conflict (answers, answer, applied) schema_is =
            let s = conflict.sound there (inl refl) in
            let e = of_element running_row 1 runs s.0 (in_rows s.0 s.1) in
            let passes = sym (hit_of has.schema.0 next e.0 e.1 s.0 e.3) ∙ s.2 in
            let held = subst (Has rows) e.3 (in_rows s.0 s.1) in
            let id : rowid there ≡ Int (pos e.0) = ap rowid s.3 ∙ ap rowid e.3 in
            let answered =
            subst (λ v. Answers (record { schema = book_schema has.schema.0; trees = old.trees })
            (alone raise_query)
            (running_row it ++ v ∷ shown (bare at.the_running) row) answers) id answer in
            whole schema_is (at.others_of has.schema.0 mode.keys old.trees new.trees _ applied)
            (changed e.0 e.1 e.2 passes held answers answered applied
            ∙ ap (λ o. rows_of running_row (raised_at runs merchant day more o))
            (sym (found_first merchant day more runs e.1 has.apart e.2 passes)))
