-- A query that has answered some rows so far, one at a time, and what the next row says of it.
use Rattle.std.proofs.Common.{◌≡◌, ◌+◌, ◌++◌, Bool, false, ℕ, List, [], ◌∷◌, length}
use Rattle.std.proofs.Common.{Option, Some, None, refl, sym, ap, subst, ◌∙◌, arith}
use Rattle.std.proofs.lemmas.List.{append-nil, append_assoc, length-append}
use Rattle.sqlite_trees.specs.declared.store.Store.{Ghosts}
use Rattle.sqlite_value.specs.Order.{Row}
use Rattle.sqlite.specs.Given.{Advances, HasBegun}
use Rattle.sqlite.specs.Held.{Held, state}
use Rattle.sqlite.specs.State.{State, HasCleanDisk, IsUnchanged, Shown, Survives, CommitsShowing}
use Rattle.row_lemmas.specs.Selects.{IsSelect}
use Rattle.acq_book.specs.Visits.{Saw}
use Rattle.acq_sql_reads.specs.Looked.{LooksOnly}
use Rattle.acq_sql_reads.specs.Shown.{AreFirst, AreRead, SawEach, SawFirst}
use Rattle.acq_sql_reads.proofs.Showing.{HasShown, IsShowing, shown_each, shown_first, shown_more}
use Rattle.acq_sql_reads.proofs.Showing.{shown_none, shown_before, kept_on, settled_on}
use Rattle.acq_sql_reads.proofs.Showing.{looks_on}
use Rattle.acq_sql_audit.specs.Answered.{Follows}

-- each row is read as itself, and put behind those before it
abbrev pub reads : Row → Row → Type 0
reads row x = row ≡ x

abbrev pub puts : List Row → Row → Bool → List Row → Type 0
puts rows x more later = later ≡ rows ++ x ∷ []

read_is : (rows xs : List Row) → AreRead reads rows xs → rows ≡ xs
read_is [] [] read = refl
read_is (row ∷ rows) (x ∷ xs) read =
    ap (λ r. r ∷ rows) read.0 ∙ ap (λ l. x ∷ l) (read_is rows xs read.1)
read_is [] (x ∷ xs) read = absurd read
read_is (row ∷ rows) [] read = absurd read

put_is : (xs v w : List Row) → Saw puts xs v w → w ≡ v ++ xs
put_is [] v w saw = sym saw ∙ sym (append-nil v)
put_is (x ∷ xs) v w saw =
    put_is xs saw.0 w saw.2 ∙ ap (λ l. l ++ xs) saw.1 ∙ append_assoc v (x ∷ []) xs

-- what was put is what was answered
module _ (sql : List ℕ) (s : State) (u : List Row) where
  all_put : SawEach sql [] s reads puts [] u → Shown sql [] s s u
  all_put (rows, xs, shown, read, saw) =
      subst (λ l. Shown sql [] s s l) (read_is rows xs read ∙ sym (put_is xs [] u saw)) shown

  first_put : SawFirst sql [] s reads puts [] u → AreFirst sql [] s u
  first_put (rows, xs, begun, read, saw) =
      subst (λ l. AreFirst sql [] s l) (read_is rows xs read ∙ sym (put_is xs [] u saw)) begun

module _ {S : Type 0} (g : Ghosts S) (sql : List ℕ) (first : Held S) where
  -- these rows are what the query has answered so far
  abbrev pub IsAnswering : Held S → List Row → Type 0
  IsAnswering h rows = IsShowing g sql [] first reads puts [] h (length rows) rows

  pub answers_none : (h : Held S) → (first.in_transaction ≡ false → h.in_transaction ≡ false)
      → Survives (state g first) (state g h) (CommitsShowing sql [] (state g first))
      → (HasCleanDisk (state g h) → HasBegun g sql [] first h) → IsAnswering h []
  answers_none h settled kept begun =
      record {
        kept = kept;
        settled = settled;
        shown = λ clean plain. shown_none g sql [] first reads puts [] h plain (begun clean);
      }

module _ {S : Type 0} {g : Ghosts S} {sql : List ℕ} {first h : Held S} {rows : List Row}
    (showing : IsAnswering g sql first h rows) (next : Held S)
    (moved : Survives (state g h) (state g next) (λ _. ⊥))
    (mode : h.in_transaction ≡ false → next.in_transaction ≡ false) (x : Option Row)
    (gives : HasCleanDisk (state g next) → Advances g h next x)
    (same : HasCleanDisk (state g next) → IsUnchanged (state g h) (state g next)) where
  one_more : (clean : HasCleanDisk (state g next)) → IsSelect sql → (row : Row) → x ≡ Some row
      → HasShown g sql [] first reads puts [] next (length rows + 1) (rows ++ row ∷ [])
  one_more clean plain row is =
      let was = shown_before showing next moved mode clean plain in
      let gave = rw is at (gives clean) in
      shown_more was next (rows ++ row ∷ []) (same clean) row row
      (gave sql [] was.rows was.given) refl refl

  pub answers_more : (row : Row) → x ≡ Some row → IsAnswering g sql first next (rows ++ row ∷ [])
  answers_more row is =
      record {
        kept = kept_on showing next moved mode;
        settled = settled_on showing next moved mode;
        shown = λ clean plain.
            let many : length rows + 1 ≡ length (rows ++ row ∷ []) =
            omega (arith, length-append rows (row ∷ [])) in
            subst (λ n. HasShown g sql [] first reads puts [] next n (rows ++ row ∷ [])) many
            (one_more clean plain row is);
      }

  -- the next row follows those so far, or they are all
  pub follows : HasCleanDisk (state g next) → IsSelect sql → Follows sql (state g first) rows x
  follows clean plain = go x refl
    where
      go : (y : Option Row) → x ≡ y → Follows sql (state g first) rows y
      go None is =
          let was = shown_before showing next moved mode clean plain in
          let ended = rw is at (gives clean) in
          all_put sql (state g first) rows
          (shown_each was next plain (ended sql [] was.rows was.given))
      go (Some row) is =
          first_put sql (state g first) (rows ++ row ∷ [])
          (shown_first (one_more clean plain row is))

  pub looks_further : IsSelect sql → (succeeded : Bool)
      → LooksOnly (state g first) (state g next) succeeded
  looks_further plain succeeded = looks_on showing next moved mode plain succeeded same
