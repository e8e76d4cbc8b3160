-- What setting the version, or the day, makes of the book's row.
use Rattle.std.proofs.Common.{◌≡◌, inl, inr, ℕ, pos, List, [], ◌∷◌, refl, sym, ap, subst, ◌∙◌}
use Rattle.std.proofs.Common.{arith}
use Rattle.std.specs.List.Sorted.{IsPermutation}
use Rattle.std.proofs.lemmas.List.Sorted.{IsPermutation-refl}
use Rattle.sqlite_value.specs.declared.value.Value.TheVariants.{Int}
use Rattle.sqlite_value.specs.Order.{Row}
use Rattle.sqlite_trees.specs.View.{IsShaped}
use Rattle.sqlite_trees.specs.declared.store.Shape.TheVariants as shape
use Rattle.sqlite_rules.specs.Cast.{cast_row}
use Rattle.row_lemmas.specs.Numbered.{numbered_from}
use Rattle.row_lemmas.proofs.ColumnTests.{cast_int}
use Rattle.row_lemmas.proofs.NumberedRows.{numbered_shaped}
use Rattle.row_lemmas.proofs.QueryRows.{shown_of}
use Rattle.row_lemmas.proofs.ShortRows.{not_oversized}
use Rattle.row_lemmas.proofs.StatementEffects.{bare}
use Rattle.row_lemmas.proofs.MovesSucceed.{IsSoundRow, IsMove}
use Rattle.acq_sql_rows.specs.declared.form.Form.{Form}
use Rattle.acq_sql_rows.specs.Schema.{book_schema}
use Rattle.row_lemmas.specs.Values.{number}
use Rattle.acq_sql_rows.specs.Rows.{version, book_row, book_row_of}
use Rattle.row_lemmas.specs.Queries.{column, param}
use Rattle.sqlite_sql.specs.Term.{Term}
use Rattle.acq_sql_rows.specs.Queries.{version_columns}
use Rattle.acq_sql_rows.proofs.TableTurns.{the_book}
use Rattle.acq_sql_writes.proofs.MovedTables.{book_narrow}

-- the rows of the table: one
abbrev pub book_rows : ℕ → ℕ → ℕ → List Row
book_rows number limit day = numbered_from 1 (book_row_of number limit day ∷ [])

pub book_shaped : (number limit day : ℕ) → IsShaped shape.Table (book_rows number limit day)
book_shaped number limit day = numbered_shaped 1 (book_row_of number limit day ∷ [])

abbrev set : Row → Row
set r = cast_row (bare the_book) (shown_of version_columns [] r)

row_set : (number limit day : ℕ)
    → set (Int (pos 1) ∷ book_row_of number limit day) ≡ Int (pos 1) ∷ book_row limit day
row_set number limit day =
    rw (cast_int (pos 1), cast_int (pos version), cast_int (pos limit), cast_int (pos day)) refl

book_sound : (form : Form) (limit day : ℕ)
    → IsSoundRow (book_schema form) (bare the_book) (Int (pos 1) ∷ book_row limit day)
book_sound form limit day =
    record {
      id = pos 1;
      at = refl;
      small = refl;
      pass = record { typed = refl; present = refl; checked = refl };
      sized = not_oversized (book_schema form) (bare the_book) (Int (pos 1) ∷ book_row limit day)
          (book_narrow form) (tt, (tt, (tt, (tt, tt)))) (omega arith) (omega arith);
    }

pub version_moves : (form : Form) (number limit day : ℕ)
    → IsMove (book_schema form) (bare the_book) version_columns [] (book_rows number limit day)
    (book_rows version limit day)
version_moves form number limit day =
    record {
      sound = λ r h. elim h [
        | inl is ↦
            subst (IsSoundRow (book_schema form) (bare the_book))
            (sym (ap set is ∙ row_set number limit day)) (book_sound form limit day)
        | inr none ↦ absurd none
      ];
      up = (book_shaped version limit day).0;
      same =
          subst (λ r. IsPermutation (r ∷ []) (book_rows version limit day))
          (sym (row_set number limit day)) (IsPermutation-refl _);
    }

-- ---- the day

abbrev pub day_columns : List Term
day_columns = column 0 ∷ column 1 ∷ column 2 ∷ param 0 ∷ []

abbrev on : ℕ → Row → Row
on day r = cast_row (bare the_book) (shown_of day_columns (number day ∷ []) r)

row_on : (limit earlier day : ℕ)
    → on day (Int (pos 1) ∷ book_row limit earlier) ≡ Int (pos 1) ∷ book_row limit day
row_on limit earlier day =
    rw (cast_int (pos 1), cast_int (pos version), cast_int (pos limit), cast_int (pos day)) refl

pub day_moves : (form : Form) (limit earlier day : ℕ)
    → IsMove (book_schema form) (bare the_book) day_columns (number day ∷ [])
    (book_rows version limit earlier) (book_rows version limit day)
day_moves form limit earlier day =
    record {
      sound = λ r h. elim h [
        | inl is ↦
            subst (IsSoundRow (book_schema form) (bare the_book))
            (sym (ap (on day) is ∙ row_on limit earlier day)) (book_sound form limit day)
        | inr none ↦ absurd none
      ];
      up = (book_shaped version limit day).0;
      same =
          subst (λ r. IsPermutation (r ∷ []) (book_rows version limit day))
          (sym (row_on limit earlier day)) (IsPermutation-refl _);
    }
