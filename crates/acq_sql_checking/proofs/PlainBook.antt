-- The schema of a book has only columns and keys.
use Rattle.std.proofs.Common.{◌≡◌, Bool, true, false, List, [], ◌∷◌, refl}
use Rattle.std.specs.List.{AllByRecursion, list_all}
use Rattle.std.proofs.lemmas.Bool.{and_parts}
use Rattle.sqlite_value.specs.declared.value.Value.{Value}
use Rattle.sqlite_value.specs.declared.value.Value.TheVariants.{Null}
use Rattle.sqlite_schema.specs.declared.schema.Column.{Column}
use Rattle.sqlite_schema.specs.declared.schema.Table.{Table}
use Rattle.acq_sql_rows.specs.declared.form.Form.{Form}
use Rattle.acq_sql_rows.specs.Schema.{book_schema}
use Rattle.acq_sql_checking.specs.Plain.{IsPlainColumn, IsPlainTable, IsPlainSchema, no_stamps}

abbrev is_null : Value → Bool
is_null Null = true
is_null value = false

null_is : (value : Value) → is_null value ≡ true → value ≡ Null
null_is Null is = refl
null_is value is = absurd (cc)

plain_columns : (cs : List Column) → list_all (λ c. is_null c.default) cs ≡ true →
    AllByRecursion IsPlainColumn cs
plain_columns [] is = tt
plain_columns (c ∷ cs) is =
    (null_is c.default (and_parts _ _ is).0, plain_columns cs (and_parts _ _ is).1)

plain_table : (t : Table) → t.checks ≡ [] → t.references ≡ [] → t.computed ≡ [] →
    t.stamps ≡ no_stamps
    → list_all (λ c. is_null c.default) t.columns ≡ true → IsPlainTable t
plain_table t checks references computed stamps columns = (
  record { checks = checks; references = references; computed = computed; stamps = stamps },
  plain_columns t.columns columns,
)

pub plain_book : (form : Form) → IsPlainSchema (book_schema form)
unfolding book_schema
plain_book form = (
  refl,
  (
    plain_table _ refl refl refl refl refl,
    (
      plain_table _ refl refl refl refl refl,
      (
        plain_table _ refl refl refl refl refl,
        (
          plain_table _ refl refl refl refl refl,
          (
            plain_table _ refl refl refl refl refl,
            (
              plain_table _ refl refl refl refl refl,
              (
                plain_table _ refl refl refl refl refl,
                (plain_table _ refl refl refl refl refl, tt),
              ),
            ),
          ),
        ),
      ),
    ),
  ),
)
