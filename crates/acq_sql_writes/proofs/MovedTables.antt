-- What an UPDATE of every row of a table asks of the schema, and that it leaves the other tables.
use Rattle.std.proofs.Common.{◌≡◌, inl, inr, ℕ, false, List, refl, arith}
use Rattle.std.specs.List.{AllByRecursion}
use Rattle.sqlite_value.specs.Order.{Row}
use Rattle.sqlite_schema.specs.declared.schema.Index.{Index}
use Rattle.sqlite_schema.specs.Rules.{guards}
use Rattle.sqlite_rules.specs.Lists.{Has}
use Rattle.sqlite.specs.Effect.{Database}
use Rattle.row_lemmas.proofs.GoodEdits.{apart_by_test}
use Rattle.row_lemmas.proofs.InsertsSucceed.{IsPlainSchema}
use Rattle.row_lemmas.proofs.MovesSucceed.{Moved}
use Rattle.row_lemmas.proofs.ShortRows.{IsNarrow}
use Rattle.row_lemmas.proofs.StatementEffects.{bare}
use Rattle.acq_sql_rows.specs.declared.form.Form.{Form}
use Rattle.acq_sql_rows.specs.declared.form.Form.TheVariants.{Unique, Plain}
use Rattle.acq_sql_rows.specs.Schema.{book_schema}
use Rattle.acq_sql_rows.proofs.TableTurns as at
use Rattle.acq_sql_rows.proofs.TableTurns.{Others}

pub book_listed : (form : Form) → Has (book_schema form).tables (bare at.the_book)
unfolding book_schema
book_listed form = inl refl

pub ranges_listed : (form : Form) → Has (book_schema form).tables (bare at.the_ranges)
unfolding book_schema
ranges_listed form = inr (inr (inr (inl refl)))

-- no table has a foreign key, and each has a tree of its own
pub plain : (form : Form) → IsPlainSchema (book_schema form)
unfolding book_schema
plain form =
    record {
      alone = (refl, (refl, (refl, (refl, (refl, (refl, (refl, (refl, tt))))))));
      apart = apart_by_test (book_schema form).tables refl;
    }

pub book_narrow : (form : Form) → IsNarrow (book_schema form) (bare at.the_book)
unfolding book_schema
book_narrow form =
    record {
      reals = refl;
      indexes = (
        omega arith,
        (
          omega arith,
          (
            omega arith,
            (
              omega arith,
              (
                omega arith,
                (omega arith, (omega arith, tt)),
              ),
            ),
          ),
        ),
      );
    }

pub ranges_narrow : (form : Form) → IsNarrow (book_schema form) (bare at.the_ranges)
unfolding book_schema
ranges_narrow form =
    record {
      reals = refl;
      indexes = (
        omega arith,
        (
          omega arith,
          (
            omega arith,
            (
              omega arith,
              (
                omega arith,
                (omega arith, (omega arith, tt)),
              ),
            ),
          ),
        ),
      );
    }

-- no unique index is of these two
pub book_unguarded : (form : Form) →
    AllByRecursion (λ (i : Index). guards i (bare at.the_book) ≡ false) (book_schema form).indexes
unfolding book_schema
book_unguarded Unique = (refl, (refl, (refl, (refl, (refl, (refl, (refl, tt)))))))
book_unguarded Plain = (refl, (refl, (refl, (refl, (refl, (refl, (refl, tt)))))))

pub ranges_unguarded : (form : Form) →
    AllByRecursion (λ (i : Index). guards i (bare at.the_ranges) ≡ false) (book_schema form).indexes
unfolding book_schema
ranges_unguarded Unique = (refl, (refl, (refl, (refl, (refl, (refl, (refl, tt)))))))
ranges_unguarded Plain = (refl, (refl, (refl, (refl, (refl, (refl, (refl, tt)))))))

pub others_moved : (form : Form) (db next : Database) (tree : ℕ) (rows : List Row)
    → Moved (book_schema form) tree db next rows → Others db.trees next.trees tree
unfolding book_schema
others_moved form db next tree rows moved = moved.others
