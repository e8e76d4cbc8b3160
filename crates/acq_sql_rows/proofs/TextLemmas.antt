-- What the texts of the writes mean, computed.
use Rattle.std.proofs.Common.{◌≡◌, List, ℕ, refl, [], ◌∷◌, length}
use Rattle.sqlite_schema.specs.declared.schema.Schema.{Schema}
use Rattle.sqlite_schema.specs.declared.command.Command.{Command}
use Rattle.sqlite_schema.specs.declared.command.Command.TheVariants.{Insert, InsertOr, Update}
use Rattle.sqlite_schema.specs.declared.command.Command.TheVariants.{Delete, Begin, Commit}
use Rattle.sqlite_schema.specs.declared.command.Command.TheVariants.{Rollback}
use Rattle.sqlite_schema.specs.declared.command.Conflict.TheVariants.{Abort}
use Rattle.sqlite_schema.specs.declared.command.Source.TheVariants.{Values}
use Rattle.sqlite_tied.specs.Compute.{everything}
use Rattle.sqlite.specs.Listing.{understood}
use Rattle.sqlite.proofs.Callers.{IsPlain, command_of}
use Rattle.row_lemmas.specs.Queries.{alone}
use Rattle.row_lemmas.proofs.StatementFailures.{tail_of, names_of}
use Rattle.acq_sql_rows.specs.declared.form.Form.{Form}
use Rattle.acq_sql_rows.specs.declared.form.Form.TheVariants.{Unique, Plain}
use Rattle.acq_sql_rows.specs.Schema.{book_schema}
use Rattle.acq_sql_rows.specs.Texts as text
use Rattle.acq_sql_rows.specs.Queries.{new_row, new_range, set_day_query, drop_range_query}
use Rattle.acq_sql_rows.specs.Queries.{widen_ranges_query, turn_ranges_query, set_version_query}
use Rattle.acq_sql_rows.specs.Queries.{answer_query, follow_query, raises}

-- the text is one statement, with this command
abbrev pub Means : Form → List ℕ → Command → Type 0
Means form text command =
    (command_of (understood (book_schema form) text) ≡ command)
    × IsPlain (understood (book_schema form) text)

-- the text is nothing else, and it has no parameter
pub record IsAlone (form : Form) (text : List ℕ) : Type 0 where
  pub whole : tail_of (understood (book_schema form) text) ≡ length text
  pub given : names_of (understood (book_schema form) text) ≡ 0

-- ---- what begins and ends a transaction means the same over any schema

-- the text is one statement over this schema, which is this command, and has no parameter
pub record IsCommand (schema : Schema) (text : List ℕ) (command : Command) : Type 0 where
  pub is : command_of (understood schema text) ≡ command
  pub plain : IsPlain (understood schema text)
  pub whole : tail_of (understood schema text) ≡ length text
  pub given : names_of (understood schema text) ≡ 0

pub begin_is : (schema : Schema) → IsCommand schema text.begin_text Begin
unfolding understood everything
begin_is schema = record { is = refl; plain = (refl, refl); whole = refl; given = refl }

pub commit_is : (schema : Schema) → IsCommand schema text.commit_text Commit
unfolding understood everything
commit_is schema = record { is = refl; plain = (refl, refl); whole = refl; given = refl }

pub rollback_is : (schema : Schema) → IsCommand schema text.rollback_text Rollback
unfolding understood everything
rollback_is schema = record { is = refl; plain = (refl, refl); whole = refl; given = refl }

-- ---- the writes

pub add_book_means : (form : Form) → Means form text.add_book_text (Insert 0 (Values (new_row 3) 4))
unfolding understood everything book_schema
add_book_means form = (refl, (refl, refl))

pub set_day_means : (form : Form) → Means form text.set_day_text (Update 0 (alone set_day_query))
unfolding understood everything book_schema
set_day_means form = (refl, (refl, refl))

pub add_merchant_means : (form : Form) → Means form text.add_merchant_text
    (Insert 1 (Values (new_row 3) 4))
unfolding understood everything book_schema
add_merchant_means form = (refl, (refl, refl))

pub add_terminal_means : (form : Form) → Means form text.add_terminal_text
    (Insert 2 (Values (new_row 2) 3))
unfolding understood everything book_schema
add_terminal_means form = (refl, (refl, refl))

pub add_range_means : (form : Form) → Means form text.add_range_text (Insert 3 (Values new_range 5))
unfolding understood everything book_schema
add_range_means form = (refl, (refl, refl))

pub drop_range_means : (form : Form) → Means form text.drop_range_text
    (Delete 3 (alone drop_range_query))
unfolding understood everything book_schema
drop_range_means form = (refl, (refl, refl))

pub widen_ranges_means : (form : Form) → Means form text.widen_ranges_text
    (Update 3 (alone widen_ranges_query))
unfolding understood everything book_schema
widen_ranges_means form = (refl, (refl, refl))

pub widen_ranges_alone : (form : Form) → IsAlone form text.widen_ranges_text
unfolding understood everything book_schema
widen_ranges_alone form = record { whole = refl; given = refl }

pub turn_ranges_means : (form : Form) → Means form text.turn_ranges_text
    (Update 3 (alone turn_ranges_query))
unfolding understood everything book_schema
turn_ranges_means form = (refl, (refl, refl))

pub turn_ranges_alone : (form : Form) → IsAlone form text.turn_ranges_text
unfolding understood everything book_schema
turn_ranges_alone form = record { whole = refl; given = refl }

pub set_version_means : (form : Form) → Means form text.set_version_text
    (Update 0 (alone set_version_query))
unfolding understood everything book_schema
set_version_means form = (refl, (refl, refl))

pub set_version_alone : (form : Form) → IsAlone form text.set_version_text
unfolding understood everything book_schema
set_version_alone form = record { whole = refl; given = refl }

pub add_request_means : (form : Form) → Means form text.add_request_text
    (Insert 4 (Values (new_row 18) 19))
unfolding understood everything book_schema
add_request_means form = (refl, (refl, refl))

pub answer_means : (form : Form) → Means form text.answer_text (Update 4 (alone answer_query))
unfolding understood everything book_schema
answer_means form = (refl, (refl, refl))

pub follow_means : (form : Form) → Means form text.follow_text (Update 4 (alone follow_query))
unfolding understood everything book_schema
follow_means form = (refl, (refl, refl))

pub add_posting_means : (form : Form) → Means form text.add_posting_text
    (Insert 5 (Values (new_row 9) 10))
unfolding understood everything book_schema
add_posting_means form = (refl, (refl, refl))

pub add_reconciliation_means : (form : Form) → Means form text.add_reconciliation_text
    (Insert 6 (Values (new_row 4) 5))
unfolding understood everything book_schema
add_reconciliation_means form = (refl, (refl, refl))

pub raise_means : (form : Form) → Means form text.raise_text
    (InsertOr 7 Abort (Values (new_row 11) 12) (raises ∷ []))
unfolding understood everything book_schema
raise_means Unique = (refl, (refl, refl))
raise_means Plain = (refl, (refl, refl))
