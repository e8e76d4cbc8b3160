-- Each text of a write is one statement and nothing else, with so many parameters.
use Rattle.std.proofs.Common.{◌≡◌, ℕ, List, refl, length}
use Rattle.sqlite_tied.specs.Compute.{everything}
use Rattle.sqlite.specs.Listing.{understood}
use Rattle.row_lemmas.proofs.StatementFailures.{tail_of, names_of}
use Rattle.acq_sql_rows.specs.declared.form.Form.{Form}
use Rattle.acq_sql_rows.specs.declared.form.Form.TheVariants.{Unique, Plain}
use Rattle.acq_sql_rows.specs.Schema.{book_schema}
use Rattle.acq_sql_rows.specs.Texts as text

pub record IsWhole (form : Form) (text : List ℕ) (parameters : ℕ) : Type 0 where
  pub whole : tail_of (understood (book_schema form) text) ≡ length text
  pub given : names_of (understood (book_schema form) text) ≡ parameters

pub add_book_whole : (form : Form) → IsWhole form text.add_book_text 3
unfolding understood everything book_schema
add_book_whole form = record { whole = refl; given = refl }

pub set_day_whole : (form : Form) → IsWhole form text.set_day_text 1
unfolding understood everything book_schema
set_day_whole form = record { whole = refl; given = refl }

pub add_merchant_whole : (form : Form) → IsWhole form text.add_merchant_text 3
unfolding understood everything book_schema
add_merchant_whole form = record { whole = refl; given = refl }

pub add_terminal_whole : (form : Form) → IsWhole form text.add_terminal_text 2
unfolding understood everything book_schema
add_terminal_whole form = record { whole = refl; given = refl }

pub add_range_whole : (form : Form) → IsWhole form text.add_range_text 4
unfolding understood everything book_schema
add_range_whole form = record { whole = refl; given = refl }

pub drop_range_whole : (form : Form) → IsWhole form text.drop_range_text 2
unfolding understood everything book_schema
drop_range_whole form = record { whole = refl; given = refl }

pub add_request_whole : (form : Form) → IsWhole form text.add_request_text 18
unfolding understood everything book_schema
add_request_whole form = record { whole = refl; given = refl }

pub answer_whole : (form : Form) → IsWhole form text.answer_text 8
unfolding understood everything book_schema
answer_whole form = record { whole = refl; given = refl }

pub follow_whole : (form : Form) → IsWhole form text.follow_text 7
unfolding understood everything book_schema
follow_whole form = record { whole = refl; given = refl }

pub add_posting_whole : (form : Form) → IsWhole form text.add_posting_text 9
unfolding understood everything book_schema
add_posting_whole form = record { whole = refl; given = refl }

pub add_reconciliation_whole : (form : Form) → IsWhole form text.add_reconciliation_text 4
unfolding understood everything book_schema
add_reconciliation_whole form = record { whole = refl; given = refl }

pub raise_whole : (form : Form) → IsWhole form text.raise_text 11
unfolding understood everything book_schema
raise_whole Unique = record { whole = refl; given = refl }
raise_whole Plain = record { whole = refl; given = refl }
