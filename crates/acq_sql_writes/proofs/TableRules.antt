-- Each table is one of the schema's, and none of its indexes is wide.
use Rattle.std.proofs.Common.{inl, inr, refl}
use Rattle.sqlite_rules.specs.Lists.{Has}
use Rattle.row_lemmas.proofs.ShortRows.{IsNarrow}
use Rattle.row_lemmas.proofs.StatementEffects.{bare}
use Rattle.acq_sql_rows.specs.declared.form.Form.{Form}
use Rattle.acq_sql_rows.specs.Schema.{book_schema}
use Rattle.acq_sql_rows.proofs.TableTurns as at
use Rattle.acq_sql_writes.proofs.MovedTables.{book_narrow}

pub merchants_listed : (form : Form) → Has (book_schema form).tables (bare at.the_merchants)
unfolding book_schema
merchants_listed form = inr (inl refl)

pub terminals_listed : (form : Form) → Has (book_schema form).tables (bare at.the_terminals)
unfolding book_schema
terminals_listed form = inr (inr (inl refl))

pub requests_listed : (form : Form) → Has (book_schema form).tables (bare (at.the_requests form))
unfolding book_schema
requests_listed form = inr (inr (inr (inr (inl refl))))

pub postings_listed : (form : Form) → Has (book_schema form).tables (bare (at.the_postings form))
unfolding book_schema
postings_listed form = inr (inr (inr (inr (inr (inl refl)))))

pub reconciliations_listed : (form : Form) → Has (book_schema form).tables
    (bare (at.the_reconciliations form))
unfolding book_schema
reconciliations_listed form = inr (inr (inr (inr (inr (inr (inl refl))))))

pub running_listed : (form : Form) → Has (book_schema form).tables (bare at.the_running)
unfolding book_schema
running_listed form = inr (inr (inr (inr (inr (inr (inr (inl refl)))))))

pub merchants_narrow : (form : Form) → IsNarrow (book_schema form) (bare at.the_merchants)
merchants_narrow form = record { reals = refl; indexes = (book_narrow form).indexes }

pub terminals_narrow : (form : Form) → IsNarrow (book_schema form) (bare at.the_terminals)
terminals_narrow form = record { reals = refl; indexes = (book_narrow form).indexes }

pub requests_narrow : (form : Form) → IsNarrow (book_schema form) (bare (at.the_requests form))
requests_narrow form = record { reals = refl; indexes = (book_narrow form).indexes }

pub postings_narrow : (form : Form) → IsNarrow (book_schema form) (bare (at.the_postings form))
postings_narrow form = record { reals = refl; indexes = (book_narrow form).indexes }

pub reconciliations_narrow : (form : Form) → IsNarrow (book_schema form)
    (bare (at.the_reconciliations form))
reconciliations_narrow form = record { reals = refl; indexes = (book_narrow form).indexes }

pub running_narrow : (form : Form) → IsNarrow (book_schema form) (bare at.the_running)
running_narrow form = record { reals = refl; indexes = (book_narrow form).indexes }
