-- What the texts that make the tables mean, and where each table stands.
use Rattle.std.proofs.Common.{◌≡◌, Ok, refl}
use Rattle.sqlite_resolve.specs.Compile.{table_defined_by, index_defined_by}
use Rattle.sqlite_tied.specs.Compute.{everything}
use Rattle.acq_sql_rows.specs.Schema as schema
use Rattle.acq_sql_rows.specs.declared.form.Form.{Form}
use Rattle.acq_sql_rows.specs.declared.form.Form.TheVariants.{Unique, Plain}
use Rattle.acq_sql_rows.specs.Schema.{at_tree}

pub book_is : table_defined_by schema.book_text ≡ Ok schema.book
unfolding everything
book_is = refl

pub merchants_is : table_defined_by schema.merchants_text ≡ Ok schema.merchants
unfolding everything
merchants_is = refl

pub terminals_is : table_defined_by schema.terminals_text ≡ Ok schema.terminals
unfolding everything
terminals_is = refl

pub ranges_is : table_defined_by schema.ranges_text ≡ Ok schema.ranges
unfolding everything
ranges_is = refl

pub requests_is : (form : Form)
    → table_defined_by (schema.requests_text form) ≡ Ok (schema.requests form)
unfolding everything
requests_is Unique = refl
requests_is Plain = refl

pub postings_is : (form : Form)
    → table_defined_by (schema.postings_text form) ≡ Ok (schema.postings form)
unfolding everything
postings_is Unique = refl
postings_is Plain = refl

pub reconciliations_is : (form : Form)
    → table_defined_by (schema.reconciliations_text form) ≡ Ok (schema.reconciliations form)
unfolding everything
reconciliations_is Unique = refl
reconciliations_is Plain = refl

pub running_is : table_defined_by schema.running_text ≡ Ok schema.running
unfolding everything
running_is = refl

-- ---- the indexes

pub keys_is : index_defined_by (at_tree (schema.requests Plain) schema.requests_tree)
    schema.keys_text
    ≡ Ok schema.keys
unfolding everything
keys_is = refl

pub posting_numbers_is :
    index_defined_by (at_tree (schema.postings Plain) schema.postings_tree)
    schema.posting_numbers_text ≡ Ok schema.posting_numbers
unfolding everything
posting_numbers_is = refl

pub reconciliation_numbers_is :
    index_defined_by (at_tree (schema.reconciliations Plain) schema.reconciliations_tree)
    schema.reconciliation_numbers_text ≡ Ok schema.reconciliation_numbers
unfolding everything
reconciliation_numbers_is = refl

pub references_is : (form : Form)
    → index_defined_by (at_tree (schema.requests form) schema.requests_tree)
    schema.references_text ≡ Ok schema.references
unfolding everything
references_is Unique = refl
references_is Plain = refl
