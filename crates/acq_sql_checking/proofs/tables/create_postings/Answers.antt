use Rattle.sqlite.specs.Held.{state}
use Rattle.acq_sql_rows.specs.declared.form.Form.TheVariants.{Unique, Plain}
use Rattle.acq_sql_rows.specs.Schema as schema
use Rattle.acq_sql_checking.proofs.TablesMade.{blank_never, extends_as, never_as}
use Rattle.acq_sql_checking.proofs.TablesMade.{plain_postings, unique_postings}
use Rattle.acq_sql_checking.proofs.TablesMade.{takes_postings, takes_posting_numbers}
use Rattle.acq_sql_checking.proofs.tables.create_postings.Goals as goal

pub returns-in-Unique-clause-extends : goal.returns-in-Unique-clause-extends
returns-in-Unique-clause-extends g c =
    let old = state g.S.Store c.args.tx.now.conn.now in
    let new = state g.S.Store c.create.new.tx.conn.now in
    extends_as old new c.create.result c.args.form Unique c.in-Unique.is
    schema.up_to_requests schema.up_to_postings
    (unique_postings old new c.create.result c.create.ensures.adds)

pub returns-in-Unique-clause-fails : goal.returns-in-Unique-clause-fails
returns-in-Unique-clause-fails g c =
    let old = state g.S.Store c.args.tx.now.conn.now in
    let new = state g.S.Store c.create.new.tx.conn.now in
    never_as old new c.create.result c.args.form Unique c.in-Unique.is schema.up_to_requests
    (blank_never old new c.create.result (schema.up_to_requests Unique)
    (schema.postings_text Unique)
    (schema.postings Unique) (takes_postings Unique) c.create.ensures.fails)

pub returns-in-Plain-clause-extends : goal.returns-in-Plain-clause-extends
returns-in-Plain-clause-extends g c =
    let old = state g.S.Store c.args.tx.now.conn.now in
    let new = state g.S.Store c.create_indexed.new.tx.conn.now in
    extends_as old new c.create_indexed.result c.args.form Plain c.in-Plain.is
    schema.up_to_requests schema.up_to_postings
    (plain_postings old new c.create_indexed.result c.create_indexed.ensures.adds)

pub returns-in-Plain-clause-fails : goal.returns-in-Plain-clause-fails
returns-in-Plain-clause-fails g c =
    let old = state g.S.Store c.args.tx.now.conn.now in
    let new = state g.S.Store c.create_indexed.new.tx.conn.now in
    never_as old new c.create_indexed.result c.args.form Plain c.in-Plain.is schema.up_to_requests
    (c.create_indexed.ensures.fails (schema.up_to_requests Plain) (schema.postings Plain) 5
    (schema.at_tree (schema.postings Plain) schema.postings_tree) schema.posting_numbers
    (takes_postings Plain)
    takes_posting_numbers)
