use Rattle.sqlite.specs.Held.{state}
use Rattle.acq_sql_rows.specs.declared.form.Form.TheVariants.{Unique, Plain}
use Rattle.acq_sql_rows.specs.Schema as schema
use Rattle.acq_sql_checking.proofs.TablesMade.{blank_never, extends_as, never_as}
use Rattle.acq_sql_checking.proofs.TablesMade.{plain_requests, unique_requests}
use Rattle.acq_sql_checking.proofs.TablesMade.{takes_requests, takes_keys}
use Rattle.acq_sql_checking.proofs.tables.create_requests.Goals as goal

pub returns-in-Unique-clause-extends : goal.returns-in-Unique-clause-extends
returns-in-Unique-clause-extends g c =
    let old = state g.S.Store c.args.tx.now.conn.now in
    let new = state g.S.Store c.create.new.tx.conn.now in
    extends_as old new c.create.result c.args.form Unique c.in-Unique.is
    (λ form. schema.up_to_ranges) schema.up_to_requests
    (unique_requests old new c.create.result c.create.ensures.adds)

pub returns-in-Unique-clause-fails : goal.returns-in-Unique-clause-fails
returns-in-Unique-clause-fails g c =
    let old = state g.S.Store c.args.tx.now.conn.now in
    let new = state g.S.Store c.create.new.tx.conn.now in
    never_as old new c.create.result c.args.form Unique c.in-Unique.is (λ form. schema.up_to_ranges)
    (blank_never old new c.create.result schema.up_to_ranges (schema.requests_text Unique)
    (schema.requests Unique) (takes_requests Unique) c.create.ensures.fails)

pub returns-in-Plain-clause-extends : goal.returns-in-Plain-clause-extends
returns-in-Plain-clause-extends g c =
    let old = state g.S.Store c.args.tx.now.conn.now in
    let new = state g.S.Store c.create_indexed.new.tx.conn.now in
    extends_as old new c.create_indexed.result c.args.form Plain c.in-Plain.is
    (λ form. schema.up_to_ranges) schema.up_to_requests
    (plain_requests old new c.create_indexed.result c.create_indexed.ensures.adds)

pub returns-in-Plain-clause-fails : goal.returns-in-Plain-clause-fails
returns-in-Plain-clause-fails g c =
    let old = state g.S.Store c.args.tx.now.conn.now in
    let new = state g.S.Store c.create_indexed.new.tx.conn.now in
    never_as old new c.create_indexed.result c.args.form Plain c.in-Plain.is
    (λ form. schema.up_to_ranges)
    (c.create_indexed.ensures.fails schema.up_to_ranges (schema.requests Plain) 4
    (schema.at_tree (schema.requests Plain) schema.requests_tree) schema.keys (takes_requests Plain)
    takes_keys)
