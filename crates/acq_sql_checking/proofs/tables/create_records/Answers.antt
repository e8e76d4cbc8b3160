use Rattle.row_lemmas.specs.Created.{IsBlank}
use Rattle.acq_sql_rows.specs.Schema as schema
use Rattle.acq_sql_checking.specs.Made.{HasSchema}
use Rattle.acq_sql_checking.proofs.Reaching.{fails_then, reached, reached_then}
use Rattle.acq_sql_checking.proofs.TablesMade.{reaches_running, reaches_references}
use Rattle.acq_sql_checking.proofs.TablesMade.{takes_running, takes_references}
use Rattle.acq_sql_checking.proofs.tables.create_records.Goals as goal

pub returns-in_err-create-clause-fails : goal.returns-in_err-create-clause-fails
returns-in_err-create-clause-fails g c =
    let told = c.from_residual-in_err-create in
    let one = reached c.create_requests.ensures.survives c.create_requests.ensures.kept
    c.in_ok-create_requests.ensures.inside c.in_ok-create_requests.ensures.extends in
    let two = reached_then one (reached c.create_postings.ensures.survives
    c.create_postings.ensures.kept c.in_ok-create_postings.ensures.inside
    c.in_ok-create_postings.ensures.extends) in
    let three = reached_then two (reached c.create_reconciliations.ensures.survives
    c.create_reconciliations.ensures.kept c.in_ok-create_reconciliations.ensures.inside
    c.in_ok-create_reconciliations.ensures.extends) in
    fails_then (HasSchema (schema.up_to_reconciliations c.args.form)) three
    c.create.ensures.survives
    (c.in_err-create.ensures.fails (schema.up_to_reconciliations c.args.form) schema.running
    (takes_running c.args.form)) (λ db new. new.rows.schema_is) told.result told.ensures.1

pub returns-in_err-create_index-clause-fails : goal.returns-in_err-create_index-clause-fails
returns-in_err-create_index-clause-fails g c =
    let told = c.from_residual-in_err-create_index in
    let one = reached c.create_requests.ensures.survives c.create_requests.ensures.kept
    c.in_ok-create_requests.ensures.inside c.in_ok-create_requests.ensures.extends in
    let two = reached_then one (reached c.create_postings.ensures.survives
    c.create_postings.ensures.kept c.in_ok-create_postings.ensures.inside
    c.in_ok-create_postings.ensures.extends) in
    let three = reached_then two (reached c.create_reconciliations.ensures.survives
    c.create_reconciliations.ensures.kept c.in_ok-create_reconciliations.ensures.inside
    c.in_ok-create_reconciliations.ensures.extends) in
    let four = reached_then three (reaches_running c.create.ensures.survives
    c.create.ensures.kept c.in_ok-create.ensures.inside c.args.form
    c.in_ok-create.ensures.adds) in
    fails_then (IsBlank (schema.up_to_running c.args.form)) four c.create_index.ensures.survives
    (c.in_err-create_index.ensures.fails _ 4 _ _ (takes_references c.args.form))
    (λ db new. new.rows) told.result told.ensures.1

pub returns-clause-extends : goal.returns-clause-extends
returns-clause-extends g c =
    let one = reached c.create_requests.ensures.survives c.create_requests.ensures.kept
    c.in_ok-create_requests.ensures.inside c.in_ok-create_requests.ensures.extends in
    let two = reached_then one (reached c.create_postings.ensures.survives
    c.create_postings.ensures.kept c.in_ok-create_postings.ensures.inside
    c.in_ok-create_postings.ensures.extends) in
    let three = reached_then two (reached c.create_reconciliations.ensures.survives
    c.create_reconciliations.ensures.kept c.in_ok-create_reconciliations.ensures.inside
    c.in_ok-create_reconciliations.ensures.extends) in
    let four = reached_then three (reaches_running c.create.ensures.survives
    c.create.ensures.kept c.in_ok-create.ensures.inside c.args.form
    c.in_ok-create.ensures.adds) in
    let five = reached_then four (reaches_references c.create_index.ensures.survives
    c.create_index.ensures.kept c.in_ok-create_index.ensures.inside c.args.form
    c.in_ok-create_index.ensures.adds) in
    five.made
