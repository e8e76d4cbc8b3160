use Rattle.std.proofs.Common.{Err, refl, rules}
use Rattle.row_lemmas.specs.Created.{IsBlank}
use Rattle.acq_sql_rows.specs.Schema.{no_schema, up_to_ranges}
use Rattle.acq_sql_checking.proofs.Blaming.{commit_fails, drop_fails}
use Rattle.acq_sql_checking.proofs.GoingOn.{stop_then}
use Rattle.acq_sql_checking.proofs.Reaching.{fails_then, reached, reached_then}
use Rattle.acq_sql_checking.proofs.checking.create_tables.Goals as goal

pub returns-in_err-create_enrolments-clause-fails :
    goal.returns-in_err-create_enrolments-clause-fails
returns-in_err-create_enrolments-clause-fails g c =
    let why = drop_fails g.S.Store c.args.conn.now c.transaction-tx.ensures.begun
    (IsBlank no_schema)
    c.create_enrolments.ensures.survives c.in_err-create_enrolments.ensures.fails
    (record { schema_is = c.requires.empty; blank = tt })
    c.drop-tx.ensures.survives c.from_residual.result c.from_residual.ensures.1 in
    search (rules, why)

pub returns-in_err-create_records-clause-fails : goal.returns-in_err-create_records-clause-fails
returns-in_err-create_records-clause-fails g c =
    let one = reached c.create_enrolments.ensures.survives c.create_enrolments.ensures.kept
    c.in_ok-create_enrolments.ensures.inside c.in_ok-create_enrolments.ensures.extends in
    let e = c.in_err-create_records.field-0.0 in
    let fails = fails_then {T = Unit {0}} {e = e} (IsBlank up_to_ranges) one
    c.create_records.ensures.survives c.in_err-create_records.ensures.fails
    (λ db new. new.rows) (Err e) refl in
    let why = drop_fails g.S.Store c.args.conn.now c.transaction-tx.ensures.begun
    (IsBlank no_schema)
    (stop_then one.on c.create_records.ensures.survives) fails
    (record { schema_is = c.requires.empty; blank = tt })
    c.drop-tx-in_err-create_records.ensures.survives
    c.from_residual-in_err-create_records.result
    c.from_residual-in_err-create_records.ensures.1 in
    search (rules, why)

pub returns-clause-fails : goal.returns-clause-fails
returns-clause-fails g c =
    let one = reached c.create_enrolments.ensures.survives c.create_enrolments.ensures.kept
    c.in_ok-create_enrolments.ensures.inside c.in_ok-create_enrolments.ensures.extends in
    let two = reached_then one (reached c.create_records.ensures.survives
    c.create_records.ensures.kept c.in_ok-create_records.ensures.inside
    c.in_ok-create_records.ensures.extends) in
    let why = commit_fails g.S.Store c.args.conn.now c.transaction-tx.ensures.begun two.on
    c.commit.result c.commit.ensures.err c.commit.ensures.survives in
    search (rules, why)
