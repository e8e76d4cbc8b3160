use Rattle.std.proofs.Common.{rules}
use Rattle.sqlite.specs.Held.{state}
use Rattle.sqlite.specs.State.{HasCleanDisk}
use Rattle.row_lemmas.specs.Created.{IsBlank}
use Rattle.acq_sql_rows.specs.declared.form.Form.TheVariants.{Plain}
use Rattle.acq_sql_rows.specs.Schema.{no_schema, up_to_ranges}
use Rattle.acq_sql_writes.specs.Refused.{IsEmptyBook}
use Rattle.acq_sql_writes.proofs.Within.{was_clean}
use Rattle.acq_sql_checking.proofs.GoingOn.{GoesOn, goes_then, kept_then, not_ok, stop_then}
use Rattle.acq_sql_checking.proofs.Reaching.{fails_first, fails_then, reached, reached_then}
use Rattle.acq_sql_opening.proofs.making.write_tables.Goals as goal

pub returns-in_err-create_enrolments : goal.returns-in_err-create_enrolments
returns-in_err-create_enrolments g c =
    record {
      same_reference = search rules;
      begins = λ clean within empty. not_ok _ _ c.from_residual.ensures.0;
      inside = λ clean within. not_ok _ _ c.from_residual.ensures.0;
      kept = c.create_enrolments.ensures.kept;
      survives = c.create_enrolments.ensures.survives;
      fails = fails_first (IsBlank no_schema) (state g.S.Store c.args.tx.now.conn.now)
          (state g.S.Store c.create_enrolments.new.tx.conn.now)
          c.in_err-create_enrolments.ensures.fails
          (λ db blank. blank) c.from_residual.result c.from_residual.ensures.1;
    }

pub returns-in_err-create_records : goal.returns-in_err-create_records
returns-in_err-create_records g c =
    let one = reached c.create_enrolments.ensures.survives c.create_enrolments.ensures.kept
    c.in_ok-create_enrolments.ensures.inside c.in_ok-create_enrolments.ensures.extends in
    record {
      same_reference = search rules;
      begins = λ clean within empty. not_ok _ _ c.from_residual-in_err-create_records.ensures.0;
      inside = λ clean within. not_ok _ _ c.from_residual-in_err-create_records.ensures.0;
      kept = kept_then one.on c.create_records.ensures.survives c.create_records.ensures.kept;
      survives = stop_then one.on c.create_records.ensures.survives;
      fails = fails_then (IsBlank up_to_ranges) one c.create_records.ensures.survives
          c.in_err-create_records.ensures.fails (λ db new. new.rows)
          c.from_residual-in_err-create_records.result
          c.from_residual-in_err-create_records.ensures.1;
    }

pub returns-in_err-add_book : goal.returns-in_err-add_book
returns-in_err-add_book g c =
    let one = reached c.create_enrolments.ensures.survives c.create_enrolments.ensures.kept
    c.in_ok-create_enrolments.ensures.inside c.in_ok-create_enrolments.ensures.extends in
    let two = reached_then one (reached c.create_records.ensures.survives
    c.create_records.ensures.kept c.in_ok-create_records.ensures.inside
    c.in_ok-create_records.ensures.extends) in
    record {
      same_reference = search rules;
      begins = λ clean within empty. not_ok _ _ c.from_residual-in_err-add_book.ensures.0;
      inside = λ clean within. not_ok _ _ c.from_residual-in_err-add_book.ensures.0;
      kept = kept_then two.on c.add_book.ensures.writes.stop c.add_book.ensures.writes.kept;
      survives = stop_then two.on c.add_book.ensures.writes.stop;
      fails = fails_then IsEmptyBook two c.add_book.ensures.writes.stop
          c.in_err-add_book.ensures.fails
          (λ db new. record { form = Plain; rows = new.rows; sound = new.sound })
          c.from_residual-in_err-add_book.result c.from_residual-in_err-add_book.ensures.1;
    }

pub returns : goal.returns
returns g c =
    let one = reached c.create_enrolments.ensures.survives c.create_enrolments.ensures.kept
    c.in_ok-create_enrolments.ensures.inside c.in_ok-create_enrolments.ensures.extends in
    let two = reached_then one (reached c.create_records.ensures.survives
    c.create_records.ensures.kept c.in_ok-create_records.ensures.inside
    c.in_ok-create_records.ensures.extends) in
    let last : GoesOn (state g.S.Store c.create_records.new.tx.conn.now)
    (state g.S.Store c.add_book.new.tx.conn.now) = record {
      stop = c.add_book.ensures.writes.stop;
      kept = c.add_book.ensures.writes.kept;
      inside = c.in_ok-add_book.ensures.writes.inside;
    } in
    let all = goes_then two.on last in
    record {
      same_reference = search rules;
      begins = λ clean within empty.
          let early : HasCleanDisk (state g.S.Store c.create_records.new.tx.conn.now) =
          was_clean _ _ last.stop.clean clean in
          c.in_ok-add_book.ensures.writes.leads clean (two.on.inside early within).mode Plain
          (two.made early within (record { schema_is = empty; blank = tt })).rows;
      inside = all.inside;
      kept = all.kept;
      survives = all.stop;
      fails = λ clean within opened free blank. tt;
    }
