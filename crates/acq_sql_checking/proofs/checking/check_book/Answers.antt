use Rattle.std.proofs.Common.{◌≡◌, is_ok, refl, rules}
use Rattle.std.proofs.lemmas.Result.{err_from_is_err_and, IfErr-weaker}
use Rattle.sqlite.specs.Held.{state}
use Rattle.acq_sql_rows.specs.Schema.{IsBookSchema}
use Rattle.acq_sql_reads.proofs.Leaves.{looks_nowhere}
use Rattle.acq_sql_checking.proofs.Blaming.{excused_blames, memory_blames}
use Rattle.acq_sql_checking.proofs.Failures.{error_fails, failure_judges}
use Rattle.acq_sql_checking.proofs.Versions.{accepts, blames_none, judges, looks_still}
use Rattle.acq_sql_checking.proofs.checking.check_book.Goals as goal

pub returns-in_err-is_book_schema : goal.returns-in_err-is_book_schema
returns-in_err-is_book_schema g c =
    let p = err_from_is_err_and c.from_residual.result c.from_residual.ensures.1 in
    let fails = error_fails c.in_err-is_book_schema.field-0.0 in
    record {
      judged = λ clean. rw (p.1, p.2) (failure_judges (Unit {0}) c.args.wanted
          (state g.S.Store c.args.conn.now).now _ fails);
      accepts = λ clean t at. rw (p.1, p.2) fails;
      looks = rw p.1 (looks_nowhere (state g.S.Store c.args.conn.now));
      unchanged = λ other. refl;
      settled = λ out. out;
      blames = rw (p.1, p.2) (λ good. memory_blames (state g.S.Store c.args.conn.now)
          (state g.S.Store c.args.conn.now) c.in_err-is_book_schema.field-0.0
          c.in_err-is_book_schema.ensures.fails);
    }

pub returns-in_err-version : goal.returns-in_err-version
returns-in_err-version g c =
    let result = c.from_residual-in_err-version.result in
    let p = err_from_is_err_and result c.from_residual-in_err-version.ensures.1 in
    let fails = error_fails c.in_err-version.field-0.0 in
    let has : IsBookSchema c.args.conn.now.schema = search rules in
    record {
      judged = λ clean. rw (p.1, p.2) (failure_judges (Unit {0}) c.args.wanted
          (state g.S.Store c.args.conn.now).now _ fails);
      accepts = λ clean t at. rw (p.1, p.2) fails;
      looks = rw p.1 c.in_err-version.ensures.looks;
      unchanged = search rules;
      settled = c.version.ensures.settled;
      blames = rw (p.1, p.2) (λ good. excused_blames (state g.S.Store c.args.conn.now)
          (state g.S.Store c.version.new.conn) c.in_err-version.field-0.0
          (c.in_err-version.ensures.fails has (λ bad. good (has, bad))));
    }

pub returns-then-not-branch-clause-looks : goal.returns-then-not-branch-clause-looks
returns-then-not-branch-clause-looks g c = looks_nowhere (state g.S.Store c.args.conn.now)

pub returns : goal.returns
returns g c =
    let old = state g.S.Store c.args.conn.now in
    let new = state g.S.Store c.version.new.conn in
    let wanted = c.args.wanted in
    let found = c.in_ok-version.field-0 in
    let result = c.judge.result in
    let has : IsBookSchema c.args.conn.now.schema = search rules in
    record {
      judged = λ clean. judges wanted found old.now (c.in_ok-version.ensures.read clean has) result
          has c.judge.ensures;
      accepts = λ clean t at. accepts wanted found old.now (c.in_ok-version.ensures.read clean has)
          t at.holds result c.judge.ensures;
      looks = looks_still old new (is_ok result) c.in_ok-version.ensures.looks;
      unchanged = search rules;
      settled = c.version.ensures.settled;
      blames = IfErr-weaker result _ _ (λ fault blamed good. blamed)
          (blames_none wanted found result old new c.judge.ensures);
    }
