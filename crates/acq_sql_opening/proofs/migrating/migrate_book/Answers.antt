use Rattle.std.proofs.Common.{◌∙◌, arith, refl}
use Rattle.std.proofs.lemmas.Result.{err_from_is_err_and}
use Rattle.sqlite.specs.Held.{state}
use Rattle.sqlite.specs.State.{HasCleanDisk}
use Rattle.sqlite.proofs.StateLemmas.{survives_weaker}
use Rattle.row_lemmas.proofs.StatementFailures.{excused_wider}
use Rattle.acq_sql_reads.proofs.Leaves.{at_unchanged, kept}
use Rattle.acq_sql_writes.proofs.Within.{was_clean}
use Rattle.acq_sql_rows.specs.Rows.{version_of_six_digits}
use Rattle.acq_sql_opening.proofs.LooksFirst.{whole_from}
use Rattle.acq_sql_checking.proofs.Blaming.{excused_blames}
use Rattle.acq_sql_checking.proofs.Failures.{error_fails, failure_judges, on_err}
use Rattle.acq_sql_checking.proofs.GoingOn.{not_ok}
use Rattle.acq_sql_opening.proofs.migrating.migrate_book.Goals as goal

pub returns-in_err-check_book : goal.returns-in_err-check_book
returns-in_err-check_book g c =
    let looks = c.in_err-check_book.ensures.looks in
    let p = err_from_is_err_and c.from_residual.result c.from_residual.ensures.1 in
    record {
      settled = looks.settled c.requires.settled;
      judged = λ clean. rw (p.1, p.2) (c.in_err-check_book.ensures.judged clean);
      accepts = λ clean t at. rw (p.1, p.2) (c.in_err-check_book.ensures.accepts clean t at);
      done = λ clean t is. not_ok _ _ c.from_residual.ensures.0;
      undone = λ clean opened t at. on_err _ _ (kept (state g.S.Store c.args.conn.now)
          (state g.S.Store c.check_book.new.conn) _ looks clean opened t at);
      unchanged = rw p.1 (λ is. looks);
      stop = survives_weaker _ _ _ _ (λ _ db none. absurd none) looks.stop;
      blames = rw (p.1, p.2) (λ is. c.in_err-check_book.ensures.blames is.version);
    }

pub returns-in_err-widen_book : goal.returns-in_err-widen_book
returns-in_err-widen_book g c =
    let whole = whole_from c.in_ok-check_book.ensures.looks
    (λ clean t holds past. c.ranges_fit_their_profile.ensures t past)
    c.in_err-widen_book.ensures.whole in
    let result = c.from_residual-in_err-widen_book.result in
    let p = err_from_is_err_and result c.from_residual-in_err-widen_book.ensures.1 in
    let e = c.in_err-widen_book.field-0.0 in
    let fails = error_fails e in
    let looks = c.in_ok-check_book.ensures.looks in
    let old = state g.S.Store c.args.conn.now in
    let mid = state g.S.Store c.check_book.new.conn in
    let new = state g.S.Store c.widen_book.new.conn in
    record {
      settled = c.widen_book.ensures.settled;
      judged = λ clean. rw (p.1, p.2) (failure_judges (Unit {0}) version_of_six_digits
          (state g.S.Store c.args.conn.now).now _ fails);
      accepts = λ clean t at. rw (p.1, p.2) fails;
      done = λ clean t is. not_ok _ _ c.from_residual-in_err-widen_book.ensures.0;
      undone = λ clean opened t at. on_err _ result (whole.undone clean opened t at);
      unchanged = rw (p.1, p.2) (λ no. absurd (no fails));
      stop = survives_weaker _ _ _ _ (λ _ db left t is. left t is.at is.past) whole.stop;
      blames = rw (p.1, p.2) (λ is. excused_blames old new e (λ clean opened free.
          let early : HasCleanDisk mid =
          was_clean _ _ c.in_err-widen_book.ensures.whole.stop.clean clean in
          let book = is.six (c.in_ok-check_book.ensures.judged early) in
          excused_wider old mid new new e looks.stop.counts (omega arith)
          (c.in_err-widen_book.ensures.refused clean book.0
          (at_unchanged old mid book.0 (looks.same early refl) book.1.at)
          (c.ranges_fit_their_profile.ensures book.0 book.1.past)
          (looks.stop.limit ∙ free))));
    }

pub returns-clause-done : goal.returns-clause-done
returns-clause-done g c clean t is =
    let whole = whole_from c.in_ok-check_book.ensures.looks
    (λ clean t holds past. c.ranges_fit_their_profile.ensures t past)
    c.in_ok-widen_book.ensures.whole in
    whole.done clean t is.at is.past

pub returns-clause-judged : goal.returns-clause-judged
returns-clause-judged g c clean =
    c.in_ok-check_book.ensures.judged
    (was_clean _ _ c.widen_book.ensures.whole.stop.clean clean)

pub returns-clause-stop : goal.returns-clause-stop
returns-clause-stop g c =
    let whole = whole_from c.in_ok-check_book.ensures.looks
    (λ clean t holds past. c.ranges_fit_their_profile.ensures t past)
    c.widen_book.ensures.whole in
    survives_weaker _ _ _ _ (λ _ db left t is. left t is.at is.past) whole.stop
