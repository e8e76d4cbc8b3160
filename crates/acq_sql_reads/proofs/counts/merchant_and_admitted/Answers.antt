use Rattle.std.proofs.Common.{◌≡◌, ◌∙◌, ℕ, Bool, true, false, Some, refl, sym}
use Rattle.std.proofs.lemmas.Result.{err_from_is_err_and}
use Rattle.sqlite.specs.Held.{state}
use Rattle.acq_core.specs.Known.{number_if}
use Rattle.acq_book.specs.Lookups.{admitted_at}
use Rattle.acq_sql_reads.proofs.Leaves.{clean_before}
use Rattle.acq_sql_reads.proofs.Failing.{fails_then}
use Rattle.acq_sql_reads.proofs.GreatestReads.{none_admitted}
use Rattle.acq_sql_reads.proofs.counts.merchant_and_admitted.Goals as goal

none_counted : (counted : Bool) (n : ℕ) (id : _) → 0 ≡ n → 0 ≡ number_if counted n (Some id)
none_counted true n id none = none
none_counted false n id none = refl

pub returns-in_err-enrolled-clause-fails : goal.returns-in_err-enrolled-clause-fails
returns-in_err-enrolled-clause-fails g c clean t at past free =
    let p = err_from_is_err_and c.from_residual.result c.from_residual.ensures.1 in
    rw (p.1, p.2) (c.in_err-enrolled.ensures.fails clean t at past free)

pub returns-in_default-clause-answers : goal.returns-in_default-clause-answers
returns-in_default-clause-answers g c clean t holds past =
    let none = sym c.in_default.is ∙ c.in_ok-enrolled.ensures.answers clean t holds in
    λ i. (
      none i,
      (c.zero.ensures ∙ none_counted c.args.counted (admitted_at t c.args.id) c.args.id
          (none_admitted c.args.id t past none)) i,
    )

pub returns-in_err-admitted-clause-fails : goal.returns-in_err-admitted-clause-fails
returns-in_err-admitted-clause-fails g c clean t at past free =
    let p = err_from_is_err_and c.from_residual-in_err-admitted.result
    c.from_residual-in_err-admitted.ensures.1 in
    let old = state g.S.Store c.args.conn.now in
    let mid = state g.S.Store c.merchant.new.conn in
    let new = state g.S.Store c.admitted_of.new.conn in
    let first = c.in_ok-enrolled.ensures.looks in
    let stops = c.in_err-admitted.ensures.looks.stop in
    let before = clean_before old mid new first stops clean in
    let enrolled = sym (sym c.in-Some.is ∙ c.in_ok-enrolled.ensures.answers before t at.holds) in
    rw (p.1, p.2) (fails_then old mid new _ t first stops clean at free
    (λ still limit. c.in_err-admitted.ensures.fails clean t still
    (past, (c.in-Some.enrolled, enrolled, refl)) limit))
