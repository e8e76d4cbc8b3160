use Rattle.std.proofs.Common.{◌≡◌, ◌<◌, ◌+◌, ◌^◌, ◌==◌, ◌&&◌, ◌∙◌, ap, arith, refl, sym, ℕ}
use Rattle.std.proofs.Common.{true≢false, Result, Ok, Err, IfOk, IfErr}
use Rattle.std.specs.Prelude.{IsOk}
use Rattle.std.specs.Str.{bytes_eq}
use Rattle.std.proofs.lemmas.Result.{IfOk-weaker}
use Rattle.sqlite.specs.declared.error.Error.{Error}
use Rattle.sqlite.specs.Held.{state}
use Rattle.acq_book.proofs.Counting.{count-le}
use Rattle.acq_sql_reads.specs.Looked.{number_or_zero}
use Rattle.acq_sql_reads.proofs.ReconciliationNumbers.{last_number_before}
use Rattle.acq_sql.proofs.apply.ChangesFail.{excused_on}
use Rattle.acq_sql.proofs.apply.numbers.number_of_reconciliation.Goals as goal

pub returns-clause-answers : goal.returns-clause-answers
returns-clause-answers g c clean t holds past =
    IfOk-weaker c.number_after.result _ _
    (λ n is. is ∙ ap (λ last. number_or_zero last + 1)
    (c.in_ok-last.ensures.answers clean t holds past)
    ∙ ap (λ k. k + 1) (last_number_before t c.args.reconciliation.now past))
    c.number_after.ensures.value

short : (n : ℕ) (result : Result ℕ Error) → IfOk result (λ m. m ≡ n) → (IsOk result → n < 2 ^ 63)
    → IfOk result (λ m. m < 2 ^ 63)
short n (Ok m) same few = let less = few refl in omega (arith, same, less)
short n (Err e) same few = tt

pub returns-clause-few : goal.returns-clause-few
returns-clause-few g c =
    short _ c.number_after.result c.number_after.ensures.value c.number_after.ensures.short.0

always : (P : Error → Type 0) (result : Result ℕ Error) → IsOk result → IfErr result P
always P (Ok n) is = tt
always P (Err e) is = absurd (true≢false (sym is))

pub returns-clause-fails : goal.returns-clause-fails
returns-clause-fails g c clean t at fits free =
    let r = c.args.reconciliation.now in
    let last = c.in_ok-last.ensures.answers clean t at.holds fits.0 in
    let number = ap number_or_zero last ∙ last_number_before t r fits.0 in
    let few = count-le (λ row. bytes_eq row.1.merchant r.merchant && (row.1.day == r.day))
    t.reconciliations in
    let left = fits.1 in
    always _ c.number_after.result
    (c.number_after.ensures.short.1 (omega (arith, number, few, left)))

pub returns-in_err-last-clause-fails : goal.returns-in_err-last-clause-fails
returns-in_err-last-clause-fails g c clean t at fits free =
    excused_on (state g.S.Store c.args.conn.now) (state g.S.Store c.last_reconciliation.new.conn)
    c.from_residual.result c.from_residual.ensures.1
    (c.in_err-last.ensures.fails clean t at fits.0 free)
