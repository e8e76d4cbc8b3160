use Rattle.std.proofs.Common.{subst, sym}
use Rattle.sqlite.specs.Held.{state}
use Rattle.acq_sql_rows.specs.Standing.{IsAtOf}
use Rattle.acqd.proofs.open_book.in_order.Goals as goal

pub returns-in-Ok-clause-at : goal.returns-in-Ok-clause-at
returns-in-Ok-clause-at g c = λ version t at.
    subst (λ connection. IsAtOf version (state g.S.Store connection) t)
    (sym (c.put_in_order.ensures.unchanged at.holds.rows.schema)) at
