use Rattle.std.proofs.Common.{arith}
use Rattle.sqlite.specs.Held.{state}
use Rattle.sqlite.specs.State.{HasCleanDisk}
use Rattle.acq_sql_rows.specs.Rows.{version}
use Rattle.acqd.proofs.open_book.opened.Goals as goal

pub returns-in-Ok-adopt-clause-same : goal.returns-in-Ok-adopt-clause-same
returns-in-Ok-adopt-clause-same g c = λ clean t found past.
    let in_order_clean : HasCleanDisk (state g.S.Store c.in-Ok.ordered) =
    omega (arith, c.in-Ok-adopt.ensures.stop.clean, clean) in
    let at = found (c.in-Ok.ensures.clean in_order_clean) in
    c.in-Ok-adopt.ensures.same clean t
    (c.in-Ok.ensures.at version t (c.an_open_finds_the_book.ensures t at.0 at.1 at.2)) past

pub returns-in-Err-clause-accepts : goal.returns-in-Err-clause-accepts
returns-in-Err-clause-accepts g c =
    rw (c.refused.ensures.fault) (λ clean t found. c.in-Err.ensures.failure)

pub returns-in-Err-adopt-clause-accepts : goal.returns-in-Err-adopt-clause-accepts
returns-in-Err-adopt-clause-accepts g c =
    rw (c.refused-in-Err-adopt.ensures.connection, c.refused-in-Err-adopt.ensures.fault)
    (λ clean t found.
    let in_order_clean : HasCleanDisk (state g.S.Store c.in-Ok.ordered) =
    omega (arith, c.in-Err-adopt.ensures.refused_stop.clean, clean) in
    let at = found (c.in-Ok.ensures.clean in_order_clean) in
    c.in-Err-adopt.ensures.accepts clean t
    (c.in-Ok.ensures.at version t (c.an_open_finds_the_book.ensures t at.0 at.1 at.2)))
