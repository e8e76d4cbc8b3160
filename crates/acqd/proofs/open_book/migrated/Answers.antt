use Rattle.std.proofs.Common.{arith}
use Rattle.sqlite.specs.Held.{state}
use Rattle.sqlite.specs.State.{HasCleanDisk}
use Rattle.acq_sql_rows.specs.Rows.{version_of_six_digits}
use Rattle.acqd.proofs.open_book.migrated.Goals as goal

pub returns-in-Ok-migrate-clause-done : goal.returns-in-Ok-migrate-clause-done
returns-in-Ok-migrate-clause-done g c = λ clean t found past.
    let in_order_clean : HasCleanDisk (state g.S.Store c.in-Ok.ordered) =
    omega (arith, c.in-Ok-migrate.ensures.stop.clean, clean) in
    let at = found (c.in-Ok.ensures.clean in_order_clean) in
    c.in-Ok-migrate.ensures.done clean t
    (record {
      at =
          c.in-Ok.ensures.at version_of_six_digits t
          (c.an_open_finds_a_book_of_any_version.ensures version_of_six_digits t at.0 at.1 at.2);
      past = past;
    })
