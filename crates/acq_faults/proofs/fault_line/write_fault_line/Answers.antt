use Rattle.std.proofs.Common.{arith}
use Rattle.std.proofs.lemmas.Result.{err_from_is_err_and}
use Rattle.acq_faults.proofs.fault_line.write_fault_line.Goals as goal

pub returns-in_err-put : goal.returns-in_err-put
returns-in_err-put g c =
    let p = err_from_is_err_and c.from_residual.result
    c.from_residual.ensures.1 in
    record {
      ok = rw p.1 tt;
      well = rw p.1 tt;
      failed = rw p.1
          c.in_err-put.ensures.failed;
    }

pub returns-in_err-put-2 : goal.returns-in_err-put-2
returns-in_err-put-2 g c =
    let p = err_from_is_err_and c.from_residual-in_err-put-2.result
    c.from_residual-in_err-put-2.ensures.1 in
    record {
      ok = rw p.1 tt;
      well = rw p.1 tt;
      failed = rw p.1
          (omega (arith, c.in_ok-put.ensures.well, c.in_err-put-2.ensures.failed));
    }

pub returns-in_err-put_values : goal.returns-in_err-put_values
returns-in_err-put_values g c =
    let p = err_from_is_err_and c.from_residual-in_err-put_values.result
    c.from_residual-in_err-put_values.ensures.1 in
    record {
      ok = rw p.1 tt;
      well = rw p.1 tt;
      failed = rw p.1
          (let first = c.in_ok-put.ensures.well in
          let second = c.in_ok-put-2.ensures.well in
          omega (arith, first, second, c.in_err-put_values.ensures.failed));
    }
