use Rattle.std.proofs.lemmas.Result.{err_from_is_err_and}
use Rattle.acq_faults.proofs.fault_line.put_values.Goals as goal

pub returns-in_err-put_value-in-Undecodable : goal.returns-in_err-put_value-in-Undecodable
returns-in_err-put_value-in-Undecodable g c =
    let p = err_from_is_err_and c.from_residual.result
    c.from_residual.ensures.1 in
    record {
      ok = rw p.1 tt;
      well = rw p.1 tt;
      failed = rw p.1
          c.in_err-put_value-in-Undecodable.ensures.failed;
    }
