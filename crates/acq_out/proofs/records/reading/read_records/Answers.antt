use Rattle.std.proofs.Common.{◌≡◌, ℕ, ◌+◌, List, Err, refl, ap, arith}
use Rattle.std.proofs.lemmas.Result.{err_from_is_err_and}
use Rattle.acq_link.specs.declared.input_fault.InputFault as input
use Rattle.acq_out.specs.Records.{Spelling}
use Rattle.acq_out.specs.RecordFaults.{of_input, reads_failed}
use Rattle.acq_out.specs.RecordReads.{ReadsValues}
use Rattle.acq_out.proofs.records.reading.read_records.Goals as goal

-- of a fault of the input nothing is said
unsaid : {V : Type 0} (spelled : Spelling V) (text : List ℕ) (e : input.InputFault) →
    ReadsValues spelled text (Err (of_input e))
unsaid spelled text input.TheVariants.Memory = tt
unsaid spelled text input.TheVariants.Read = tt

-- a failed read counts as one, and want of memory does not
counts : (e : input.InputFault) (old new : ℕ) → (e ≡ input.TheVariants.Read → new ≡ old + 1) →
    (e ≡ input.TheVariants.Memory → new ≡ old) → new ≡ old + reads_failed (of_input e)
counts input.TheVariants.Memory old new failed same = omega (arith, same refl)
counts input.TheVariants.Read old new failed same = failed refl

pub returns-in_err-bytes-clause-read : goal.returns-in_err-bytes-clause-read
returns-in_err-bytes-clause-read g c =
    let p = err_from_is_err_and c.from_residual.result c.from_residual.ensures.1 in
    let more = c.in_err-bytes.ensures.grows in
    (more.0, more.1, rw (p.1, p.2) (unsaid g.F.RecordForm.spelled more.0 c.in_err-bytes.field-0.0))

pub returns-in_err-bytes-clause-whole : goal.returns-in_err-bytes-clause-whole
returns-in_err-bytes-clause-whole g c =
    let p = err_from_is_err_and c.from_residual.result c.from_residual.ensures.1 in
    rw p.1 tt

pub returns-in_err-bytes-clause-failures : goal.returns-in_err-bytes-clause-failures
returns-in_err-bytes-clause-failures g c =
    let p = err_from_is_err_and c.from_residual.result c.from_residual.ensures.1 in
    rw (p.1, p.2) (counts c.in_err-bytes.field-0.0 (g.S.Source.failures c.args.input.now)
    (g.S.Source.failures c.read_to_end.new.source)
    (λ is. c.in_err-bytes.ensures.read (ap Err is))
    (λ is. c.in_err-bytes.ensures.memory (ap Err is)))
