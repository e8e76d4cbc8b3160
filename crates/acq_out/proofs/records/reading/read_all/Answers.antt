use Rattle.std.proofs.Common.{◌∙◌, inl, inr, ap}
use Rattle.std.proofs.lemmas.Result.{err_from_is_err_and}
use Rattle.csv.specs.Records.{fields_of}
use Rattle.acq_out.specs.RecordFaults.{reads_failed}
use Rattle.acq_out.proofs.records.RecordsRead.{stands-start, stands-more, stands-end, reads-failed}
use Rattle.acq_out.proofs.records.reading.read_all.Goals as goal

pub loop-number-init : goal.loop-number-init
loop-number-init g c = record {
  trim = c.requires.trim;
  ready = c.requires.ready;
  config = c.requires.config;
  known = λ text left. stands-start g.F.RecordForm.spelled text _ _ _ left c.requires.start
      c.requires.empty;
}

pub loop-number-preserved : goal.loop-number-preserved
loop-number-preserved g c =
    let inv = c.loop-number.invariant in
    let read = rw c.in-Ok-true.field-0-test at (c.in-Ok-true.ensures.reads inv.trim inv.ready) in
    let made = c.in_ok-add_record-in-Ok-true.ensures.ok in
    record {
      trim = read.3 ∙ inv.trim;
      ready = inl (c.in-Ok-true.ensures.ready inv.trim);
      config = read.2 ∙ inv.config;
      known = λ text left. stands-more g.F.RecordForm.spelled g.R.Read.remaining text
          c.loop-number.records c.read_byte_record.new.self
          c.loop-number.values.items c.add_record.new.values.items c.loop-number.number
          (fields_of c.read_byte_record.new.row) made.0 (inv.known text left) inv.config read made.1
          made.2;
    }

pub returns-in-Ok-false-clause-values : goal.returns-in-Ok-false-clause-values
returns-in-Ok-false-clause-values g c = λ text left.
    let inv = c.loop-number.invariant in
    let read = rw c.in-Ok-false.field-0-test at (c.in-Ok-false.ensures.reads inv.trim inv.ready) in
    stands-end g.F.RecordForm.spelled g.R.Read.remaining text c.loop-number.records
    c.read_byte_record.new.self c.loop-number.values.items
    c.loop-number.number
    (fields_of c.read_byte_record.new.row) (inv.known text left) inv.config read

pub returns-in_err-add_record-in-Ok-true-clause-values
    : goal.returns-in_err-add_record-in-Ok-true-clause-values
returns-in_err-add_record-in-Ok-true-clause-values g c = λ text left.
    let inv = c.loop-number.invariant in
    let read = rw c.in-Ok-true.field-0-test at (c.in-Ok-true.ensures.reads inv.trim inv.ready) in
    let p = err_from_is_err_and c.from_residual.result c.from_residual.ensures.1 in
    rw (p.1, p.2)
    (reads-failed g.F.RecordForm.spelled g.R.Read.remaining text c.loop-number.records
    c.read_byte_record.new.self
    c.loop-number.values.items c.loop-number.number
    (fields_of c.read_byte_record.new.row) _ (inv.known text left) inv.config read
    c.in_err-add_record-in-Ok-true.ensures.fault)

pub returns-in_err-add_record-in-Ok-true-clause-reads
    : goal.returns-in_err-add_record-in-Ok-true-clause-reads
returns-in_err-add_record-in-Ok-true-clause-reads g c =
    let p = err_from_is_err_and c.from_residual.result c.from_residual.ensures.1 in
    rw (p.1, p.2) (elim c.in_err-add_record-in-Ok-true.ensures.fault [
      | inl memory ↦ ap reads_failed memory
      | inr bad ↦ ap reads_failed bad.0
    ])
