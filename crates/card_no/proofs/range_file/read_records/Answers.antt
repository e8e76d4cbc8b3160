use Rattle.std.proofs.Common.{◌∙◌, inl}
use Rattle.std.proofs.lemmas.Result.{err_from_is_err_and}
use Rattle.csv.specs.Records.{fields_of}
use Rattle.card_no.proofs.FileRecords.{stands-start, stands-more, stands-end, stands-stopped}
use Rattle.card_no.proofs.FileRecords.{stops-refused, stops-unread}
use Rattle.card_no.proofs.range_file.read_records.Goals as goal

pub loop-number-init : goal.loop-number-init
loop-number-init g c = record {
  trim = c.requires.trim;
  ready = c.requires.ready;
  config = c.requires.config;
  known = λ text left. stands-start text _ _ _ left c.requires.start c.requires.empty;
}

pub loop-number-preserved : goal.loop-number-preserved
loop-number-preserved g c =
    let inv = c.loop-number.invariant in
    let read = rw c.in-Ok-true.field-0-test at (c.in-Ok-true.ensures.reads inv.trim inv.ready) in
    record {
      trim = read.3 ∙ inv.trim;
      ready = inl (c.in-Ok-true.ensures.ready inv.trim);
      config = read.2 ∙ inv.config;
      known = λ text left. stands-more g.R.Read.remaining text c.loop-number.records
          c.read_byte_record.new.self
          c.loop-number.ranges c.add_record.new.ranges c.loop-number.number
          (fields_of c.read_byte_record.new.row) (inv.known text left) inv.config read
          c.in_ok-add_record-in-Ok-true.ensures.ok;
    }

pub returns-in_err-add_record-in-Ok-true : goal.returns-in_err-add_record-in-Ok-true
returns-in_err-add_record-in-Ok-true g c = λ text left.
    let inv = c.loop-number.invariant in
    let read = rw c.in-Ok-true.field-0-test at (c.in-Ok-true.ensures.reads inv.trim inv.ready) in
    let p = err_from_is_err_and c.from_residual.result c.from_residual.ensures.1 in
    rw (p.1, p.2)
    (stops-refused g.R.Read.remaining text c.loop-number.records c.read_byte_record.new.self
    c.loop-number.ranges c.loop-number.number
    (fields_of c.read_byte_record.new.row) _ (inv.known text left) inv.config read
    c.in_err-add_record-in-Ok-true.ensures.fault)

pub returns-in-Ok-false : goal.returns-in-Ok-false
returns-in-Ok-false g c = λ text left.
    let inv = c.loop-number.invariant in
    let read = rw c.in-Ok-false.field-0-test at (c.in-Ok-false.ensures.reads inv.trim inv.ready) in
    stands-end g.R.Read.remaining text c.loop-number.records c.read_byte_record.new.self
    c.loop-number.ranges
    c.loop-number.number
    (fields_of c.read_byte_record.new.row) (inv.known text left) inv.config read

pub returns-in-Err : goal.returns-in-Err
returns-in-Err g c = λ text left.
    stops-unread text c.loop-number.number c.unread.result
    (stands-stopped text _ _ _ _ (c.loop-number.invariant.known text left))
    c.unread.ensures.either
