use Rattle.std.proofs.Common.{sym}
use Rattle.csv.specs.Records.{fields_of}
use Rattle.acq_out.proofs.records.RecordFields.{field_there}
use Rattle.acq_out.proofs.records.reading.field.Goals as goal

pub unreachable-requires : goal.unreachable-requires
unreachable-requires c =
    field_there (fields_of c.args.fields.now) c.args.place c.requires
    (sym (rw c.in_default.is at c.get.ensures.value))
