use Rattle.std.proofs.Common.{arith}
use Rattle.csv.specs.Records.{fields_of}
use Rattle.acq_out.proofs.records.RecordFields.{fields_six}
use Rattle.acq_out.proofs.event_line.EventLine.of.Goals as goal

pub returns-clause-six : goal.returns-clause-six
returns-clause-six c =
    fields_six (fields_of c.args.fields.now) _ _ _ _ _ _
    (omega (arith, c.len.ensures)) c.field.ensures
    c.field-2.ensures c.field-3.ensures c.field-4.ensures c.field-5.ensures c.field-6.ensures
