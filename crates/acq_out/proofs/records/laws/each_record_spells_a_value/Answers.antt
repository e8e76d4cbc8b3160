use Rattle.acq_out.proofs.records.EachRecord.{text_spells, text_is_bad}
use Rattle.acq_out.proofs.records.laws.each_record_spells_a_value.Goals as goal

pub returns : goal.returns
returns g c = record { values = text_spells; bad = text_is_bad }
