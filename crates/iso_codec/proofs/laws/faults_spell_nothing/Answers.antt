use Rattle.iso_codec.proofs.FaultsSpellNothing.{not_read}
use Rattle.iso_codec.proofs.laws.faults_spell_nothing.Goals as goal

pub returns : goal.returns
returns c = λ text fault m h r. not_read text fault h m r
