use Rattle.iso_codec.proofs.ReadingComputes.{read_as, reads_as, fault_of, has_fault}
use Rattle.iso_codec.proofs.laws.reading_computes.Goals as goal

pub returns-clause-read : goal.returns-clause-read
returns-clause-read c = λ text m. (read_as text m, reads_as text m)

pub returns-clause-fault : goal.returns-clause-fault
returns-clause-fault c = λ text fault. (fault_of text fault, has_fault text fault)
