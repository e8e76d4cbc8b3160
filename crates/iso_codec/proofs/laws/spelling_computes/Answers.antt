use Rattle.iso_codec.proofs.SpellingComputes.{spelling_writes, written_is}
use Rattle.iso_codec.proofs.laws.spelling_computes.Goals as goal

pub returns-clause-written : goal.returns-clause-written
returns-clause-written c = λ m l. spelling_writes m l

pub returns-clause-only : goal.returns-clause-only
returns-clause-only c = λ text m w. written_is text m w
