use Rattle.card_no.proofs.LeastOverlap.{least-overlap}
use Rattle.card_no.proofs.laws.least_overlap.Goals as goal

pub returns : goal.returns
returns c = λ ranges r s valid is. least-overlap ranges r s valid is
