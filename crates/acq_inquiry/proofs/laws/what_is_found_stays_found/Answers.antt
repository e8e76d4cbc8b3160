use Rattle.acq_inquiry.proofs.Later.{searched_later}
use Rattle.acq_inquiry.proofs.laws.what_is_found_stays_found.Goals as goal

pub returns : goal.returns
returns c = λ t events search is. searched_later t events search is
