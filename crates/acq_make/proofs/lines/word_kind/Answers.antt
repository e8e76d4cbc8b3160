use Rattle.acq_make.proofs.Words.{is_head}
use Rattle.acq_make.proofs.lines.word_kind.Goals as goal

pub returns-in-len4 : goal.returns-in-len4
returns-in-len4 c = is_head c.args.word.now c.in-len4.len_at_least c.in-len4.len_below
