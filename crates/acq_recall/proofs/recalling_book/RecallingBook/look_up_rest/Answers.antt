use Rattle.acq_recall.proofs.RecallingCalls.{learned_within}
use Rattle.acq_recall.proofs.recalling_book.RecallingBook.look_up_rest.Goals as goal

pub returns-2-clause-within : goal.returns-2-clause-within
returns-2-clause-within g c =
    learned_within g.B.Book c.args.self.now
    (record c.args.self.now { book = c.look_up.new.self; recalled = c.learn.new.self })
    c.in_ok-looked.looked c.args.rest.now c.in_ok-looked.ensures.within c.learn.ensures.learns
    c.learn.ensures.keeps
