use Rattle.std.proofs.Common.{ap, is_ok}
use Rattle.acq_recall.proofs.RecallingCalls.{lives, made, made_within}
use Rattle.acq_recall.proofs.recalling_book.RecallingBookBook.apply.Goals as goal

pub returns-in-Ok-clause-makes : goal.returns-in-Ok-clause-makes
returns-in-Ok-clause-makes g c =
    made g.B.Book c.args.self.now
    (record c.args.self.now { book = c.apply_any-made.new.self; recalled = c.follow.new.self })
    c.args.change.now g.met.B.Book.past c.requires.fits c.requires.past c.follow.ensures
    c.apply_any-made.ensures.was_honest c.apply_any-made.ensures.rise
    c.apply_any-made.ensures.counts (is_ok c.apply_any-made.result) (ap is_ok c.in-Ok.is)
    c.apply_any-made.ensures.makes

pub returns-in-Ok-clause-within : goal.returns-in-Ok-clause-within
returns-in-Ok-clause-within g c =
    made_within g.B.Book c.args.self.now
    (record c.args.self.now { book = c.apply_any-made.new.self; recalled = c.follow.new.self })
    c.args.change.now g.met.B.Book.past c.requires.fits c.requires.past c.follow.ensures
    c.apply_any-made.ensures.was_honest c.apply_any-made.ensures.rise
    c.apply_any-made.ensures.counts (is_ok c.apply_any-made.result) (ap is_ok c.in-Ok.is)
    c.apply_any-made.ensures.within

pub returns-in-Err-clause-blames : goal.returns-in-Err-clause-blames
returns-in-Err-clause-blames g c h live room there =
    c.apply_any-made.ensures.blames (λ _. (c.requires.fits live, c.requires.past live)) h
    (lives g.B.Book c.args.self.now live) room there
