use Rattle.acq_recall.proofs.RecallingCalls.{filled_gives, filled_within}
use Rattle.acq_recall.proofs.recalling_book.RecallingBookBook.look_up.Goals as goal

pub returns-clause-gives : goal.returns-clause-gives
returns-clause-gives g c =
    filled_gives g.B.Book c.args.self.now c.look_up_rest.new.self c.args.wanted.now
    c.rest-rest.result c.in_ok-known.known c.in_ok-looked.looked c.fill.new.looked
    c.in_ok-known.ensures c.rest-rest.ensures c.fill.ensures c.in_ok-looked.ensures.gives

pub returns-clause-within : goal.returns-clause-within
returns-clause-within g c =
    filled_within g.B.Book c.args.self.now c.look_up_rest.new.self c.args.wanted.now
    c.rest-rest.result c.in_ok-known.known c.in_ok-looked.looked c.fill.new.looked
    c.in_ok-known.ensures c.rest-rest.ensures c.fill.ensures c.in_ok-looked.ensures.within
