use Rattle.std.proofs.Common.{◌≡◌, ◌∙◌, sym}
use Rattle.acq_book.specs.Lookups.{pending_at}
use Rattle.acq_recall.proofs.LearnedWaiting.{pending_known}
use Rattle.acq_recall.proofs.RecallingCalls.{told_known}
use Rattle.acq_recall.proofs.recalling_book.RecallingBookBook.pending.Goals as goal

pub returns-then-are_known : goal.returns-then-are_known
returns-then-are_known g c =
    told_known g.B.Book c.args.self.now c.learn_waiting.new.self
    (λ t n. n ≡ pending_at t c.args.day) c.count_of.result c.in_ok-learn_waiting.ensures
    (λ t is. c.count_of.ensures
    ∙ pending_known c.learn_waiting.new.self.recalled.waiting t c.args.day is.waiting
    (sym c.are_known.ensures ∙ c.if-are_known.true))
