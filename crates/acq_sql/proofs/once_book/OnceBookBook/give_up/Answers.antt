use Rattle.std.proofs.Common.{refl}
use Rattle.acq_sql.specs.declared.once_book.OnceBook.{OnceBook}
use Rattle.acq_sql.proofs.Holding.{returns_on}
use Rattle.acq_sql.proofs.once_book.OnceBookBook.give_up.Goals as goal

pub returns : goal.returns
returns g c =
    returns_on g.S.Store (λ (b : OnceBook _). b.book) (λ (b : OnceBook _). b.held)
    c.args.self.now _ refl c.give_up.ensures
