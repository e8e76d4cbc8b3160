use Rattle.std.proofs.Common.{refl}
use Rattle.acq_book.specs.declared.book_fault.BookFault.TheVariants.{Memory}
use Rattle.acq_book.specs.Looked.{IsLooked}
use Rattle.acq_sql.specs.declared.once_book.OnceBook.{OnceBook}
use Rattle.acq_sql.specs.Holding.{shown}
use Rattle.acq_sql.proofs.Holding.{group_fault, group_loses, group_shows}
use Rattle.acq_sql.proofs.once_book.OnceBookBook.look_up.Goals as goal

pub returns-in_err-looked-clause-within : goal.returns-in_err-looked-clause-within
returns-in_err-looked-clause-within g c =
    group_fault g.S.Store (λ (b : OnceBook _). b.book) (λ (b : OnceBook _). b.held)
    c.args.self.now _ refl c.from_residual.result
    (IsLooked (shown g.S.Store c.args.self.now.book c.args.self.now.held) c.args.wanted.now)
    c.from_residual.ensures c.in_err-looked.ensures.within

pub returns-in-Ok-clause-within : goal.returns-in-Ok-clause-within
returns-in-Ok-clause-within g c =
    group_shows g.S.Store (λ (b : OnceBook _). b.book) (λ (b : OnceBook _). b.held)
    c.args.self.now _ refl (λ t. IsLooked t c.args.wanted.now) c.show_held.new.looked
    (λ t. IsLooked t c.args.wanted.now)
    c.in-Ok.ensures c.in_ok-looked.ensures.within

pub returns-in-Err-clause-within : goal.returns-in-Err-clause-within
returns-in-Err-clause-within g c =
    group_loses g.S.Store (λ (b : OnceBook _). b.book) (λ (b : OnceBook _). b.held)
    c.args.self.now _ refl Memory
    (IsLooked (shown g.S.Store c.args.self.now.book c.args.self.now.held) c.args.wanted.now)
    c.in_ok-looked.ensures.within
