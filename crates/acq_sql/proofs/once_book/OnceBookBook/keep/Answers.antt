-- with the request that is held back the group is kept, and without it given up
use Rattle.std.proofs.Common.{is_ok, sym, ◌∙◌, Err}
use Rattle.acq_sql.specs.declared.once_book.OnceBook.{OnceBook}
use Rattle.acq_sql.specs.Opened.{store_faults}
use Rattle.acq_sql.proofs.Holding.{blames_first, blames_on, keeps_nothing, keeps_on}
use Rattle.acq_sql.proofs.Holding.{keeps_recorded, mid_within}
use Rattle.acq_sql.proofs.once_book.OnceBookBook.keep.Goals as goal

pub returns-in_default-clause-keeps : goal.returns-in_default-clause-keeps
returns-in_default-clause-keeps g c =
    keeps_on g.S.Store (λ (b : OnceBook _). b.book) (λ (b : OnceBook _). b.held)
    c.args.self.now _ (sym c.take.ensures.value ∙ c.in_default.is)
    c.take.ensures.after (is_ok c.keep.result) c.keep.ensures.keeps

pub returns-in_default-clause-blames : goal.returns-in_default-clause-blames
returns-in_default-clause-blames g c began faults h w = c.keep.ensures.blames began faults h w.0

pub returns-in-Ok-clause-keeps : goal.returns-in-Ok-clause-keeps
returns-in-Ok-clause-keeps g c =
    keeps_recorded g.S.Store (λ (b : OnceBook _). b.book) (λ (b : OnceBook _). b.held)
    c.args.self.now _ c.in-Some.held
    (sym c.take.ensures.value ∙ c.in-Some.is) c.take.ensures.after c.record.new.self
    (is_ok c.keep-in-Ok.result) c.in-Ok.ensures.changes c.keep-in-Ok.ensures.keeps

pub returns-in-Ok-clause-blames : goal.returns-in-Ok-clause-blames
returns-in-Ok-clause-blames g c began faults h w =
    blames_first c.keep-in-Ok.result c.in-Ok.ensures.changes.counts
    c.keep-in-Ok.ensures.keeps.counts
    (c.keep-in-Ok.ensures.blames began faults h
    (mid_within g.S.Store (λ (b : OnceBook _). b.book) (λ (b : OnceBook _). b.held)
    c.args.self.now (record {
      alloc = c.args.self.now.alloc;
      book = c.keep-in-Ok.new.self;
      held = c.take.new.self;
    }) c.in-Some.held
    (sym c.take.ensures.value ∙ c.in-Some.is) c.take.ensures.after c.record.new.self
    c.in-Ok.ensures.changes (c.keep-in-Ok.ensures.keeps.was_honest h) began faults w))

pub returns-clause-keeps : goal.returns-clause-keeps
returns-clause-keeps g c =
    keeps_nothing g.S.Store (λ (b : OnceBook _). b.book) (λ (b : OnceBook _). b.held)
    c.args.self.now _ c.in-Some.held
    (sym c.take.ensures.value ∙ c.in-Some.is) c.take.ensures.after c.record.new.self
    c.in-Err.ensures.changes c.give_up.ensures

pub returns-clause-blames : goal.returns-clause-blames
returns-clause-blames g c began faults h w =
    blames_on {T = Unit {0}} (Err c.in-Err.fault) (store_faults g.S.Store c.args.self.now.book)
    c.give_up.ensures.counts
    (c.in-Err.ensures.blames began faults (c.give_up.ensures.was_honest h) w.0)
