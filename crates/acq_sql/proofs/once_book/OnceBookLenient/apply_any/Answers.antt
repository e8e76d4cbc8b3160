-- a change is made, held back, or made behind the request that is held back
use Rattle.std.proofs.Common.{is_ok, refl, sym, ap, ◌∙◌, Some, inl, inr, ⊎_elim, subst}
use Rattle.acq_book.specs.Fits.{HasItsRequest}
use Rattle.acq_sql.specs.HeldLaws.{open_is}
use Rattle.acq_core.specs.Tables.{after}
use Rattle.acq_sql.specs.declared.once_book.OnceBook.{OnceBook}
use Rattle.acq_sql.specs.Holding.{shown}
use Rattle.acq_sql.proofs.Holding.{behind_on, holds_back, live_fits, live_past, makes_group_on}
use Rattle.acq_sql.proofs.Holding.{makes_none, makes_on, not_open}
use Rattle.acq_sql.proofs.once_book.OnceBookLenient.apply_any.Goals as goal

pub returns-in-Some-clause-makes : goal.returns-in-Some-clause-makes
returns-in-Some-clause-makes g c suits =
    makes_none g.S.Store (λ (b : OnceBook _). b.book) (λ (b : OnceBook _). b.held)
    c.args.self.now (record {
      alloc = c.args.self.now.alloc;
      book = c.change_behind.new.book;
      held = c.take.new.self;
    }) (is_ok c.change_behind.result) c.args.change.now
    (not_open g.S.Store (λ (b : OnceBook _). b.book) (λ (b : OnceBook _). b.held)
    c.args.self.now (record {
      alloc = c.args.self.now.alloc;
      book = c.change_behind.new.book;
      held = c.take.new.self;
    }) c.in-Some.held
    (sym c.take.ensures.value ∙ c.in-Some.is) c.take.ensures.after)
    c.change_behind.ensures.was_honest c.change_behind.ensures.rise
    c.change_behind.ensures.counts
    (after (shown g.S.Store c.args.self.now.book c.args.self.now.held) c.args.change.now)

pub returns-in-Some-clause-within : goal.returns-in-Some-clause-within
returns-in-Some-clause-within g c suits =
    behind_on g.S.Store (λ (b : OnceBook _). b.book) (λ (b : OnceBook _). b.held)
    c.args.self.now (record {
      alloc = c.args.self.now.alloc;
      book = c.change_behind.new.book;
      held = c.take.new.self;
    }) c.in-Some.held
    (sym c.take.ensures.value ∙ c.in-Some.is) c.take.ensures.after c.change_behind.result
    c.args.change.now c.change_behind.ensures (λ live. (suits live).0) (λ live. (suits live).1)

pub returns-in_ok-copied-in-AddRequest-clause-within : goal.returns-in_ok-copied-in-AddRequest-clause-within
returns-in_ok-copied-in-AddRequest-clause-within g c =
    rw c.in-AddRequest.is
    (λ suits. holds_back g.S.Store (λ (b : OnceBook _). b.book) (λ (b : OnceBook _). b.held)
    c.args.self.now (record {
      alloc = c.args.self.now.alloc;
      book = c.args.self.now.book;
      held = Some c.in_ok-copied-in-AddRequest.field-0;
    }) c.in-AddRequest.request refl
    (sym c.take.ensures.value ∙ c.in_default.is)
    (ap Some c.in_ok-copied-in-AddRequest.ensures) (λ live. (suits live).0)
    (λ live. (suits live).1))

pub returns-in_default-change-clause-makes : goal.returns-in_default-change-clause-makes
returns-in_default-change-clause-makes g c suits =
    makes_on g.S.Store (λ (b : OnceBook _). b.book) (λ (b : OnceBook _). b.held)
    c.args.self.now (record {
      alloc = c.args.self.now.alloc;
      book = c.apply_any.new.self;
      held = c.take.new.self;
    }) (is_ok c.apply_any.result) c.args.change.now
    (sym c.take.ensures.value ∙ c.in_default.is) c.take.ensures.after
    (c.apply_any.ensures.makes (λ live. (
      live_fits g.S.Store (λ (b : OnceBook _). b.book) (λ (b : OnceBook _). b.held)
          c.args.self.now c.args.change.now (sym c.take.ensures.value ∙ c.in_default.is)
          (λ outer. (suits outer).0) live,
      live_past g.S.Store (λ (b : OnceBook _). b.book) (λ (b : OnceBook _). b.held)
          c.args.self.now c.args.change.now (sym c.take.ensures.value ∙ c.in_default.is)
          (λ outer. (suits outer).1) live,
    )))

pub returns-in_default-change-clause-within : goal.returns-in_default-change-clause-within
returns-in_default-change-clause-within g c suits =
    makes_group_on g.S.Store (λ (b : OnceBook _). b.book) (λ (b : OnceBook _). b.held)
    c.args.self.now (record {
      alloc = c.args.self.now.alloc;
      book = c.apply_any.new.self;
      held = c.take.new.self;
    }) (is_ok c.apply_any.result) c.args.change.now
    (sym c.take.ensures.value ∙ c.in_default.is) c.take.ensures.after
    (c.apply_any.ensures.within (λ live. (
      live_fits g.S.Store (λ (b : OnceBook _). b.book) (λ (b : OnceBook _). b.held)
          c.args.self.now c.args.change.now (sym c.take.ensures.value ∙ c.in_default.is)
          (λ outer. (suits outer).0) live,
      live_past g.S.Store (λ (b : OnceBook _). b.book) (λ (b : OnceBook _). b.held)
          c.args.self.now c.args.change.now (sym c.take.ensures.value ∙ c.in_default.is)
          (λ outer. (suits outer).1) live,
    )))

pub returns-in_default-change-clause-blames : goal.returns-in_default-change-clause-blames
returns-in_default-change-clause-blames g c suits honest live room there =
    let none = sym c.take.ensures.value ∙ c.in_default.is in
    c.apply_any.ensures.blames (λ inner. (
      live_fits g.S.Store (λ (b : OnceBook _). b.book) (λ (b : OnceBook _). b.held)
          c.args.self.now c.args.change.now none (λ outer. (suits outer).0) inner,
      live_past g.S.Store (λ (b : OnceBook _). b.book) (λ (b : OnceBook _). b.held)
          c.args.self.now c.args.change.now none (λ outer. (suits outer).1) inner,
    )) honest
    (⊎_elim (λ o. inl o.0) (λ w. inr (w.0, (w.1.0, w.1.1.0))) live) room.0
    (subst (λ t. HasItsRequest t c.args.change.now)
    (open_is g.S.Store c.args.self.now.book c.args.self.now.held none) there)
