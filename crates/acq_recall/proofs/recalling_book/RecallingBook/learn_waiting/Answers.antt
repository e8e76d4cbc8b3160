use Rattle.std.proofs.Common.{◌∙◌, ◌++◌, ap, true, Global, Vec}
use Rattle.acq_core.specs.declared.request.Request.{Request}
use Rattle.acq_book.specs.Lookups.{waiting_at}
use Rattle.acq_recall.proofs.LearnedWaiting.{collected, with_waiting, without_waiting}
use Rattle.acq_recall.proofs.RecallingCalls.{looks_learned}
use Rattle.acq_recall.proofs.recalling_book.RecallingBook.learn_waiting.Goals as goal

pub returns-in-Some : goal.returns-in-Some
returns-in-Some g c =
    let old = c.args.self.now in
    let t = g.B.Book.tables old.book in
    let walked = c.in_ok-walk_pending.ensures in
    let seen = c.walk_pending.new.visitor in
    record {
      value = λ o. tt;
      looks = looks_learned g.B.Book old
          (record old {
            book = c.walk_pending.new.self;
            recalled = record old.recalled { waiting = c.learn.new.self };
          }) true walked.looks
          (λ h o is. with_waiting old.recalled c.learn.new.self t is
          (c.learn.ensures.learns t.requests
          (ap (λ (rows : Vec Request Global). rows.items) c.in-Some.ensures.0
          ∙ ((collected (waiting_at t) c.new-seen.result seen (walked.seen h o)
          c.in-Some.ensures.1).1
          ∙ ap (λ rows. rows ++ waiting_at t) c.new-seen.ensures.rows))))
          (λ t is. without_waiting old.recalled c.learn.new.self t is
          (c.learn.ensures.keeps t.requests));
      store = walked.store;
      blames = λ h o room. tt;
      room = λ o room. walked.room o.0 room;
    }

pub returns-in-None : goal.returns-in-None
returns-in-None g c =
    let old = c.args.self.now in
    let t = g.B.Book.tables old.book in
    let walked = c.in_ok-walk_pending.ensures in
    record {
      value = λ o. tt;
      looks = looks_learned g.B.Book old
          (record old {
            book = c.walk_pending.new.self;
            recalled = record old.recalled { waiting = c.leave.new.self };
          }) true walked.looks
          (λ h o is. with_waiting old.recalled c.leave.new.self t is
          ((c.leave.ensures t.requests).0 is.waiting))
          (λ t is. without_waiting old.recalled c.leave.new.self t is
          ((c.leave.ensures t.requests).1 is.waiting));
      store = walked.store;
      blames = λ h o room. tt;
      room = λ o room. walked.room o.0 room;
    }
