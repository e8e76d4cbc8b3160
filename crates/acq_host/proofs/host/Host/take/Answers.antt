-- an event of a book changes what fits, and its tables stay those of a book
use Rattle.std.proofs.Common.{◌≡◌, ⊎_elim, refl, ◌∙◌, sym, ap, subst, rules}
use Rattle.std.specs.Prelude.{true, false, is_ok, IfSome}
use Rattle.acq_core.specs.Arrivals.{arrival_of}
use Rattle.acq_core.specs.Changes.{change_for}
use Rattle.acq_core.specs.Tables.{after_any, known_in, step_output, step_tables}
use Rattle.acq_book.specs.Fits.{Fits}
use Rattle.acq_book.specs.Calls.{Lives, Makes, MakesWithin}
use Rattle.acq_book.proofs.GroupChains.{looks_make_nothing, makes_within_after}
use Rattle.acq_core.specs.Pasts.{IsBook, HasPast}
use Rattle.acq_soundness.proofs.BooksAreSound.{books_are_sound}
use Rattle.acq_soundness.proofs.BooksGoOn.{books_go_on}
use Rattle.acq_host.proofs.Chains.{counts_on, makes_after}
use Rattle.acq_host.proofs.Runs.{past_of_left}
use Rattle.acq_host.proofs.ChangesFit.{changes_fit}
use Rattle.acq_host.proofs.host.Host.take.Goals as goal

pub apply-made-requires : goal.apply-made-requires
apply-made-requires g c =
    let e = c.args.event.now in
    let a = arrival_of e in
    let looks = c.in_ok-output.ensures.looks in
    let within = c.in_ok-output.ensures.within in
    let t = g.B.Book.tables c.self.inside.book in
    let facts : Lives g.B.Book c.decide.new.book → HasPast t
    × (g.B.Book.tables c.decide.new.book ≡ t)
    × (c.in_ok-output.change ≡ change_for (known_in t a) a) =
    ⊎_elim (λ o. (c.self.invariant (looks.was_open o), looks.same o, c.in_ok-output.ensures.change o))
    (λ w.
    let was = within.looks.was_within w.0 w.1.0 refl w.1.1 in (
      g.met.B.Book.past_within c.self.inside.book w.0 was.0 was.1,
      within.looks.same w.0 w.1.0 refl w.1.1,
      (within.value w.0 w.1.0 w.1.1).1,
    )) in
    record {
      fits = λ live.
          let f = facts live in
          subst (λ t. IfSome c.in_ok-output.change (Fits t)) (sym f.1)
          (subst (λ x. IfSome x (Fits t)) (sym f.2)
          (changes_fit f.0.0 t e f.0.1 c.every_event.ensures));
      past = λ live.
          let f = facts live in
          subst HasPast (sym (λ i. after_any (f.1 i) (f.2 i)))
          (f.0.0, books_go_on f.0.0 t e f.0.1 c.every_event.ensures);
    }

pub returns-in_err-made-clause-tables : goal.returns-in_err-made-clause-tables
returns-in_err-made-clause-tables g c =
    let looks = c.in_ok-output.ensures.looks in
    let failed : is_ok c.from_residual-in_err-made.result ≡ false = search rules in
    subst (λ ok. Makes g.B.Book
    c.args.self.now c.apply-made.new.book ok
    (step_tables (g.B.Book.tables c.args.self.now) (arrival_of c.args.event.now)))
    (sym failed)
    (subst (λ b. Makes g.B.Book b
    c.apply-made.new.book false (step_tables (g.B.Book.tables b) (arrival_of c.args.event.now)))
    c.self.view_is
    (makes_after g.B.Book.tables g.B.Book.is_honest g.B.Book.is_open g.B.Book.may_leave
    g.B.Book.leaves_books g.B.Book.failures g.B.Book.store_faults
    g.met.B.Book.honest c.self.inside.book c.decide.new.book c.apply-made.new.book _ _ _
    (λ o i. after_any (looks.same o i) (c.in_ok-output.ensures.change o i)) looks
    c.in_err-made.ensures.makes))

pub invariant_of-self-2 : goal.invariant_of-self-2
invariant_of-self-2 g c = λ o.
    let e = c.args.event.now in
    let looks = c.in_ok-output.ensures.looks in
    let makes = c.in_ok-made.ensures.makes in
    let t = g.B.Book.tables c.self.inside.book in
    let went_on : g.B.Book.is_open c.decide.new.book →
    HasPast (g.B.Book.tables c.apply-made.new.book) = λ between.
    let past = c.self.invariant (looks.was_open between) in (
      past.0,
      subst (IsBook past.0)
          (sym (makes.made refl between o
          ∙ (λ i. after_any (looks.same between i) (c.in_ok-output.ensures.change between i))))
          (books_go_on past.0 t e past.1 c.every_event.ensures),
    ) in
    ⊎_elim went_on (λ past. past) (makes.was_open o)

pub returns-clause-past : goal.returns-clause-past
returns-clause-past g c = invariant_of-self-2 g c

pub returns-clause-output : goal.returns-clause-output
returns-clause-output g c = λ h o.
    let looks = c.in_ok-output.ensures.looks in
    let was_open = subst g.B.Book.is_open (sym c.self.view_is) o in
    c.in_ok-output.ensures.output
    (looks.stays_open refl (c.in_ok-made.ensures.makes.was_honest h) was_open)
    ∙ ap (λ b. step_output (g.B.Book.tables b) (arrival_of c.args.event.now)) c.self.view_is

pub returns-clause-reply : goal.returns-clause-reply
returns-clause-reply g c = λ h o party text is.
    let t = g.B.Book.tables c.self.inside.book in
    let looks = c.in_ok-output.ensures.looks in
    let was_open = subst g.B.Book.is_open (sym c.self.view_is) o in
    let past = c.self.invariant was_open in
    let output = c.in_ok-output.ensures.output
    (looks.stays_open refl (c.in_ok-made.ensures.makes.was_honest h) was_open) in
    (books_are_sound past.0 t past.1).next_reply c.args.event.now party text c.every_event.ensures
    (sym output ∙ is)

pub returns-clause-tables : goal.returns-clause-tables
returns-clause-tables g c =
    let looks = c.in_ok-output.ensures.looks in
    subst (λ b. Makes g.B.Book b
    c.apply-made.new.book true (step_tables (g.B.Book.tables b) (arrival_of c.args.event.now)))
    c.self.view_is
    (makes_after g.B.Book.tables g.B.Book.is_honest g.B.Book.is_open g.B.Book.may_leave
    g.B.Book.leaves_books g.B.Book.failures g.B.Book.store_faults
    g.met.B.Book.honest c.self.inside.book c.decide.new.book c.apply-made.new.book _ _ _
    (λ o i. after_any (looks.same o i) (c.in_ok-output.ensures.change o i)) looks
    c.in_ok-made.ensures.makes)

pub returns-clause-left : goal.returns-clause-left
returns-clause-left g c = λ h o.
    past_of_left g.B.Book c.args.self.now c.apply-made.new.book true c.args.event.now
    g.met.B.Book.settled c.every_event.ensures (returns-clause-tables g c)
    (subst (λ b. g.B.Book.is_open b → HasPast (g.B.Book.tables b)) c.self.view_is c.self.invariant
    o)
    h o

pub returns-in_err-made-clause-left : goal.returns-in_err-made-clause-left
returns-in_err-made-clause-left g c = λ h o.
    past_of_left g.B.Book c.args.self.now c.apply-made.new.book _ c.args.event.now
    g.met.B.Book.settled c.every_event.ensures (returns-in_err-made-clause-tables g c)
    (subst (λ b. g.B.Book.is_open b → HasPast (g.B.Book.tables b)) c.self.view_is c.self.invariant
    o)
    h o

pub returns-in_err-output-clause-left : goal.returns-in_err-output-clause-left
returns-in_err-output-clause-left g c = λ h o t l.
    let was_open = subst g.B.Book.is_open (sym c.self.view_is) o in
    let was = c.in_err-output.ensures.looks.leaves h t l in
    subst HasPast (sym (g.met.B.Book.settled c.self.inside.book was_open t was))
    (c.self.invariant was_open)

pub returns-in_err-output-clause-store : goal.returns-in_err-output-clause-store
returns-in_err-output-clause-store g c =
    counts_on c.from_residual.result c.in_err-output.field-0.0 _ c.from_residual.ensures.1
    (ap g.B.Book.failures c.self.view_is) c.in_err-output.ensures.store

pub returns-in_err-made-clause-store : goal.returns-in_err-made-clause-store
returns-in_err-made-clause-store g c =
    counts_on c.from_residual-in_err-made.result c.in_err-made.field-0.0 _
    c.from_residual-in_err-made.ensures.1
    (c.in_ok-output.ensures.store ∙ ap g.B.Book.failures c.self.view_is)
    c.in_err-made.ensures.store

pub returns-clause-store : goal.returns-clause-store
returns-clause-store g c =
    c.in_ok-made.ensures.store
    ∙ (c.in_ok-output.ensures.store ∙ ap g.B.Book.failures c.self.view_is)

-- ---- within a group

pub returns-clause-output_within : goal.returns-clause-output_within
returns-clause-output_within g c began n h w =
    let looks = c.in_ok-output.ensures.looks in
    let within = c.in_ok-output.ensures.within in
    let was = subst (λ b. g.B.Book.is_within b began n) (sym c.self.view_is) w in
    let mid = within.looks.stays began n refl (c.in_ok-made.ensures.makes.was_honest h) was in
    (within.value began n mid).0
    ∙ ap (λ b. step_output (g.B.Book.tables b) (arrival_of c.args.event.now)) c.self.view_is

pub returns-clause-reply_within : goal.returns-clause-reply_within
returns-clause-reply_within g c began n h w party text is =
    let t = g.B.Book.tables c.self.inside.book in
    let within = c.in_ok-output.ensures.within in
    let was = subst (λ b. g.B.Book.is_within b began n) (sym c.self.view_is) w in
    let past = g.met.B.Book.past_within c.self.inside.book began n was in
    let mid = within.looks.stays began n refl (c.in_ok-made.ensures.makes.was_honest h) was in
    let output = (within.value began n mid).0 in
    (books_are_sound past.0 t past.1).next_reply c.args.event.now party text c.every_event.ensures
    (sym output ∙ is)

pub returns-clause-within : goal.returns-clause-within
returns-clause-within g c =
    let book = g.B.Book in
    let looks = c.in_ok-output.ensures.looks in
    let within = c.in_ok-output.ensures.within in
    subst (λ b. MakesWithin book b c.apply-made.new.book true
    (step_tables (book.tables b) (arrival_of c.args.event.now))) c.self.view_is
    (makes_within_after book.tables book.is_honest book.is_within book.can_return book.may_leave
    book.leaves_books c.self.inside.book c.decide.new.book c.apply-made.new.book true _ _
    (λ began n w. λ i. after_any (within.looks.same began n refl w i)
    ((within.value began n w).1 i))
    c.in_ok-made.ensures.makes.was_honest looks.leaves looks.books within.looks
    c.in_ok-made.ensures.within)

pub returns-in_err-made-clause-within : goal.returns-in_err-made-clause-within
returns-in_err-made-clause-within g c =
    let book = g.B.Book in
    let looks = c.in_ok-output.ensures.looks in
    let within = c.in_ok-output.ensures.within in
    let failed : is_ok c.from_residual-in_err-made.result ≡ false = search rules in
    subst (λ ok. MakesWithin book c.args.self.now c.apply-made.new.book ok
    (step_tables (book.tables c.args.self.now) (arrival_of c.args.event.now))) (sym failed)
    (subst (λ b. MakesWithin book b c.apply-made.new.book false
    (step_tables (book.tables b) (arrival_of c.args.event.now))) c.self.view_is
    (makes_within_after book.tables book.is_honest book.is_within book.can_return book.may_leave
    book.leaves_books c.self.inside.book c.decide.new.book c.apply-made.new.book false _ _
    (λ began n w. λ i. after_any (within.looks.same began n refl w i)
    ((within.value began n w).1 i))
    c.in_err-made.ensures.makes.was_honest looks.leaves looks.books within.looks
    c.in_err-made.ensures.within))

pub returns-in_err-output-clause-within : goal.returns-in_err-output-clause-within
returns-in_err-output-clause-within g c =
    let book = g.B.Book in
    let looks = c.in_err-output.ensures.looks in
    let failed : is_ok c.from_residual.result ≡ false = search rules in
    subst (λ ok. MakesWithin book c.args.self.now c.decide.new.book ok
    (step_tables (book.tables c.args.self.now) (arrival_of c.args.event.now))) (sym failed)
    (subst (λ b. MakesWithin book b c.decide.new.book false
    (step_tables (book.tables b) (arrival_of c.args.event.now))) c.self.view_is
    (looks_make_nothing book.tables book.is_honest book.is_within book.can_return book.may_leave
    book.leaves_books c.self.inside.book c.decide.new.book _ looks.leaves looks.books
    c.in_err-output.ensures.within.looks))
