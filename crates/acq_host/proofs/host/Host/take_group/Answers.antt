-- events led to what a stop leaves of a group, kept or not
use Rattle.std.proofs.Common.{false, true, ⊎_elim, refl, sym, subst}
use Rattle.acq_core.specs.Pasts.{HasPast}
use Rattle.acq_host.specs.Groups.{Keeps, Returns}
use Rattle.acq_host.proofs.Groups.{Laws, group_given_up, past_of_group}
use Rattle.acq_host.proofs.host.Host.take_group.Goals as goal

pub returns-in_err-keep-in-Ok-clause-left : goal.returns-in_err-keep-in-Ok-clause-left
returns-in_err-keep-in-Ok-clause-left g c h o =
    let b = g.B.Book in
    let laws : Laws b =
    record {
      honest = g.met.B.Book.honest;
      settled = g.met.B.Book.settled;
      stored = g.met.B.Book.stored;
      past = g.met.B.Book.past;
    } in
    past_of_group b laws c.self.inside.book c.begin.new.self c.take_each.new.self
    c.args.events.now true c.in_ok-begin.ensures.begins c.in-Ok.ensures.within
    c.in-Ok.ensures.was_honest c.in-Ok.ensures.rise c.in-Ok.ensures.counts c.keep.new.self false
    refl (subst (λ s. Keeps b s c.keep.new.self false) c.self-2.view_is
    c.in_err-keep-in-Ok.ensures.keeps) g.met.B.Book.past_within h
    (subst b.is_open (sym c.self.view_is) o)

pub returns-in_ok-keep-in-Ok-clause-left : goal.returns-in_ok-keep-in-Ok-clause-left
returns-in_ok-keep-in-Ok-clause-left g c h o =
    let b = g.B.Book in
    let laws : Laws b =
    record {
      honest = g.met.B.Book.honest;
      settled = g.met.B.Book.settled;
      stored = g.met.B.Book.stored;
      past = g.met.B.Book.past;
    } in
    past_of_group b laws c.self.inside.book c.begin.new.self c.take_each.new.self
    c.args.events.now true c.in_ok-begin.ensures.begins c.in-Ok.ensures.within
    c.in-Ok.ensures.was_honest c.in-Ok.ensures.rise c.in-Ok.ensures.counts c.keep.new.self true
    refl (subst (λ s. Keeps b s c.keep.new.self true) c.self-2.view_is
    c.in_ok-keep-in-Ok.ensures.keeps) g.met.B.Book.past_within h
    (subst b.is_open (sym c.self.view_is) o)

pub returns-in-Err-clause-left : goal.returns-in-Err-clause-left
returns-in-Err-clause-left g c h o t l =
    let b = g.B.Book in
    let laws : Laws b =
    record {
      honest = g.met.B.Book.honest;
      settled = g.met.B.Book.settled;
      stored = g.met.B.Book.stored;
      past = g.met.B.Book.past;
    } in
    let a = c.self.inside.book in
    let opened = subst b.is_open (sym c.self.view_is) o in
    let past = laws.past a opened in
    let made = group_given_up b laws a c.begin.new.self c.take_each.new.self c.args.events.now
    false c.in_ok-begin.ensures.begins c.in-Err.ensures.within c.in-Err.ensures.was_honest
    c.in-Err.ensures.rise c.in-Err.ensures.counts c.give_up.new.self (b.tables a) refl
    (subst (λ s. Returns b s c.give_up.new.self) c.self-2.view_is c.give_up.ensures) in
    ⊎_elim (λ was. subst HasPast (sym (laws.settled a opened t was)) past)
    (λ is. subst HasPast (sym is) past) (made.leaves opened h t l)
