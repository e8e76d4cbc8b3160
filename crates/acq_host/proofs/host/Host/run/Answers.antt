-- what the host took so far, and one event more
use Rattle.std.proofs.Common.{[], Err, inl, ⊎_elim, refl, sym, ap, ◌∙◌, subst, arith}
use Rattle.std.proofs.lemmas.List.{take_all}
use Rattle.acq_core.specs.Tables.{outputs, tables_after}
use Rattle.acq_core.specs.Pasts.{HasPast}
use Rattle.acq_host.proofs.Runs.{HasTaken, took_none, took_next, may_stop_at}
use Rattle.acq_host.proofs.Runs.{leaves_books_at, shut_at}
use Rattle.acq_host.proofs.Chains.{counts_more}
use Rattle.acq_host.proofs.host.Host.run.Goals as goal

pub loop-at-init : goal.loop-at-init
loop-at-init g c = record {
  took =
      subst (HasTaken g.B.Book c.args.self.now c.args.self.now []) (sym c.new-said.ensures.items)
      (took_none g.B.Book c.args.self.now);
  past = subst (λ b. g.B.Book.is_open b → HasPast (g.B.Book.tables b)) c.self.view_is
      c.self.invariant;
}

pub loop-at-preserved : goal.loop-at-preserved
loop-at-preserved g c = record {
  took =
      took_next g.B.Book c.args.self.now c.loop-at.self c.take_next.new.self c.args.events.now
      c.loop-at.at
      c.index-events-at.result
      c.loop-at.said.items c.take_next.new.said.items (omega arith) c.index-events-at.is
      c.loop-at.invariant.took
      c.in_default.ensures.tables c.in_default.ensures.said c.in_default.ensures.store;
  past = c.in_default.ensures.past;
}

pub returns-in-Err-clause-fault : goal.returns-in-Err-clause-fault
returns-in-Err-clause-fault g c = λ h o. record {
  within = omega arith;
  outputs = c.in-Err.ensures.kept
      ∙ c.loop-at.invariant.took.says (c.in-Err.ensures.tables.was_honest h) o;
}

pub returns-in-Err-clause-fault_tables : goal.returns-in-Err-clause-fault_tables
returns-in-Err-clause-fault_tables g c = λ o end.
    let makes = c.in-Err.ensures.tables in
    let first = c.loop-at.invariant.took in
    let before = makes.was_honest (g.met.B.Book.honest c.take_next.new.self end) in
    makes.unmade refl (first.stays_open before o) end ∙ first.leads before o

pub returns-in-Err-clause-fault_stop : goal.returns-in-Err-clause-fault_stop
returns-in-Err-clause-fault_stop g c = λ h o.
    may_stop_at g.B.Book c.args.self.now c.loop-at.self c.take_next.new.self c.args.events.now
    c.loop-at.at c.index-events-at.result c.loop-at.said.items c.loop-at.invariant.took
    c.in-Err.ensures.tables h o (omega arith) c.index-events-at.is g.met.B.Book.settled

pub returns-in-Err-clause-books : goal.returns-in-Err-clause-books
returns-in-Err-clause-books g c = λ h o.
    leaves_books_at g.B.Book c.args.self.now c.loop-at.self c.take_next.new.self c.args.events.now
    c.loop-at.at c.index-events-at.result c.loop-at.said.items c.loop-at.invariant.took
    c.in-Err.ensures.tables h o

pub returns-in-Err-clause-shuts : goal.returns-in-Err-clause-shuts
returns-in-Err-clause-shuts g c = λ h o.
    shut_at g.B.Book c.args.self.now c.loop-at.self c.take_next.new.self c.args.events.now
    c.loop-at.at c.index-events-at.result c.loop-at.said.items c.loop-at.invariant.took
    c.in-Err.ensures.tables h o

pub returns-clause-outputs : goal.returns-clause-outputs
returns-clause-outputs g c = λ h o.
    c.loop-at.invariant.took.says h o
    ∙ ap (outputs (g.B.Book.tables c.args.self.now))
    (take_all c.loop-at.at c.args.events.now c.loop-at-test.false)

pub returns-clause-tables : goal.returns-clause-tables
returns-clause-tables g c = λ h o.
    c.loop-at.invariant.took.leads h o
    ∙ ap (tables_after (g.B.Book.tables c.args.self.now))
    (take_all c.loop-at.at c.args.events.now c.loop-at-test.false)

pub returns-clause-shuts : goal.returns-clause-shuts
returns-clause-shuts g c = λ h o. inl (c.loop-at.invariant.took.stays_open h o)

pub returns-clause-books : goal.returns-clause-books
returns-clause-books g c = λ h o.
    g.met.B.Book.stored c.loop-at.self (c.loop-at.invariant.took.stays_open h o)

pub returns-clause-stop : goal.returns-clause-stop
returns-clause-stop g c = λ h o t l.
    let first = c.loop-at.invariant.took in
    let whole = take_all c.loop-at.at c.args.events.now c.loop-at-test.false in
    g.met.B.Book.settled c.loop-at.self (first.stays_open h o) t l
    ∙ (first.leads h o ∙ ap (tables_after (g.B.Book.tables c.args.self.now)) whole)

pub returns-in-Err-clause-left : goal.returns-in-Err-clause-left
returns-in-Err-clause-left g c = λ h o.
    let was = c.in-Err.ensures.tables.was_honest h in
    let between = c.loop-at.invariant.took.stays_open was o in
    c.in-Err.ensures.left h between (c.loop-at.invariant.past between)

pub returns-clause-left : goal.returns-clause-left
returns-clause-left g c = λ h o t l.
    let opened = c.loop-at.invariant.took.stays_open h o in
    subst HasPast (sym (g.met.B.Book.settled c.loop-at.self opened t l))
    (c.loop-at.invariant.past opened)

pub returns-in-Err-clause-store : goal.returns-in-Err-clause-store
returns-in-Err-clause-store g c =
    counts_more {T = Unit {0}} (Err c.in-Err.fault) _ c.loop-at.invariant.took.failed
    c.in-Err.ensures.store

pub returns-clause-store : goal.returns-clause-store
returns-clause-store g c = c.loop-at.invariant.took.failed

pub returns-in-Err-clause-began : goal.returns-in-Err-clause-began
returns-in-Err-clause-began g c =
    subst (λ b. g.B.Book.is_open b → HasPast (g.B.Book.tables b)) c.self.view_is c.self.invariant

pub returns-clause-began : goal.returns-clause-began
returns-clause-began g c =
    subst (λ b. g.B.Book.is_open b → HasPast (g.B.Book.tables b)) c.self.view_is c.self.invariant

pub returns-in-Err-clause-past : goal.returns-in-Err-clause-past
returns-in-Err-clause-past g c = λ end.
    let makes = c.in-Err.ensures.tables in
    let t = g.B.Book.tables c.take_next.new.self in
    let kept : g.B.Book.is_open c.loop-at.self → HasPast t = λ between.
    subst HasPast (sym (makes.unmade refl between end)) (c.loop-at.invariant.past between) in
    ⊎_elim kept (λ past. past) (makes.was_open end)

pub returns-clause-past : goal.returns-clause-past
returns-clause-past g c = c.loop-at.invariant.past
