use Rattle.std.proofs.Common.{◌∙◌, ◌++◌, ap, arith, subst, Err}
use Rattle.acq_faults.specs.Faults.{of_book}
use Rattle.acq_faults.specs.Serving.{ServedBy}
use Rattle.acq_front.specs.Stops.{left_of}
use Rattle.acq_front.specs.Talk.{in_time}
use Rattle.acq_rounds.specs.Runs.{ServedOn}
use Rattle.acq_rounds.specs.declared.past.Past.{Past}
use Rattle.acq_tcp.specs.Issuers.{says_of}
use Rattle.acq_tcp.specs.Others.{OthersFollow, beside_of}
use Rattle.acq_tcp.specs.Terminals.{ended_at, given_at, had_by, many_by, others_at, others_by}
use Rattle.acq_tcp.specs.declared.had.Had.{Had}
use Rattle.acq_tcp.proofs.Reaching.{tells_host, tells_then}
use Rattle.acq_tcp.proofs.Serving.{served_all, served_until, serves_none}
use Rattle.acq_tcp.proofs.tcp_server.TcpServerServer.serve_all.Goals as goal

pub returns-in-Err-clause-serves : goal.returns-in-Err-clause-serves
returns-in-Err-clause-serves g c = λ h o.
    rw c.from.ensures
    (serves_none (g.C.Clock.may_give c.args.clock.now)
    (in_time (g.I.Issuer.may_say c.args.issuer.now)) OthersFollow (left_of g.B.Book c.begin.new.host) (g.B.Book.tables c.args.host.now)
    (others_by c.args.self.now) (others_by c.begin.new.self) (had_by c.args.self.now)
    (had_by c.begin.new.self) (many_by c.args.self.now) (many_by c.begin.new.self) c.in-Err.fault
    (c.in-Err.ensures.looked h o) (ap (λ p. beside_of p) c.in-Err.ensures.others)
    (ap (λ (p : Past). p.list) c.in-Err.ensures.past)
    (ap (λ (n : Had). n.count) c.in-Err.ensures.had))

pub returns-in-Err-clause-store : goal.returns-in-Err-clause-store
returns-in-Err-clause-store g c =
    rw c.from.ensures (tells_host c.in-Err.fault _ _ _ c.in-Err.ensures.store)

pub returns-in-Ok-clause-serves : goal.returns-in-Ok-clause-serves
returns-in-Ok-clause-serves g c h o =
    let was = c.serve-served.ensures.was_honest h in
    let opened = c.in_default.ensures.stays_open was o in
    let may_give = g.C.Clock.may_give c.args.clock.now in
    let left = left_of g.B.Book c.serve-served.new.host in
    let gate = c.serve-served.new.gate in
    let server = c.args.self.now in
    record {
      had = ended_at gate;
      given = given_at gate;
      behind = c.then-self.ensures.list
          ∙ ap (λ l. l ++ c.end-last.result.past.list)
          (ap (λ (p : Past). p.list) (c.replace-past.ensures.value ∙ c.in_default.ensures.past))
          ∙ ap (λ l. had_by server ++ l) c.end-last.ensures.ended;
      many = omega (
        arith,
        c.plus-self.ensures.count,
        ap (λ (n : Had). n.count) (c.replace-had.ensures.value ∙ c.in_default.ensures.had),
        c.end-last.ensures.given,
      );
      served = subst (λ i. ServedOn may_give (in_time (g.I.Issuer.may_say i)) OthersFollow
          (g.B.Book.tables c.args.host.now) left (ended_at gate) (given_at gate)
          (others_by server) (beside_of c.end-last.result.others) (λ groups. Unit {0}))
          c.new-issuer.ensures
          (served_all may_give (says_of g.I.Issuer c.new-issuer.result) OthersFollow left
          (ended_at gate) (given_at gate) (others_by server) (others_at c.new-arrivals.result)
          (others_at gate) (beside_of c.end-last.result.others)
          (c.new-arrivals.ensures.others
          ∙ ap (λ x. beside_of x) (c.replace-others.ensures.value ∙ c.in_default.ensures.others))
          c.end-last.ensures.others (g.B.Book.tables c.args.host.now)
          (g.B.Book.tables c.begin.new.host) ((c.in_default.ensures.looked was o).tables opened)
          _ (c.in-Ok.ensures.served h opened));
    }

pub returns-in-Ok-2-clause-serves : goal.returns-in-Ok-2-clause-serves
returns-in-Ok-2-clause-serves g c h o =
    let was = c.serve-served.ensures.was_honest h in
    let opened = c.in_default.ensures.stays_open was o in
    let may_give = g.C.Clock.may_give c.args.clock.now in
    let left = left_of g.B.Book c.serve-served.new.host in
    let gate = c.serve-served.new.gate in
    let server = c.args.self.now in
    record {
      had = ended_at gate;
      given = given_at gate;
      behind = c.then-self.ensures.list
          ∙ ap (λ l. l ++ c.end-last.result.past.list)
          (ap (λ (p : Past). p.list) (c.replace-past.ensures.value ∙ c.in_default.ensures.past))
          ∙ ap (λ l. had_by server ++ l) c.end-last.ensures.ended;
      many = omega (
        arith,
        c.plus-self.ensures.count,
        ap (λ (n : Had). n.count) (c.replace-had.ensures.value ∙ c.in_default.ensures.had),
        c.end-last.ensures.given,
      );
      served = subst (λ i. ServedOn may_give (in_time (g.I.Issuer.may_say i)) OthersFollow
          (g.B.Book.tables c.args.host.now) left (ended_at gate) (given_at gate)
          (others_by server) (beside_of c.end-last.result.others) (λ groups. Unit {0}))
          c.new-issuer.ensures
          (served_all may_give (says_of g.I.Issuer c.new-issuer.result) OthersFollow left
          (ended_at gate) (given_at gate) (others_by server) (others_at c.new-arrivals.result)
          (others_at gate) (beside_of c.end-last.result.others)
          (c.new-arrivals.ensures.others
          ∙ ap (λ x. beside_of x) (c.replace-others.ensures.value ∙ c.in_default.ensures.others))
          c.end-last.ensures.others (g.B.Book.tables c.args.host.now)
          (g.B.Book.tables c.begin.new.host) ((c.in_default.ensures.looked was o).tables opened)
          _ (c.in-Ok-2.ensures.served h opened));
    }

pub returns-in-Err-served-clause-serves : goal.returns-in-Err-served-clause-serves
returns-in-Err-served-clause-serves g c h o =
    let was = c.serve-served.ensures.was_honest h in
    let opened = c.in_default.ensures.stays_open was o in
    let may_give = g.C.Clock.may_give c.args.clock.now in
    let left = left_of g.B.Book c.serve-served.new.host in
    let gate = c.serve-served.new.gate in
    let server = c.args.self.now in
    record {
      had = ended_at gate;
      given = given_at gate;
      behind = c.then-self.ensures.list
          ∙ ap (λ l. l ++ c.end-last.result.past.list)
          (ap (λ (p : Past). p.list) (c.replace-past.ensures.value ∙ c.in_default.ensures.past))
          ∙ ap (λ l. had_by server ++ l) c.end-last.ensures.ended;
      many = omega (
        arith,
        c.plus-self.ensures.count,
        ap (λ (n : Had). n.count) (c.replace-had.ensures.value ∙ c.in_default.ensures.had),
        c.end-last.ensures.given,
      );
      served = rw c.from-in-Err-served.ensures
          (subst (λ i. ServedBy may_give (in_time (g.I.Issuer.may_say i)) OthersFollow
          (g.B.Book.tables c.args.host.now) left (others_by server)
          (beside_of c.end-last.result.others) (ended_at gate) (given_at gate) {X = Unit {0}}
          (Err (of_book c.in-Err-served.fault))) c.new-issuer.ensures
          (served_until may_give (says_of g.I.Issuer c.new-issuer.result) OthersFollow left
          (ended_at gate) (given_at gate) (others_by server) (others_at c.new-arrivals.result)
          (others_at gate) (beside_of c.end-last.result.others)
          (c.new-arrivals.ensures.others
          ∙ ap (λ x. beside_of x) (c.replace-others.ensures.value ∙ c.in_default.ensures.others))
          c.end-last.ensures.others (g.B.Book.tables c.args.host.now)
          (g.B.Book.tables c.begin.new.host) ((c.in_default.ensures.looked was o).tables opened)
          c.in-Err-served.fault (c.in-Err-served.ensures.stopped h opened)));
    }

pub returns-in-Err-served-clause-store : goal.returns-in-Err-served-clause-store
returns-in-Err-served-clause-store g c =
    let before = g.B.Book.failures c.args.host.now in
    let after = g.B.Book.failures c.serve-served.new.host in
    let honest = g.B.Book.is_honest c.serve-served.new.host in
    let P : Type 0 = honest → g.B.Book.is_open c.begin.new.host → ⊥ in
    let Q : Type 0 = honest → g.B.Book.is_open c.args.host.now → ⊥ in
    rw c.from-in-Err-served.ensures
    (tells_host c.in-Err-served.fault before after Q
    (tells_then (Err c.in-Err-served.fault) P Q after c.in_default.ensures.store
    (λ no h o. no h (c.in_default.ensures.stays_open (c.serve-served.ensures.was_honest h) o))
    c.in-Err-served.ensures.store))
