use Rattle.std.proofs.Common.{◌≡◌, ◌+◌, ◌<◌, ◌≤◌, ◌∙◌, ℕ, ap, arith, inl, inr, refl, sym}
use Rattle.acq_front.specs.Stops.{left_of}
use Rattle.acq_front.proofs.StopsLeave.{none_stop}
use Rattle.acq_rounds.specs.Places.{count_of, seen_in}
use Rattle.acq_rounds.specs.Runs.{RanUntil, groups_in, whole}
use Rattle.acq_rounds.proofs.Running.{begins_same, in_between, in_both, in_earlier, in_quietly}
use Rattle.acq_rounds.proofs.Running.{in_same, ran_between, ran_both, ran_same, until_behind}
use Rattle.acq_rounds.proofs.Running.{until_between}
use Rattle.acq_rounds.proofs.Together.{on_err}
use Rattle.acq_rounds.proofs.rounds.Rounds.serve_all.Goals as goal

gave : (a b c x y z : ℕ) → b + x ≡ a + y → c + y ≡ b + z → c + x ≡ a + z
gave a b c x y z e f = omega (arith, e, f)

pub loop-init : goal.loop-init
loop-init g c =
    let book = g.B.Book in
    let w = whole (g.G.Gate.ended c.args.gate.now) (seen_in g.L.Line g.T.Talk c.args.self.now)
    (count_of g.L.Line g.T.Talk c.args.self.now) (book.tables c.args.host.now)
    (g.G.Gate.others c.args.gate.now) in
    record {
      quiet = c.requires.quiet;
      was_honest = λ h. h;
      stays_open = λ h o. o;
      ran = λ h o. in_quietly (g.C.Clock.may_give c.args.clock.now)
          (g.I.Issuer.may_say c.args.issuer.now) g.G.Gate.follow w w refl (begins_same _ _ refl)
          (λ acts s. s) refl;
      given = refl;
      said_later = λ q v h. h;
      given_later = λ m h. h;
      store = refl;
    }

pub loop-preserved : goal.loop-preserved
loop-preserved g c =
    let book = g.B.Book in
    let here = seen_in g.L.Line g.T.Talk in
    let count = count_of g.L.Line g.T.Talk in
    let ended = g.G.Gate.ended in
    let others = g.G.Gate.others in
    let follow = g.G.Gate.follow in
    let inv = c.loop.invariant in
    let other = c.in_ok-between.ensures in
    let next = c.in_ok-round.ensures in
    let may_give = g.C.Clock.may_give c.args.clock.now in
    let may_say = g.I.Issuer.may_say c.args.issuer.now in
    let w0 = whole (ended c.args.gate.now) (here c.args.self.now) (count c.args.self.now)
    (book.tables c.args.host.now) (others c.args.gate.now) in
    let w1 = whole (ended c.loop.gate) (here c.loop.self) (count c.loop.self)
    (book.tables c.loop.host) (others c.loop.gate) in
    let mid = whole (ended c.wait.new.self) (here c.loop.self) (count c.loop.self)
    (book.tables c.loop.host) (others c.wait.new.self) in
    let behind = whole (ended c.between.new.self) (here c.loop.self) (count c.loop.self)
    (book.tables c.between.new.host) (others c.between.new.self) in
    let w2 = whole (ended c.round.new.gate) (here c.round.new.self) (count c.round.new.self)
    (book.tables c.round.new.host) (others c.round.new.gate) in
    record {
      quiet = next.still_quiet;
      was_honest = λ h. inv.was_honest (other.was_honest (next.was_honest h));
      stays_open = λ h o.
          let was = next.was_honest h in
          next.stays_open h (other.stays_open was (inv.stays_open (other.was_honest was) o));
      ran = λ h o.
          let was = next.was_honest h in
          let opened = inv.stays_open (other.was_honest was) o in
          let some = other.reaches was opened in
          let more = next.ran h (other.stays_open was opened) in
          in_both may_give may_say follow c.loop.counter 1 w0 w1 w2
          (inv.ran (other.was_honest was) o)
          (in_both may_give may_say follow 0 1 w1 mid w2
          (in_same may_give may_say follow w1 mid refl c.wait.ensures.ended refl refl
          c.wait.ensures.others)
          (in_both may_give may_say follow 0 1 mid behind w2
          (in_between may_give may_say follow (ended c.wait.new.self) (ended c.between.new.self)
          (here c.loop.self) (others c.wait.new.self) (others c.between.new.self)
          (count c.loop.self) (book.tables c.loop.host)
          (book.tables c.between.new.host) some.events other.ended some.tables some.are_such)
          (in_earlier (g.C.Clock.may_give c.between.new.clock) may_give
          (g.I.Issuer.may_say c.loop.issuer) may_say
          (λ m q. inv.given_later m (other.given_later m q)) inv.said_later follow 1 behind w2
          (record { ran = more.ran; long = more.long; told = more.told }))));
      given = gave (count c.args.self.now) (count c.loop.self) (count c.round.new.self)
          (g.G.Gate.given c.args.gate.now) (g.G.Gate.given c.between.new.self)
          (g.G.Gate.given c.round.new.gate)
          (inv.given ∙ ap (λ n. count c.args.self.now + n)
          (sym (other.given ∙ c.wait.ensures.given))) next.given;
      said_later = λ q v h. inv.said_later q v (next.said_later q v h);
      given_later = λ m h. inv.given_later m (other.given_later m (next.given_later m h));
      store = next.store ∙ other.store ∙ inv.store;
    }

pub returns-in_err-between-clause-stopped : goal.returns-in_err-between-clause-stopped
returns-in_err-between-clause-stopped g c h o =
    let book = g.B.Book in
    let here = seen_in g.L.Line g.T.Talk in
    let count = count_of g.L.Line g.T.Talk in
    let ended = g.G.Gate.ended in
    let others = g.G.Gate.others in
    let follow = g.G.Gate.follow in
    let inv = c.loop.invariant in
    let other = c.in_err-between.ensures in
    let was = other.was_honest h in
    let may_give = g.C.Clock.may_give c.args.clock.now in
    let may_say = g.I.Issuer.may_say c.args.issuer.now in
    let left = left_of book c.between.new.host in
    let t = book.tables c.loop.host in
    let w0 = whole (ended c.args.gate.now) (here c.args.self.now) (count c.args.self.now)
    (book.tables c.args.host.now) (others c.args.gate.now) in
    let w1 = whole (ended c.loop.gate) (here c.loop.self) (count c.loop.self) t
    (others c.loop.gate) in
    let mid = whole (ended c.wait.new.self) (here c.loop.self) (count c.loop.self) t
    (others c.wait.new.self) in
    on_err c.from_residual.result
    (RanUntil may_give may_say follow w0 (ended c.between.new.self) (here c.loop.self)
    (count c.loop.self) left (others c.between.new.self))
    (until_between may_give may_say follow w0 (ended c.wait.new.self) (ended c.between.new.self)
    (here c.loop.self) (others c.wait.new.self) (others c.between.new.self) (count c.loop.self)
    left t
    (ran_both may_give may_say follow w0 w1 mid (inv.ran was o).ran
    (ran_same may_give may_say follow w1 mid refl c.wait.ensures.ended refl refl
    c.wait.ensures.others))
    other.ended (λ u steps events. g.G.Gate.past_untold u steps events (others c.between.new.self))
    (other.reaches h (inv.stays_open was o)))

pub returns-in_err-round-clause-stopped : goal.returns-in_err-round-clause-stopped
returns-in_err-round-clause-stopped g c h o =
    let book = g.B.Book in
    let here = seen_in g.L.Line g.T.Talk in
    let count = count_of g.L.Line g.T.Talk in
    let ended = g.G.Gate.ended in
    let others = g.G.Gate.others in
    let follow = g.G.Gate.follow in
    let inv = c.loop.invariant in
    let other = c.in_ok-between.ensures in
    let next = c.in_err-round.ensures in
    let was = next.was_honest h in
    let opened = inv.stays_open (other.was_honest was) o in
    let some = other.reaches was opened in
    let may_give = g.C.Clock.may_give c.args.clock.now in
    let may_say = g.I.Issuer.may_say c.args.issuer.now in
    let left = left_of book c.round.new.host in
    let t = book.tables c.loop.host in
    let w0 = whole (ended c.args.gate.now) (here c.args.self.now) (count c.args.self.now)
    (book.tables c.args.host.now) (others c.args.gate.now) in
    let w1 = whole (ended c.loop.gate) (here c.loop.self) (count c.loop.self) t
    (others c.loop.gate) in
    let mid = whole (ended c.wait.new.self) (here c.loop.self) (count c.loop.self) t
    (others c.wait.new.self) in
    let behind = whole (ended c.between.new.self) (here c.loop.self) (count c.loop.self)
    (book.tables c.between.new.host) (others c.between.new.self) in
    on_err c.from_residual-in_err-round.result
    (RanUntil may_give may_say follow w0 (ended c.round.new.gate) (here c.round.new.self)
    (count c.round.new.self) left (others c.round.new.gate))
    (until_behind (g.C.Clock.may_give c.between.new.clock) (g.I.Issuer.may_say c.loop.issuer)
    follow may_give may_say (λ m q. inv.given_later m (other.given_later m q)) inv.said_later w0
    behind (ended c.round.new.gate) (here c.round.new.self) (others c.round.new.gate)
    (count c.round.new.self) left
    (ran_both may_give may_say follow w0 w1 behind (inv.ran (other.was_honest was) o).ran
    (ran_both may_give may_say follow w1 mid behind
    (ran_same may_give may_say follow w1 mid refl c.wait.ensures.ended refl refl
    c.wait.ensures.others)
    (ran_between may_give may_say follow (ended c.wait.new.self) (ended c.between.new.self)
    (here c.loop.self) (others c.wait.new.self) (others c.between.new.self) (count c.loop.self) t
    (book.tables c.between.new.host) some.events other.ended some.tables some.are_such)))
    (next.stopped h (other.stays_open was opened)))

at_end : (n k rounds : ℕ) → n ≡ k → k ≤ rounds → rounds ≤ k → n ≡ rounds
at_end n k rounds e l m = omega (arith, e, l, m)

pub returns-clause-ran : goal.returns-clause-ran
returns-clause-ran g c h o =
    let inv = c.loop.invariant in
    let ran = inv.ran h o in
    record {
      ran = ran.ran;
      told = ran.told;
      long = inl (at_end (groups_in ran.ran.steps) c.loop.counter c.args.rounds ran.long
          c.loop.auto.counter-end c.loop-test.false);
      stop = none_stop g.B.Book g.met.B.Book.settled g.met.B.Book.stored c.loop.host
          (inv.stays_open h o);
    }

so_far : (n k rounds : ℕ) → n ≡ k + 0 → k < rounds → n ≤ rounds
so_far n k rounds e l = omega (arith, e, l)

pub returns-then-not-wait-clause-ran : goal.returns-then-not-wait-clause-ran
returns-then-not-wait-clause-ran g c h o =
    let book = g.B.Book in
    let here = seen_in g.L.Line g.T.Talk in
    let count = count_of g.L.Line g.T.Talk in
    let ended = g.G.Gate.ended in
    let others = g.G.Gate.others in
    let follow = g.G.Gate.follow in
    let inv = c.loop.invariant in
    let may_give = g.C.Clock.may_give c.args.clock.now in
    let may_say = g.I.Issuer.may_say c.args.issuer.now in
    let w0 = whole (ended c.args.gate.now) (here c.args.self.now) (count c.args.self.now)
    (book.tables c.args.host.now) (others c.args.gate.now) in
    let w1 = whole (ended c.loop.gate) (here c.loop.self) (count c.loop.self)
    (book.tables c.loop.host) (others c.loop.gate) in
    let mid = whole (ended c.wait.new.self) (here c.loop.self) (count c.loop.self)
    (book.tables c.loop.host) (others c.wait.new.self) in
    let ran = in_both may_give may_say follow c.loop.counter 0 w0 w1 mid (inv.ran h o)
    (in_same may_give may_say follow w1 mid refl c.wait.ensures.ended refl refl
    c.wait.ensures.others) in
    record {
      ran = ran.ran;
      told = ran.told;
      long = inr (
        c.if-not-wait.ensures.stopped,
        so_far (groups_in ran.ran.steps) c.loop.counter c.args.rounds ran.long c.loop-test.true,
      );
      stop = none_stop book g.met.B.Book.settled g.met.B.Book.stored c.loop.host
          (inv.stays_open h o);
    }
