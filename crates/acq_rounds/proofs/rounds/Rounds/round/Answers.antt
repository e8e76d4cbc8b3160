use Rattle.std.proofs.Common.{◌≡◌, ◌++◌, ◌∙◌, ap, length, map, refl, subst, sym}
use Rattle.std.specs.Vec.{with_items}
use Rattle.acq_host.proofs.Groups.{Laws}
use Rattle.acq_front.specs.Stops.{left_of}
use Rattle.acq_front.proofs.StopsLeave.{none_stop}
use Rattle.acq_rounds.specs.Acts.{told_of}
use Rattle.acq_rounds.specs.Groups.{asked, handed}
use Rattle.acq_rounds.specs.Places.{boxed, count_of, seen_in}
use Rattle.acq_rounds.specs.Runs.{RanUntil, whole}
use Rattle.acq_rounds.specs.Taking.{TookNone}
use Rattle.acq_rounds.proofs.Lasting.{serves_counted}
use Rattle.acq_rounds.proofs.Running.{in_both, in_group, in_quietly, in_same, none_earlier, put_back}
use Rattle.acq_rounds.proofs.Running.{ran_both, ran_quietly, ran_same, ran_until, took_earlier}
use Rattle.acq_rounds.proofs.Together.{on_err, untouched}
use Rattle.acq_rounds.proofs.Turning.{asked_awake, handed_awake}
use Rattle.acq_rounds.proofs.rounds.Rounds.round.Goals as goal

pub returns-in_err-take_in-clause-stopped : goal.returns-in_err-take_in-clause-stopped
returns-in_err-take_in-clause-stopped g c h o =
    let book = g.B.Book in
    let may_give = g.C.Clock.may_give c.args.clock.now in
    let may_say = g.I.Issuer.may_say c.args.issuer.now in
    let follow = g.G.Gate.follow in
    let others = g.G.Gate.others c.args.gate.now in
    let here = seen_in g.L.Line g.T.Talk in
    let count = count_of g.L.Line g.T.Talk in
    let t = book.tables c.args.host.now in
    let old = whole (g.G.Gate.ended c.args.gate.now) (here c.args.self.now)
    (count c.args.self.now) t others in
    let ended = g.G.Gate.ended c.take_in.new.gate in
    let now = here c.take_in.new.self in
    let many = count c.take_in.new.self in
    let in_took = g.G.Gate.others c.take_in.new.gate in
    let laws : Laws book = record {
      honest = g.met.B.Book.honest;
      settled = g.met.B.Book.settled;
      stored = g.met.B.Book.stored;
      past = g.met.B.Book.past;
    } in
    on_err c.from_residual.result
    (RanUntil may_give may_say follow old ended now many (left_of book c.args.host.now) in_took)
    (ran_until may_give may_say follow old ended now in_took many (left_of book c.args.host.now) t
    (ran_quietly may_give may_say follow old (whole ended now many t in_took) refl
    c.in_err-take_in.ensures.gone c.in_err-take_in.ensures.serves
    c.in_err-take_in.ensures.others)
    (untouched book laws may_give may_say c.args.host.now (asked now) o))

pub returns-in_err-take_group-clause-stopped : goal.returns-in_err-take_group-clause-stopped
returns-in_err-take_group-clause-stopped g c h o =
    let book = g.B.Book in
    let may_give = g.C.Clock.may_give c.args.clock.now in
    let may_say = g.I.Issuer.may_say c.args.issuer.now in
    let follow = g.G.Gate.follow in
    let others = g.G.Gate.others c.args.gate.now in
    let here = seen_in g.L.Line g.T.Talk in
    let view = boxed g.L.Line g.T.Talk in
    let t = book.tables c.args.host.now in
    let old = whole (g.G.Gate.ended c.args.gate.now) (here c.args.self.now)
    c.args.self.now.count t others in
    let self = c.take_in.new.self in
    let ended = g.G.Gate.ended c.take_in.new.gate in
    let awake = map view self.awake.items in
    let asleep = map view self.asleep.items in
    let said = g.G.Gate.ended c.take_group.new.gate in
    let items = (with_items self.awake c.take_group.new.places).items in
    let back : items ≡ c.take_group.new.places =
    put_back self.awake.len self.awake.items c.take_group.new.places self.awake.ok.0
    (c.take_group.auto.places ∙ ap length c.as_mut_slice-awake.ensures.value) in
    let same = c.as_mut_slice-awake.ensures.value in
    let is : map view items ≡ awake =
    ap (map view) back ∙ c.in_err-take_group.ensures.kept ∙ ap (map view) same in
    let came = g.G.Gate.others c.take_in.new.gate in
    let behind = g.G.Gate.others c.take_group.new.gate in
    let w1 = whole ended (awake ++ asleep) self.count t came in
    let w2 = whole said (map view items ++ asleep) self.count t behind in
    let left = left_of book c.take_group.new.host in
    on_err c.from_residual-in_err-take_group.result
    (RanUntil may_give may_say follow old said (map view items ++ asleep) self.count left behind)
    (ran_until may_give may_say follow old said (map view items ++ asleep) behind self.count left t
    (ran_both may_give may_say follow old w1 w2
    (ran_quietly may_give may_say follow old w1 refl
    c.in_ok-take_in.ensures.gone c.in_ok-take_in.ensures.serves c.in_ok-take_in.ensures.others)
    (ran_same may_give may_say follow w1 w2 refl c.in_err-take_group.ensures.ended
    (ap (λ l. l ++ asleep) is) refl c.in_err-take_group.ensures.others))
    (subst (TookNone may_give may_say t left)
    (ap (λ l. asked (map view l)) same ∙ ap asked (sym is)
    ∙ sym (asked_awake (map view items) asleep
    (c.in_ok-take_in.ensures.quiet c.requires.quiet)))
    (none_earlier may_give may_give (g.I.Issuer.may_say c.take_in.new.issuer) may_say (λ m q. q)
    c.in_ok-take_in.ensures.said_later t left (asked (map view c.as_mut_slice-awake.result.now))
    (c.in_err-take_group.ensures.refused h o))))

pub returns-clause-ran : goal.returns-clause-ran
returns-clause-ran g c h o =
    let book = g.B.Book in
    let may_give = g.C.Clock.may_give c.args.clock.now in
    let may_say = g.I.Issuer.may_say c.args.issuer.now in
    let follow = g.G.Gate.follow in
    let others = g.G.Gate.others c.args.gate.now in
    let here = seen_in g.L.Line g.T.Talk in
    let view = boxed g.L.Line g.T.Talk in
    let t = book.tables c.args.host.now in
    let now = book.tables c.take_group.new.host in
    let old = whole (g.G.Gate.ended c.args.gate.now) (here c.args.self.now)
    c.args.self.now.count t others in
    let self = c.take_in.new.self in
    let ended = g.G.Gate.ended c.take_in.new.gate in
    let awake = map view self.awake.items in
    let asleep = map view self.asleep.items in
    let quiet = c.in_ok-take_in.ensures.quiet c.requires.quiet in
    let said = g.G.Gate.ended c.take_group.new.gate in
    let items = (with_items self.awake c.take_group.new.places).items in
    let back : items ≡ c.take_group.new.places =
    put_back self.awake.len self.awake.items c.take_group.new.places self.awake.ok.0
    (c.take_group.auto.places ∙ ap length c.as_mut_slice-awake.ensures.value) in
    let same = c.as_mut_slice-awake.ensures.value in
    let group = c.in_ok-take_group.ensures.took h o in
    let came = g.G.Gate.others c.take_in.new.gate in
    let behind = g.G.Gate.others c.take_group.new.gate in
    let w1 = whole ended (awake ++ asleep) self.count t came in
    let wg = whole ended (map view items ++ asleep) self.count now came in
    let w2 = whole said (map view items ++ asleep) self.count now behind in
    let w3 = whole (g.G.Gate.ended c.send_out.new.gate) (here c.send_out.new.self)
    c.send_out.new.self.count now (g.G.Gate.others c.send_out.new.gate) in
    let ran = in_both may_give may_say follow 0 1 old w1 w3
    (in_quietly may_give may_say follow old w1 refl
    c.in_ok-take_in.ensures.gone c.in_ok-take_in.ensures.serves c.in_ok-take_in.ensures.others)
    (in_both may_give may_say follow 1 0 w1 wg w3
    (in_group may_give may_say follow ended (awake ++ asleep) (map view items ++ asleep) came
    self.count t now group.taken
    (λ t steps next. g.G.Gate.past_group t steps next came)
    (group.brought ∙ ap (λ l. asked (map view l)) same ∙ sym (asked_awake awake asleep quiet))
    (ap (λ l. l ++ asleep) (ap (map view) back ∙ group.held
    ∙ ap (λ l. handed (map view l) (told_of group.taken)) same)
    ∙ sym (handed_awake awake asleep (told_of group.taken) quiet))
    (took_earlier may_give may_give (g.I.Issuer.may_say c.take_in.new.issuer) may_say (λ m q. q)
    c.in_ok-take_in.ensures.said_later t now group.taken group.took))
    (in_both may_give may_say follow 0 0 wg w2 w3
    (in_same may_give may_say follow wg w2 refl c.in_ok-take_group.ensures.ended refl refl
    c.in_ok-take_group.ensures.others)
    (in_quietly may_give may_say follow w2 w3 refl c.send_out.ensures.gone
    (λ acts s. serves_counted acts (g.G.Gate.ended c.send_out.new.gate)
    (here c.send_out.new.self) self.count c.send_out.new.self.count c.send_out.ensures.count
    (c.send_out.ensures.serves acts self.count s)) c.send_out.ensures.others))) in
    record {
      ran = ran.ran;
      told = ran.told;
      long = ran.long;
      stop = none_stop book g.met.B.Book.settled g.met.B.Book.stored c.take_group.new.host
          (c.in_ok-take_group.ensures.stays_open h o);
    }
