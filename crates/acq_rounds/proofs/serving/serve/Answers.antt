use Rattle.std.proofs.Common.{◌+◌, ◌∙◌, ap, subst, subst₂, sym}
use Rattle.acq_front.specs.Stops.{left_of}
use Rattle.acq_rounds.specs.Places.{count_of, seen_in}
use Rattle.acq_rounds.specs.Runs.{IsLast, RanOn, RanUntil, ServedOn, ServedUntil, whole}
use Rattle.acq_rounds.proofs.Lasting.{serves_at_first}
use Rattle.acq_rounds.proofs.Served.{on_err_both, on_ok_both, served_on, served_until}
use Rattle.acq_rounds.proofs.serving.serve.Goals as goal

pub returns-clause-served : goal.returns-clause-served
returns-clause-served g c h o =
    let book = g.B.Book in
    let here = seen_in g.L.Line g.T.Talk in
    let count = count_of g.L.Line g.T.Talk in
    let ended = g.G.Gate.ended in
    let others = g.G.Gate.others in
    let follow = g.G.Gate.follow in
    let served = c.new-served.result in
    let run = c.serve_all-result in
    let may_give = g.C.Clock.may_give c.args.clock.now in
    let may_say = g.I.Issuer.may_say c.args.issuer.now in
    let old = book.tables c.args.host.now in
    let left = left_of book run.new.host in
    let first = serves_at_first (ended c.args.gate.now) (here served) (count served)
    c.requires.none_ended c.new-served.ensures.here c.new-served.ensures.count in
    on_ok_both run.result
    (RanOn may_give may_say follow
    (whole (ended c.args.gate.now) (here served) (count served) old (others c.args.gate.now))
    (ended run.new.gate) (here run.new.self) (count run.new.self) left (others run.new.gate)
    (IsLast c.args.rounds (g.G.Gate.has_stopped run.new.gate)))
    (ServedOn may_give may_say follow old left (ended c.part_all.new.gate)
    (g.G.Gate.given c.part_all.new.gate) (others c.args.gate.now) (others c.part_all.new.gate)
    (IsLast c.args.rounds (g.G.Gate.has_stopped c.part_all.new.gate)))
    (λ ran. served_on may_give may_say follow (ended c.args.gate.now) (here served)
    (ended run.new.gate) (here run.new.self) (ended c.part_all.new.gate) (others c.args.gate.now)
    (others c.part_all.new.gate) (count served) (count run.new.self)
    (g.G.Gate.given c.args.gate.now) (g.G.Gate.given c.part_all.new.gate) old first
    c.new-served.ensures.count c.requires.none_given
    (run.ensures.given ∙ ap (λ n. count served + n) (sym c.part_all.ensures.given))
    c.part_all.ensures.ended c.part_all.ensures.serves left
    (IsLast c.args.rounds (g.G.Gate.has_stopped c.part_all.new.gate))
    (subst₂ (λ os stopped. RanOn may_give may_say follow
    (whole (ended c.args.gate.now) (here served) (count served) old (others c.args.gate.now))
    (ended run.new.gate) (here run.new.self) (count run.new.self) left os
    (IsLast c.args.rounds stopped))
    (sym c.part_all.ensures.others) (sym c.part_all.ensures.stopped) ran))
    (run.ensures.ran h o)

pub returns-clause-stopped : goal.returns-clause-stopped
returns-clause-stopped g c h o =
    let book = g.B.Book in
    let here = seen_in g.L.Line g.T.Talk in
    let count = count_of g.L.Line g.T.Talk in
    let ended = g.G.Gate.ended in
    let others = g.G.Gate.others in
    let follow = g.G.Gate.follow in
    let served = c.new-served.result in
    let run = c.serve_all-result in
    let may_give = g.C.Clock.may_give c.args.clock.now in
    let may_say = g.I.Issuer.may_say c.args.issuer.now in
    let old = book.tables c.args.host.now in
    let left = left_of book run.new.host in
    let first = serves_at_first (ended c.args.gate.now) (here served) (count served)
    c.requires.none_ended c.new-served.ensures.here c.new-served.ensures.count in
    on_err_both run.result
    (RanUntil may_give may_say follow
    (whole (ended c.args.gate.now) (here served) (count served) old (others c.args.gate.now))
    (ended run.new.gate) (here run.new.self) (count run.new.self) left (others run.new.gate))
    (ServedUntil may_give may_say follow old left (ended c.part_all.new.gate)
    (g.G.Gate.given c.part_all.new.gate) (others c.args.gate.now) (others c.part_all.new.gate))
    (λ ran. served_until may_give may_say follow (ended c.args.gate.now) (here served)
    (ended run.new.gate) (here run.new.self) (ended c.part_all.new.gate) (others c.args.gate.now)
    (others c.part_all.new.gate) (count served) (count run.new.self)
    (g.G.Gate.given c.args.gate.now) (g.G.Gate.given c.part_all.new.gate) old first
    c.new-served.ensures.count c.requires.none_given
    (run.ensures.given ∙ ap (λ n. count served + n) (sym c.part_all.ensures.given))
    c.part_all.ensures.ended c.part_all.ensures.serves left
    (subst (RanUntil may_give may_say follow
    (whole (ended c.args.gate.now) (here served) (count served) old (others c.args.gate.now))
    (ended run.new.gate) (here run.new.self) (count run.new.self) left)
    (sym c.part_all.ensures.others) ran))
    (run.ensures.stopped h o)
