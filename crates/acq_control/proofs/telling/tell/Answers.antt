use Rattle.std.proofs.Common.{◌≡◌, ◌++◌, ◌∷◌, ◌∙◌, [], Ok, Some, refl, sym}
use Rattle.std.proofs.Common.{arith, append-nil, false, rules, true≢false}
use Rattle.std.proofs.lemmas.Result.{err_from_is_err_and}
use Rattle.acq_front.proofs.StreamRead.{consumes_append, consumes_none}
use Rattle.acq_control.specs.Telling.{joined}
use Rattle.acq_control.proofs.Talks.{answered_more, line_came, none_answered, none_came, not_over}
use Rattle.acq_control.proofs.Talks.{nothing_said, passed_more, quiet_talk, refused_more}
use Rattle.acq_control.proofs.Talks.{stops_within}
use Rattle.acq_control.proofs.telling.tell.Goals as goal

pub loop-held-init : goal.loop-held-init
loop-held-init g c = (
  (
    [],
    nothing_said,
    [],
    [],
    sym (append-nil _),
    sym (append-nil _),
    sym (append-nil _),
    sym (append-nil _),
    sym (append-nil _),
    none_answered c.new-held.result.items c.new-held.ensures.items,
    none_came c.new-coming.result.buffer c.new-coming.result.ended c.new-coming.ensures.held,
    refl,
    consumes_none _,
  ),
  (λ over. absurd (true≢false (sym over ∙ c.new-coming.ensures.ended))),
  refl,
  refl,
)

pub loop-held-preserved : goal.loop-held-preserved
loop-held-preserved g c =
    let i = c.loop-held.invariant.0 in
    let came = rw c.in-Some.is at c.in_ok-line.ensures.came in
    let is : c.take_next.result ≡ Ok (Some c.in-Some.line) = search rules in
    let first = not_over i.0 c.loop-held.coming.buffer i.2 c.loop-held.coming.ended
    c.take_next.result (Ok (Some c.in-Some.line)) c.take_next.ensures.over is (λ e. cc) i.10 in
    let turn = c.in_ok-refused.ensures.turn in
    let line = came.2.0 in
    let taken = turn.5 line came.2.1 in (
      (
        i.0 ++ came.0,
        joined i.1 turn.0,
        i.2 ++ line ∷ [],
        i.3 ++ taken.0 ∷ [],
        passed_more _ _ _ i.0 came.0 i.4 came.1,
        passed_more _ _ _ i.1.sent turn.0.sent i.5 turn.1,
        passed_more _ _ _ i.1.came turn.0.came i.6 turn.2,
        passed_more _ _ _ i.1.shown turn.0.shown i.7 turn.3,
        passed_more _ _ _ i.1.told turn.0.told i.8 turn.4,
        answered_more i.1 turn.0 i.2 i.3 c.loop-held.held.items line c.ask.new.held.items taken.0
            i.9 taken.1,
        line_came i.0 c.loop-held.coming.buffer came.0 i.2 first line c.take_next.new.self.buffer
            c.take_next.new.self.ended came.2.2,
        refused_more i.3 taken.0 c.loop-held.refused c.in_ok-refused.field-0 i.11 taken.2,
        consumes_append _ _ _ i.0 came.0 i.12 came.3,
      ),
      (λ over. c.in_ok-line.ensures.end over c.loop-held.invariant.1),
      omega (
        arith,
        c.in_ok-refused.ensures.reads,
        c.in_ok-line.ensures.reads,
        c.loop-held.invariant.2,
      ),
      omega (arith, c.in_ok-refused.ensures.writes, c.loop-held.invariant.3),
    )

pub returns-in_err-refused-clause-tells : goal.returns-in_err-refused-clause-tells
returns-in_err-refused-clause-tells g c =
    let i = c.loop-held.invariant.0 in
    let came = rw c.in-Some.is at c.in_ok-line.ensures.came in
    let is : c.take_next.result ≡ Ok (Some c.in-Some.line) = search rules in
    let first = not_over i.0 c.loop-held.coming.buffer i.2 c.loop-held.coming.ended
    c.take_next.result (Ok (Some c.in-Some.line)) c.take_next.ensures.over is (λ e. cc) i.10 in
    let p = err_from_is_err_and c.from_residual-in_err-refused.result
    c.from_residual-in_err-refused.ensures.1 in
    let turn = c.in_err-refused.ensures.turn in
    let why = turn.5 came.2.0 came.2.1 in (
      i.0 ++ came.0,
      joined i.1 turn.0,
      passed_more _ _ _ i.0 came.0 i.4 came.1,
      passed_more _ _ _ i.1.sent turn.0.sent i.5 turn.1,
      passed_more _ _ _ i.1.came turn.0.came i.6 turn.2,
      passed_more _ _ _ i.1.shown turn.0.shown i.7 turn.3,
      passed_more _ _ _ i.1.told turn.0.told i.8 turn.4,
      rw (p.1, p.2) (stops_within i.0 c.loop-held.coming.buffer came.0 i.2 first i.1 turn.0 i.3
          c.loop-held.held.items came.2.0 c.take_next.new.self.buffer c.take_next.new.self.ended
          c.in_err-refused.field-0.0 i.9 came.2.2 why),
    )

pub returns-in_default-clause-quiet : goal.returns-in_default-clause-quiet
returns-in_default-clause-quiet g c =
    let i = c.loop-held.invariant.0 in
    λ quiet.
    let none : c.loop-held.refused ≡ false = cc in
    quiet_talk (g.F.Sink.sent c.args.faults.now) _ i.1 i.2 i.3 c.loop-held.held.items
    c.loop-held.refused i.8 i.9 i.11 none
