use Rattle.std.proofs.Common.{◌≡◌, ◌∙◌, ◌+◌, ◌<◌, Option, None, Some, ap, arith, false, length, refl}
use Rattle.std.proofs.Common.{subst, sym, true≢false}
use Rattle.std.specs.Option.{is_some}
use Rattle.std.proofs.lemmas.List.{get_or-map, length-map, map-set}
use Rattle.acq_front.specs.Lines.{received_of, sent_of}
use Rattle.acq_controls.specs.Aside.{aside_of, seen, seen_in}
use Rattle.acq_controls.specs.Following.{Stays}
use Rattle.acq_controls.specs.declared.control.Control.{Control}
use Rattle.acq_controls.proofs.Rounds.{comes}
use Rattle.acq_controls.proofs.controls.Controls.admit.Goals as goal

none_of : {X : Type 0} (x : Option X) → false ≡ is_some x → x ≡ None
none_of None e = refl
none_of (Some x) e = absurd (true≢false (sym e))

pub returns : goal.returns
returns g c =
    let was = c.args.self.now in
    let control : Control g.row.S.Denot =
    record { number = was.count; exchange = c.new-2.result } in
    let items = was.places.items in
    let i = c.args.place in
    let within : i < length items = omega (
      arith,
      c.if-place-len.false,
      c.len.ensures,
      was.places.ok.0,
    ) in
    let free = get_or-map seen_in items i _ None within
    ∙ ap seen_in (sym c.index.ensures ∙ none_of c.index.result.now c.if-is_some.ensures) in
    let come = comes (aside_of was) i (seen control)
    (omega (arith, within, length-map items seen_in)) free refl
    (ap received_of c.new-2.ensures.line ∙ c.new.ensures.received) c.new-2.ensures.held
    (ap sent_of c.new-2.ensures.line ∙ c.new.ensures.sent) c.new-2.ensures.unsent
    c.new-2.ensures.unmade c.new-2.ensures.taken in
    record {
      stays = subst (λ places. Stays (aside_of was)
          (record { count = was.count + 1; ended = was.past.list; here = places }))
          (sym (map-set seen_in was.places.items c.args.place (Some control))) come;
    }
