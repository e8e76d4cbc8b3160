-- what was taken so far, and one turn more
use Rattle.std.proofs.Common.{◌++◌, ◌∙◌, [], ◌∷◌, true, ap, append_assoc, refl, subst, sym}
use Rattle.std.specs.Vec.Iter.{into_iter_items}
use Rattle.acq_rounds.specs.Said.{told_by_all, turn_in, turns_in}
use Rattle.acq_rounds.specs.Within.{TookWithin}
use Rattle.acq_rounds.proofs.WithinGroups.{next_before, stays_both, stays_none, took_next}
use Rattle.acq_rounds.proofs.WithinGroups.{took_none}
use Rattle.acq_rounds.proofs.taking.take_each.Goals as goal

pub loop-turn-init : goal.loop-turn-init
loop-turn-init g c =
    let book = g.B.Book in
    let may_give = g.C.Clock.may_give c.args.clock.now in
    let may_say = g.I.Issuer.may_say c.args.issuer.now in
    let old = c.args.host.now in
    record {
      so_far = (
        [],
        ap turns_in (sym c.into_iter-turns.ensures.rest),
        λ began n h w. subst (λ l. TookWithin book may_give may_say old old [] (told_by_all l))
            (sym c.new-said.ensures.items) (took_none book may_give may_say old),
      );
      stays = stays_none book old;
      said_later = λ q v h. h;
      given_later = λ m h. h;
      store = refl;
    }

pub loop-turn-preserved : goal.loop-turn-preserved
loop-turn-preserved g c =
    let book = g.B.Book in
    let inv = c.loop-turn.invariant in
    let first = inv.so_far.0 in
    let turn = turn_in c.in-Some.turn in
    let old = c.args.host.now in
    let mid = c.loop-turn.host in
    let new = c.take_next.new.host in
    let next = c.in_ok-take_next.ensures in
    let may_give = g.C.Clock.may_give c.args.clock.now in
    let may_say = g.I.Issuer.may_say c.args.issuer.now in
    record {
      so_far = (
        first ++ turn ∷ [],
        inv.so_far.1 ∙ ap (λ l. first ++ turns_in l) c.in-Some.ensures.items
            ∙ sym (append_assoc first (turn ∷ [])
            (turns_in (into_iter_items c.next.new.self))),
        λ began n h w.
            let was = next.stays.was_honest h in
            took_next book may_give may_say old mid new first turn c.loop-turn.said.items
            c.take_next.new.said.items (inv.so_far.2 began n was w)
            (next_before book (g.C.Clock.may_give c.loop-turn.clock) may_give
            (g.I.Issuer.may_say c.loop-turn.issuer) may_say inv.given_later inv.said_later
            mid new turn c.loop-turn.said.items c.take_next.new.said.items
            (next.took began n h (inv.stays.stays began n refl was w))),
      );
      stays = stays_both book old mid new true inv.stays next.stays;
      said_later = λ q v h. inv.said_later q v (next.said_later q v h);
      given_later = λ m h. inv.given_later m (next.given_later m h);
      store = next.store ∙ inv.store;
    }
