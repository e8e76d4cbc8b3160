use Rattle.std.proofs.Common.{◌≡◌, ◌++◌, ℕ, true, List, length}
use Rattle.std.specs.Vec.Iter.{into_iter_items}
use Rattle.acq_core.specs.declared.query.Query.{Query}
use Rattle.acq_message.specs.declared.verdict.Verdict.{Verdict}
use Rattle.acq_rounds.specs.Acts.{Turn}
use Rattle.acq_rounds.specs.Said.{told_by_all, turns_in}
use Rattle.acq_rounds.specs.Within.{IfWithin, StaysWithin, TookWithin}
use Rattle.acq_rounds.proofs.taking.take_each.Given as goal

-- what was taken so far, and what is left, are all
abbrev pub invariant-loop-turn : goal.invariant-loop-turn
invariant-loop-turn g l = record {
  so_far : (first : List Turn)
      × (turns_in l.fn.turns.items
      ≡ first ++ turns_in (into_iter_items l.turns))
      × IfWithin g.B.Book l.fn.host l.host
      (TookWithin g.B.Book (g.C.Clock.may_give l.fn.clock) (g.I.Issuer.may_say l.fn.issuer)
      l.fn.host l.host first (told_by_all l.said.items));
  stays : StaysWithin g.B.Book l.fn.host l.host true;
  said_later : (q : Query) (v : Verdict) → g.I.Issuer.may_say l.issuer q v
      → g.I.Issuer.may_say l.fn.issuer q v;
  given_later : (m : ℕ) → g.C.Clock.may_give l.clock m → g.C.Clock.may_give l.fn.clock m;
  store : g.B.Book.failures l.host ≡ g.B.Book.failures l.fn.host;
}

abbrev pub decreases-loop-turn : goal.decreases-loop-turn
decreases-loop-turn g l = length (into_iter_items l.turns)
