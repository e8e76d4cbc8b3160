use Rattle.std.proofs.Common.{◌≡◌, ◌++◌, ◌+◌, take, ap, arith, rules, ◌∙◌}
use Rattle.acq_link.proofs.WholeTransfers.{ReadAll-more, grows_by, grows_anyway, counts_error}
use Rattle.acq_link.proofs.transfer.read_to_end.Goals as goal

pub returns-in-Err-clause-grows : goal.returns-in-Err-clause-grows
returns-in-Err-clause-grows g c =
    (c.loop.all.items, c.in-Err.ensures.received ∙ c.loop.invariant.0.received)

pub returns-then-n-eq0-clause-grows : goal.returns-then-n-eq0-clause-grows
returns-then-n-eq0-clause-grows g c =
    grows_by _ _ _ _ _ c.loop.invariant.0.received c.in-Ok.ensures.received

pub returns-then-is_err-clause-grows : goal.returns-then-is_err-clause-grows
returns-then-is_err-clause-grows g c =
    grows_by _ _ _ _ _ c.loop.invariant.0.received c.in-Ok.ensures.received

pub loop-preserved : goal.loop-preserved
loop-preserved g c =
    let grown : c.extend_from_slice.new.self.items ≡ c.loop.all.items
    ++ take c.in-Ok.n c.read.new.buffer =
    search rules in (
      ReadAll-more _ _ _ _ _ _ _ _ _ _ _ _ c.loop.invariant.0 c.in-Ok.ensures.received
          c.in-Ok.ensures.remaining.0 c.in-Ok.ensures.failures grown,
      omega (arith, c.in-Ok.ensures.reads_left, c.loop.invariant.1, c.loop-test.true),
    )

pub returns-clause-grows : goal.returns-clause-grows
returns-clause-grows g c =
    grows_anyway _ _ _ _ _ c.read-2.result c.loop.invariant.0.received c.read-2.ensures.received

pub returns-clause-read : goal.returns-clause-read
returns-clause-read g c =
    λ _. counts_error _ _ c.read-2.result (c.read-2.ensures.spent (omega (
      arith,
      c.loop.invariant.1,
      c.loop-test.false,
      c.loop.auto.counter-end,
    ))) c.read-2.ensures.failures
    ∙ ap (λ n. n + 1) c.loop.invariant.0.failures
