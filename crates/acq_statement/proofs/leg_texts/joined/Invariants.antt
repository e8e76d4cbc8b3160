-- the texts so far, and those that are left
use Rattle.std.proofs.Common.{◌≡◌, ◌++◌, drop, flat_map}
use Rattle.acq_statement.proofs.leg_texts.joined.Given as goal

abbrev pub invariant-loop-part : goal.invariant-loop-part
invariant-loop-part l =
    l.text.items ++ flat_map (λ part. part.now) (drop l.part-index l.texts)
    ≡ flat_map (λ part. part.now) l.texts
