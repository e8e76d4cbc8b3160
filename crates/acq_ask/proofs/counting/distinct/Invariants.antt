use Rattle.std.proofs.Common.{◌≡◌, [], take}
use Rattle.std.specs.List.{fold}
use Rattle.acq_ask.specs.Codes.{with_code}
use Rattle.acq_ask.proofs.counting.distinct.Given as goal

-- the codes so far are found
abbrev pub invariant-loop-code : goal.invariant-loop-code
invariant-loop-code l = l.found.items ≡ fold with_code [] (take l.code-index l.codes)
