use Rattle.std.proofs.Common.{◌≡◌, List, drop, map, Bor, ℕ}
use Rattle.acq_page.specs.Figures.{first_behind}
use Rattle.acq_page.proofs.figures.first_behind.Given as goal

-- the first line that begins so is the first of those that are left
abbrev pub invariant-loop-line : goal.invariant-loop-line
invariant-loop-line l =
    first_behind l.beginning (map {A = Bor (List ℕ)} {B = List ℕ} (λ line. line.now) l.lines)
    ≡ first_behind l.beginning
    (map {A = Bor (List ℕ)} {B = List ℕ} (λ line. line.now) (drop l.line-index l.lines))
