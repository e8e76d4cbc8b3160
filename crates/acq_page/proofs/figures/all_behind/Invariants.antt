use Rattle.std.proofs.Common.{◌≡◌, ◌++◌, List, drop, map, Bor, ℕ}
use Rattle.acq_page.specs.Figures.{all_behind}
use Rattle.acq_page.proofs.figures.all_behind.Given as goal

-- what was found, and what the lines have that are left
abbrev pub invariant-loop-line : goal.invariant-loop-line
invariant-loop-line l =
    all_behind l.beginning (map {A = Bor (List ℕ)} {B = List ℕ} (λ line. line.now) l.lines)
    ≡ map {A = Bor (List ℕ)} {B = List ℕ} (λ rest. rest.now) l.found.items
    ++ all_behind l.beginning
    (map {A = Bor (List ℕ)} {B = List ℕ} (λ line. line.now) (drop l.line-index l.lines))
