-- The words of a line.
use Rattle.std.proofs.Common.{◌≡◌, ◌++◌, ◌∷◌, ℕ, List, refl}
use Rattle.acq_proxy.specs.Lines.{space}

-- a line of six words, each behind the one before
pub six_words : (line first second third fourth fifth sixth : List ℕ)
    (behind_first behind_second behind_third behind_fourth : List ℕ) →
    line ≡ first ++ space ∷ behind_first → behind_first ≡ second ++ space ∷ behind_second →
    behind_second ≡ third ++ space ∷ behind_third →
    behind_third ≡ fourth ++ space ∷ behind_fourth →
    behind_fourth ≡ fifth ++ space ∷ sixth →
    line ≡ first ++ space ∷ (second ++ space ∷ (third ++ space ∷ (fourth ++ space ∷ (fifth
    ++ space ∷ sixth))))
six_words line first second third fourth fifth sixth b1 b2 b3 b4 e1 e2 e3 e4 e5 =
    rw (e1, e2, e3, e4, e5) refl
