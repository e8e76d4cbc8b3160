-- A text that is padded with zeros at its front.
use Rattle.std.proofs.Common.{◌≡◌, ℕ, zero, suc, ◌==◌, ◌≤◌, Bool, true, false, ◌&&◌, List, [], ◌∷◌}
use Rattle.std.proofs.Common.{◌++◌, length, take, drop, replicate, refl, ap, ◌∙◌, arith}
use Rattle.std.specs.List.{list_all}
use Rattle.std.specs.Str.{bytes_eq}

and_assoc : (a b c : Bool) → (a && b && c) ≡ (a && (b && c))
and_assoc true b c = refl
and_assoc false b c = refl

-- its front is zeros and its rest the other text, exactly where it is that text with zeros before
-- it
pub zeros_before : (text : List ℕ) (n : ℕ) (rest : List ℕ) → n ≤ length text →
    (list_all (λ b. b == 48) (take n text) && bytes_eq (drop n text) rest)
    ≡ bytes_eq text (replicate n 48 ++ rest)
zeros_before text zero rest h = refl
zeros_before [] (suc n) rest h = absurd (omega (arith, h))
zeros_before (b ∷ bs) (suc n) rest h =
    and_assoc (b == 48) (list_all (λ x. x == 48) (take n bs)) (bytes_eq (drop n bs) rest)
    ∙ ap (λ y. (b == 48) && y) (zeros_before bs n rest (omega (arith, h)))

module _ (text front rest : List ℕ) (n : ℕ) (end : List ℕ) (le : n ≤ length text)
    (is_front : front ≡ take n text) (is_rest : rest ≡ drop n text) where
  -- the same of a front and a rest that were split off
  split_before : (list_all (λ b. b == 48) front && bytes_eq rest end) ≡ bytes_eq text
      (replicate n 48 ++ end)
  split_before = rw (is_front, is_rest) (zeros_before text n end le)

  pub zeros_and_rest : list_all (λ b. b == 48) front ≡ true →
      bytes_eq rest end ≡ bytes_eq text (replicate n 48 ++ end)
  zeros_and_rest all = let whole = rw all at split_before in whole

  pub no_zeros : list_all (λ b. b == 48) front ≡ false →
      false ≡ bytes_eq text (replicate n 48 ++ end)
  no_zeros all = let whole = rw all at split_before in whole
