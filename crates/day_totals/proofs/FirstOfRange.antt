-- The first that passes, among what a function makes of the numbers of a range.
use Rattle.std.proofs.Common.{◌≡◌, ℕ, zero, suc, ◌+◌, ◌<◌, Bool, true, false, Some, None, refl}
use Rattle.std.proofs.Common.{arith, map, find}
use Rattle.std.specs.List.{range_with_len}

later : (test : ℕ → Bool) (f : ℕ → ℕ) (a k : ℕ) → ((j : ℕ) → j < suc k → test (f (a + j)) ≡ false) →
    (j : ℕ) → j < k
    → test (f (a + 1 + j)) ≡ false
later test f a k none j h = let same : a + suc j ≡ a + 1 + j = omega arith in
    rw same at (none (suc j) (omega arith))

here : (test : ℕ → Bool) (f : ℕ → ℕ) (a : ℕ) (b : Bool) → test (f (a + 0)) ≡ b → test (f a) ≡ b
here test f a b e = let same : a + 0 ≡ a = omega arith in rw same at e

first_from : (test : ℕ → Bool) (f : ℕ → ℕ) (a n k : ℕ) → k < n →
    ((j : ℕ) → j < k → test (f (a + j)) ≡ false)
    → test (f (a + k)) ≡ true → find test (map f (range_with_len a n)) ≡ Some (f (a + k))
first_from test f a zero k h none passes = absurd (omega arith)
first_from test f a (suc n) zero h none passes =
    let same : a + 0 ≡ a = omega arith in rw (here test f a true passes, same)
first_from test f a (suc n) (suc k) h none passes =
    let same : a + suc k ≡ a + 1 + k = omega arith in
    let fails = here test f a false (none 0 (omega arith)) in
    rw (fails, same)
    (first_from test f (a + 1) n k (omega arith) (later test f a k none) (rw same at passes))

none_from : (test : ℕ → Bool) (f : ℕ → ℕ) (a n : ℕ) → ((j : ℕ) → j < n → test (f (a + j)) ≡ false)
    → find test (map f (range_with_len a n)) ≡ None
none_from test f a zero none = refl
none_from test f a (suc n) none =
    let fails = here test f a false (none 0 (omega arith)) in
    rw fails (none_from test f (a + 1) n (later test f a n none))

pub find-first : (test : ℕ → Bool) (f : ℕ → ℕ) (n k : ℕ) → k < n →
    ((j : ℕ) → j < k → test (f j) ≡ false) → test (f k)
    ≡ true → find test (map f (range_with_len 0 n)) ≡ Some (f k)
find-first test f n k h none passes =
    let same : 0 + k ≡ k = omega arith in
    let found = first_from test f 0 n k h
    (λ j less. let at : 0 + j ≡ j = omega arith in rw at (none j less))
    (rw same passes) in
    rw same at found

pub find-none : (test : ℕ → Bool) (f : ℕ → ℕ) (n : ℕ) → ((j : ℕ) → j < n → test (f j) ≡ false)
    → find test (map f (range_with_len 0 n)) ≡ None
find-none test f n none =
    none_from test f 0 n (λ j less. let at : 0 + j ≡ j = omega arith in rw at (none j less))
