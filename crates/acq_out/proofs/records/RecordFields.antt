-- The fields of a record, by their places.
use Rattle.std.proofs.Common.{◌≡◌, ℕ, zero, suc, ◌<◌, List, [], ◌∷◌, length, Some, None, arith}
use Rattle.csv.specs.Records.{field_at}

-- a field before the last place is there
pub field_there : (fs : List (List ℕ)) (i : ℕ) → i < length fs → field_at fs i ≡ None → ⊥
unfolding field_at
field_there [] i lt h = absurd (omega arith)
field_there (f ∷ fs) zero lt h = let e : Some f ≡ None = h in cc
field_there (f ∷ fs) (suc i) lt h = field_there fs i (omega arith) h

-- a record of six has these six
pub fields_six : (fs : List (List ℕ)) (a b c d e f : List ℕ) → length fs ≡ 6 →
    field_at fs 0 ≡ Some a
    → field_at fs 1 ≡ Some b → field_at fs 2 ≡ Some c → field_at fs 3 ≡ Some d →
    field_at fs 4 ≡ Some e
    → field_at fs 5 ≡ Some f → fs ≡ a ∷ b ∷ c ∷ d ∷ e ∷ f ∷ []
unfolding field_at
fields_six [] a b c d e f six h0 h1 h2 h3 h4 h5 = absurd (omega (arith, six))
fields_six (p ∷ []) a b c d e f six h0 h1 h2 h3 h4 h5 = absurd (omega (arith, six))
fields_six (p ∷ q ∷ []) a b c d e f six h0 h1 h2 h3 h4 h5 = absurd (omega (arith, six))
fields_six (p ∷ q ∷ r ∷ []) a b c d e f six h0 h1 h2 h3 h4 h5 = absurd (omega (arith, six))
fields_six (p ∷ q ∷ r ∷ s ∷ []) a b c d e f six h0 h1 h2 h3 h4 h5 = absurd (omega (arith, six))
fields_six (p ∷ q ∷ r ∷ s ∷ t ∷ []) a b c d e f six h0 h1 h2 h3 h4 h5 = absurd (omega (arith, six))
fields_six (p ∷ q ∷ r ∷ s ∷ t ∷ u ∷ []) a b c d e f six h0 h1 h2 h3 h4 h5 =
    let e0 : Some p ≡ Some a = h0 in
    let e1 : Some q ≡ Some b = h1 in
    let e2 : Some r ≡ Some c = h2 in
    let e3 : Some s ≡ Some d = h3 in
    let e4 : Some t ≡ Some e = h4 in
    let e5 : Some u ≡ Some f = h5 in
    cc
fields_six (p ∷ q ∷ r ∷ s ∷ t ∷ u ∷ v ∷ more) a b c d e f six h0 h1 h2 h3 h4 h5 =
    absurd (omega (arith, six))

-- a record of three has these three
pub fields_three : (fs : List (List ℕ)) (a b c : List ℕ) → length fs ≡ 3 → field_at fs 0 ≡ Some a
    → field_at fs 1 ≡ Some b → field_at fs 2 ≡ Some c → fs ≡ a ∷ b ∷ c ∷ []
unfolding field_at
fields_three [] a b c three h0 h1 h2 = absurd (omega (arith, three))
fields_three (p ∷ []) a b c three h0 h1 h2 = absurd (omega (arith, three))
fields_three (p ∷ q ∷ []) a b c three h0 h1 h2 = absurd (omega (arith, three))
fields_three (p ∷ q ∷ r ∷ []) a b c three h0 h1 h2 =
    let e0 : Some p ≡ Some a = h0 in
    let e1 : Some q ≡ Some b = h1 in
    let e2 : Some r ≡ Some c = h2 in
    cc
fields_three (p ∷ q ∷ r ∷ s ∷ more) a b c three h0 h1 h2 = absurd (omega (arith, three))
