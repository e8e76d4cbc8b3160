-- The fields of a record, by their places.
use Rattle.std.proofs.Common.{◌≡◌, ℕ, zero, suc, ◌<◌, true, false, List, [], ◌∷◌, Option, Some}
use Rattle.std.proofs.Common.{None, refl, arith, Bor}
use Rattle.std.specs.Prelude.{option_map, is_some}
use Rattle.std.proofs.lemmas.Bool.{true≢false, false≢true}
use Rattle.csv.specs.Records.{field_at}
use Rattle.card_no.specs.RangeFiles.{range_of_fields}

-- one of four fields is not there
pub fields-none : (fs : List (List ℕ)) (i : ℕ) → i < 4 → field_at fs i ≡ None →
    range_of_fields fs ≡ None
unfolding field_at
fields-none [] i lt h = refl
fields-none (a ∷ []) i lt h = refl
fields-none (a ∷ b ∷ []) i lt h = refl
fields-none (a ∷ b ∷ c ∷ []) i lt h = refl
fields-none (a ∷ b ∷ c ∷ d ∷ []) zero lt h = let e : Some a ≡ None = h in absurd cc
fields-none (a ∷ b ∷ c ∷ d ∷ []) (suc zero) lt h = let e : Some b ≡ None = h in absurd cc
fields-none (a ∷ b ∷ c ∷ d ∷ []) (suc (suc zero)) lt h = let e : Some c ≡ None = h in absurd cc
fields-none (a ∷ b ∷ c ∷ d ∷ []) (suc (suc (suc zero))) lt h = let e : Some d ≡ None = h in
    absurd cc
fields-none (a ∷ b ∷ c ∷ d ∷ []) (suc (suc (suc (suc i)))) lt h = absurd (omega arith)
fields-none (a ∷ b ∷ c ∷ d ∷ e ∷ more) i lt h = refl

-- there is a fifth
pub fields-more : (fs : List (List ℕ)) (o : Option (Bor (List ℕ))) → is_some o ≡ true →
    option_map (λ s. s.now) o
    ≡ field_at fs 4 → range_of_fields fs ≡ None
unfolding field_at
fields-more [] o there h = refl
fields-more (a ∷ []) o there h = refl
fields-more (a ∷ b ∷ []) o there h = refl
fields-more (a ∷ b ∷ c ∷ []) o there h = refl
fields-more (a ∷ b ∷ c ∷ d ∷ []) None there h = absurd (false≢true there)
fields-more (a ∷ b ∷ c ∷ d ∷ []) (Some x) there h = let e : Some x.now ≡ None = h in absurd cc
fields-more (a ∷ b ∷ c ∷ d ∷ e ∷ more) o there h = refl

-- there are these four
pub fields-four : (fs : List (List ℕ)) (a b c d : List ℕ) (o : Option (Bor (List ℕ)))
    → Some a ≡ field_at fs 0 → Some b ≡ field_at fs 1 → Some c ≡ field_at fs 2 →
    Some d ≡ field_at fs 3
    → is_some o ≡ false → option_map (λ s. s.now) o ≡ field_at fs 4 → fs ≡ a ∷ b ∷ c ∷ d ∷ []
unfolding field_at
fields-four [] a b c d o h0 h1 h2 h3 none h4 = let e : Some a ≡ None = h0 in absurd cc
fields-four (p ∷ []) a b c d o h0 h1 h2 h3 none h4 = let e : Some b ≡ None = h1 in absurd cc
fields-four (p ∷ q ∷ []) a b c d o h0 h1 h2 h3 none h4 = let e : Some c ≡ None = h2 in absurd cc
fields-four (p ∷ q ∷ r ∷ []) a b c d o h0 h1 h2 h3 none h4 = let e : Some d ≡ None = h3 in absurd cc
fields-four (p ∷ q ∷ r ∷ s ∷ []) a b c d o h0 h1 h2 h3 none h4 =
    let e0 : Some a ≡ Some p = h0 in
    let e1 : Some b ≡ Some q = h1 in
    let e2 : Some c ≡ Some r = h2 in
    let e3 : Some d ≡ Some s = h3 in
    cc
fields-four (p ∷ q ∷ r ∷ s ∷ t ∷ more) a b c d None h0 h1 h2 h3 none h4 = let e : None ≡ Some t =
    h4 in absurd cc
fields-four (p ∷ q ∷ r ∷ s ∷ t ∷ more) a b c d (Some x) h0 h1 h2 h3 none h4 =
    absurd (true≢false none)
